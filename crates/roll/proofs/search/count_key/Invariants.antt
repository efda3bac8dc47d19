use Rattle.std.proofs.Common.{◌≤◌, take}
use Rattle.roll.specs.Rolls.{Counts}
use Rattle.roll.proofs.search.count_key.Given as goal

abbrev pub invariant-loop-entry : goal.invariant-loop-entry
invariant-loop-entry g l = (l.count ≤ l.entry-index) × Counts g.T.Keyed.key l.key (take l.entry-index l.entries) l.count
