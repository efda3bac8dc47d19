use Rattle.std.proofs.Common.{◌≡◌, take}
use Rattle.reader.specs.Records.{groups_at}
use Rattle.reader.proofs.groups.copy.Given as goal

abbrev pub invariant-loop-i : goal.invariant-loop-i
invariant-loop-i l = take l.i l.groups ≡ groups_at l.sheet l.start l.i
