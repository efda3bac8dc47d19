use Rattle.std.proofs.Common.{◌≡◌, false}
use Rattle.domain.specs.Tables.{TableGroup}
use Rattle.coverage.proofs.Pairs.{Closed, ClosedAt}
use Rattle.coverage.proofs.groups.Groups.has_open_pair.Given as goal

-- no pair with p has been open
abbrev pub invariant-loop-q : goal.invariant-loop-q
invariant-loop-q l = (l.open ≡ false) × ClosedAt (TableGroup l.self.positions l.self.table.now) l.g l.p l.q

-- no pair with a position below p has been open
abbrev pub invariant-pairs : goal.invariant-pairs
invariant-pairs l = (l.open ≡ false) × Closed (TableGroup l.self.positions l.self.table.now) l.g l.p
