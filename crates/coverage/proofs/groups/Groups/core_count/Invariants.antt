use Rattle.std.proofs.Common.{◌<◌}
use Rattle.domain.specs.Tables.{TableGroup}
use Rattle.coverage.proofs.Counting.{CountedTo}
use Rattle.coverage.proofs.groups.Groups.core_count.Given as goal

-- the core groups below g are counted
abbrev pub invariant-loop-g : goal.invariant-loop-g
invariant-loop-g l = (l.count < l.g) × CountedTo (TableGroup l.self.positions l.self.table.now) l.g l.count
