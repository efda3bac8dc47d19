use Rattle.std.proofs.Common.{◌≡◌}
use Rattle.domain.specs.Tables.{TableGroup}
use Rattle.coverage.proofs.ListedCores.{ListedTo}
use Rattle.coverage.proofs.groups.Groups.fill_core.Given as goal
use Rattle.roll.specs.Views.{slots}

-- the core groups below g stand at the start
abbrev pub invariant-loop-g : goal.invariant-loop-g
invariant-loop-g l =
    ListedTo (TableGroup l.self.positions l.self.table.now) (slots l.initial.roll) l.g l.roll.used (slots l.roll)
    × (l.roll.entries.ghost_name ≡ l.initial.roll.entries.ghost_name)
