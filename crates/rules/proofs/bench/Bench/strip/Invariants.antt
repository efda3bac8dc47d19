use Rattle.domain.specs.Forgetting.{Left}
use Rattle.domain.specs.Tables.{TableGroup}
use Rattle.domain.proofs.Tables.{WrittenUp}
use Rattle.rules.specs.Views.{SameBeside}
use Rattle.rules.proofs.bench.Bench.strip.Given as goal

abbrev pub invariant-loop-u : goal.invariant-loop-u
invariant-loop-u l =
    WrittenUp (Left (TableGroup l.fn.self.outline.positions l.initial.table) l.mask) l.initial.table l.table l.u
    × SameBeside l.fn.self.outline.positions l.initial.table l.table
