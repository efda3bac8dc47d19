use Rattle.std.proofs.Common.{◌^◌}
use Rattle.domain.specs.Binding.{NewGroup}
use Rattle.domain.specs.Tables.{TableGroup}
use Rattle.domain.proofs.Tables.{Written}
use Rattle.rules.specs.Views.{SameBeside}
use Rattle.rules.proofs.bench.Bench.rewrite.Given as goal

abbrev pub invariant-loop-u : goal.invariant-loop-u
invariant-loop-u l =
    Written (NewGroup (TableGroup l.fn.self.outline.positions l.initial.table) l.bind.own l.bind.held l.bind.case)
    l.initial.table l.table l.u (2 ^ l.fn.self.outline.positions)
    × SameBeside l.fn.self.outline.positions l.initial.table l.table
