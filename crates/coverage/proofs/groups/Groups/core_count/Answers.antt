use Rattle.std.proofs.Common.{arith}
use Rattle.std.proofs.lemmas.Bool.Decides.{not_from_Decides}
use Rattle.coverage.proofs.Counting.{count_start, count_skip, count_one, count_end, core_below}
use Rattle.domain.proofs.Refusing.{counted_few}
use Rattle.coverage.proofs.groups.Groups.core_count.Goals as goal
use Rattle.coverage.proofs.groups.Groups.core_count.Goals.{then-is_core, else-is_core}

pub loop-g-init : goal.loop-g-init
loop-g-init c =
    (omega arith, count_start)

pub loop-g-preserved : goal.loop-g-preserved
loop-g-preserved c =
    elim c.if-is_core.branch [
      | then-is_core w ↦ (
        omega (arith, w.count-is, c.loop-g.invariant.0),
        rw w.count-is (count_one (c.is_core.ensures.0 w.if-is_core.true) c.loop-g.invariant.1),
      )
      | else-is_core w ↦ (
        omega (arith, w.count-is, c.loop-g.invariant.0),
        rw w.count-is (count_skip (not_from_Decides _ c.is_core.ensures w.if-is_core.false) c.loop-g.invariant.1),
      )
    ]

pub returns : goal.returns
returns c =
    let given = counted_few c.args.self.now.positions tt _ c.in_ok-check_count.ensures in
    rw given.0
    (count_end
    (core_below c.args.self.now.positions c.args.self.now.table.now _ given.1 (omega (arith, c.loop-g-test.false)))
    c.loop-g.invariant.1)
