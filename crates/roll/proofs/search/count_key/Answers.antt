use Rattle.std.proofs.Common.{arith}
use Rattle.std.proofs.lemmas.Bool.{both_ways}
use Rattle.roll.specs.Rolls.{none}
use Rattle.roll.proofs.Rolls.{counts_more_one, counts_more_other}
use Rattle.roll.proofs.search.count_key.Goals as goal
use Rattle.roll.proofs.search.count_key.Goals.{then-has_key, else-has_key}

pub loop-entry-init : goal.loop-entry-init
loop-entry-init g c = (omega arith, none)

pub loop-entry-preserved : goal.loop-entry-preserved
loop-entry-preserved g c =
    elim c.if-has_key.branch [
      | then-has_key w ↦ (
        omega (arith, w.count-is),
        rw w.count-is
            (counts_more_one _ _ c.args.entries.now c.loop-entry.entry-index _ _ (omega arith) c.entry-item.is (c.has_key.ensures.0 w.if-has_key.true)
            c.loop-entry.invariant.1),
      )
      | else-has_key w ↦ (
        omega (arith, w.count-is),
        rw w.count-is
            (counts_more_other _ _ c.args.entries.now c.loop-entry.entry-index _ _ (omega arith) c.entry-item.is
            (λ e. both_ways _ w.if-has_key.false (c.has_key.ensures.1 e))
            c.loop-entry.invariant.1),
      )
    ]
