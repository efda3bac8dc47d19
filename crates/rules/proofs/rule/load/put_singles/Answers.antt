use Rattle.std.proofs.Common.{length, arith}
use Rattle.std.proofs.lemmas.Nat.{pow_below}
use Rattle.domain.specs.declared.limits.TheConstants.{MOST_POSITIONS}
use Rattle.domain.proofs.Opening.{no_bits, singles_none, singles_more}
use Rattle.rules.proofs.rule.load.put_singles.Goals as goal

pub loop-p-init : goal.loop-p-init
loop-p-init c = singles_none _ (λ g. rw (c.fill.ensures.after (λ y e. e)) (no_bits (length c.args.table.now) g))

pub loop-p-preserved : goal.loop-p-preserved
loop-p-preserved c =
    let single = c.single.ensures.inside (omega arith) in
    singles_more _ _ c.loop-p.p _ single c.loop-p.invariant
    (c.put.ensures.at (omega (arith, single, pow_below c.loop-p.p MOST_POSITIONS (omega arith))))
    c.put.ensures.others
