use Rattle.std.proofs.Common.{refl}
use Rattle.std.proofs.lemmas.Bool.Decides.{not_from_Decides}
use Rattle.domain.proofs.Deciding.{without_mask}
use Rattle.rules.specs.Views.{told_by}
use Rattle.rules.proofs.Linearity.{decides_once}
use Rattle.rules.proofs.bench.View.is_once.Goals as goal

pub returns : goal.returns
returns c =
    let others = without_mask c.reach.result c.single-alone.result in
    decides_once (told_by c.args.self) c.args.term c.args.p c.reach.result c.without-others.result
    (c.single-alone.ensures.inside c.requires) c.reach.ensures
    (rw c.without-others.ensures (λ q i out. others.kept q i (λ e. out)))
    (rw c.without-others.ensures (λ q i. let r = others.only q i in (r.0, r.1 refl)))
    c.meets.result
    (c.is_linear.ensures.0 c.if-not-is_linear.false)
    (not_from_Decides _ c.if-has.ensures refl)
    c.meets.ensures
