use Rattle.std.proofs.Common.{refl, rules, arith}
use Rattle.std.proofs.lemmas.Iterator.{cases_from_all, YieldsList-from_range}
use Rattle.rules.specs.Views.{told_by}
use Rattle.rules.proofs.Linearity.{LinearAt, NotLinearAt, decides_linear}
use Rattle.rules.proofs.rule.sides.AskedBind.is_term_linear.Goals as goal

pub returns : goal.returns
returns c =
    let d = told_by c.args.self.view in
    let t = c.args.self.term in
    let n = c.args.self.view.groups.positions in
    decides_linear d t n c.all.result c.args.self.bindable.held
    (cases_from_all _ _ _ (LinearAt d t) (NotLinearAt d t) c.all.ensures.ran (YieldsList-from_range 0 n n refl (omega arith))
    (λ p q k. (search rules, search rules))
    (λ p q k. record { held = search rules; neither = search rules }))
