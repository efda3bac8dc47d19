use Rattle.rules.specs.Views.{told_by}
use Rattle.rules.proofs.Linearity.{decides_free_term}
use Rattle.rules.proofs.rule.sides.AskedBind.is_term_free.Goals as goal

pub returns-then-self : goal.returns-then-self
returns-then-self c =
    decides_free_term (told_by c.args.self.view) c.args.self.term _ c.if-self.true (c.args.self.bindable.bare c.if-self.true) c.meets.ensures
