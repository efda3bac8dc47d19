use Rattle.domain.proofs.Filling.{fills_by}
use Rattle.rules.proofs.groups.Groups.fills.Goals as goal

pub returns-then-base-g : goal.returns-then-base-g
returns-then-base-g c = (λ e. fills_by (c.is_shared.ensures.0 e) c.if-base-g.true, λ f. c.is_shared.ensures.1 f.told)
