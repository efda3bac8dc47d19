use Rattle.std.proofs.Common.{arith}
use Rattle.rules.specs.Views.{told_by}
use Rattle.rules.proofs.Linearity.{decides_ground_or, decides_or_once}
use Rattle.rules.proofs.bench.View.is_linear_at.Goals as goal

pub returns-then-reach-eq0 : goal.returns-then-reach-eq0
returns-then-reach-eq0 c =
    decides_ground_or (told_by c.args.self) c.args.term c.args.p _ c.requires (rw (c.single.ensures.inside (omega arith)) at c.reach.ensures) c.if-reach-eq0.true

pub returns-else-reach-eq0 : goal.returns-else-reach-eq0
returns-else-reach-eq0 c =
    decides_or_once (told_by c.args.self) c.args.term c.args.p _ _ c.requires (rw (c.single.ensures.inside (omega arith)) at c.reach.ensures) c.if-reach-eq0.false c.is_once.ensures
