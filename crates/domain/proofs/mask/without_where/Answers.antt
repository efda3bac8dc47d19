use Rattle.domain.proofs.Deciding.{without_mask}
use Rattle.domain.proofs.mask.without_where.Goals as goal

pub returns-then-drops : goal.returns-then-drops
returns-then-drops c =
    let w = without_mask c.args.mask c.args.lost in rw (c.if-drops.true, c.without.ensures) w
