use Rattle.domain.proofs.Deciding.{decides_meets}
use Rattle.domain.proofs.mask.meets.Goals as goal

pub returns : goal.returns
returns c = decides_meets c.args.a c.args.b
