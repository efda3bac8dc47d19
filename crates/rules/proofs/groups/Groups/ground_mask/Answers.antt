use Rattle.std.proofs.Common.{true}
use Rattle.domain.specs.Masks.{Loses}
use Rattle.domain.proofs.Deciding.{without_mask}
use Rattle.rules.proofs.Reaching.{ground_unreached}
use Rattle.rules.proofs.groups.Groups.ground_mask.Goals as goal

pub returns : goal.returns
returns c =
    let rest : Loses c.all-every.result c.reach.result true c.without.result = rw c.without.ensures (without_mask c.all-every.result c.reach.result) in
    ground_unreached _ c.args.self.positions _ _ c.all-every.ensures c.reach.ensures rest
