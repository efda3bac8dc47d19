use Rattle.agreement.proofs.Unique.{one_reckoned}
use Rattle.agreement.proofs.session.one_description_is_reckoned.Goals as goal

pub returns : goal.returns
returns c = one_reckoned
