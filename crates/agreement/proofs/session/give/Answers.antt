use Rattle.agreement.proofs.Given.{given_more}
use Rattle.agreement.proofs.session.give.Goals as goal

pub returns-clause-given : goal.returns-clause-given
returns-clause-given g c = given_more _ _ _ _ _ c.respond.ensures.called
