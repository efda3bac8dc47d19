use Rattle.coverage.proofs.ExistsSteps.{join_made}
use Rattle.coverage.proofs.changes.a_join_has_a_result.Goals as goal

pub returns : goal.returns
returns c = λ d other. join_made d other
