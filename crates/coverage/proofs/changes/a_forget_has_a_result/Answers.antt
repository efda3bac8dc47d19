use Rattle.coverage.proofs.ExistsSteps.{forget_made}
use Rattle.coverage.proofs.changes.a_forget_has_a_result.Goals as goal

pub returns : goal.returns
returns c = λ d m. forget_made d m
