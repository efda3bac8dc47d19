use Rattle.coverage.proofs.ExistsSteps.{new_made}
use Rattle.coverage.proofs.changes.there_is_a_new_description.Goals as goal

pub returns : goal.returns
returns c = λ n. new_made n
