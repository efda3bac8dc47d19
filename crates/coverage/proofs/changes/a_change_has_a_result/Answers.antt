use Rattle.coverage.proofs.ChangeLaws.{change_made}
use Rattle.coverage.proofs.changes.a_change_has_a_result.Goals as goal

pub returns : goal.returns
returns c = λ k d l. change_made k d l
