use Rattle.coverage.proofs.ChangeLaws.{change_alike}
use Rattle.coverage.proofs.changes.change_keeps_alike.Goals as goal

pub returns : goal.returns
returns c = λ k d d' e e' a u v. change_alike k a u v
