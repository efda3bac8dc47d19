use Rattle.coverage.proofs.Places.{new_alike}
use Rattle.coverage.proofs.changes.new_are_alike.Goals as goal

pub returns : goal.returns
returns c = λ n d e u v. new_alike u v
