use Rattle.coverage.proofs.Places.{same_answers}
use Rattle.coverage.proofs.likeness.alike_answer_alike.Goals as goal

pub returns : goal.returns
returns c = λ d e a. same_answers a
