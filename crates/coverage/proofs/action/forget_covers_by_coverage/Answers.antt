use Rattle.coverage.proofs.ForgetCover.{forget_cover_to, forget_cover_from}
use Rattle.coverage.proofs.action.forget_covers_by_coverage.Goals as goal

pub returns : goal.returns
returns c = λ d e m w p q f. (λ k. forget_cover_to f k, λ k. forget_cover_from f k)
