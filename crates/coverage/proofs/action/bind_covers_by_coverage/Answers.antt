use Rattle.coverage.proofs.BindCover.{bind_cover_to, bind_cover_from}
use Rattle.coverage.proofs.action.bind_covers_by_coverage.Goals as goal

pub returns : goal.returns
returns c = λ d a b k w p q. (λ h. bind_cover_to h, λ h. bind_cover_from h)
