use Rattle.coverage.proofs.JoinCover.{join_cover_to, join_cover_from}
use Rattle.coverage.proofs.action.join_covers_the_union.Goals as goal

pub returns : goal.returns
returns c = λ d e other w p q j. (λ k. join_cover_to j k, λ k. join_cover_from j k)
