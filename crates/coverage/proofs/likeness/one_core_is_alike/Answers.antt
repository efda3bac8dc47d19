use Rattle.coverage.proofs.CoreLeast.{same_core}
use Rattle.coverage.proofs.likeness.one_core_is_alike.Goals as goal

pub returns : goal.returns
returns c = λ d e n m s. record { positions = n; marks = m; cover = same_core d e (λ g. (s g).0) (λ g. (s g).1) }
