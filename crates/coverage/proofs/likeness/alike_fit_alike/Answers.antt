use Rattle.coverage.proofs.CoreLeast.{core_fits}
use Rattle.coverage.proofs.likeness.alike_fit_alike.Goals as goal

pub returns : goal.returns
returns c = λ d e k a f. core_fits a f
