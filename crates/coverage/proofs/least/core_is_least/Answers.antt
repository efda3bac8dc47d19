use Rattle.coverage.proofs.CoreLeast.{core_held}
use Rattle.coverage.proofs.least.core_is_least.Goals as goal

pub returns : goal.returns
returns c = λ d e s g k. core_held s k
