use Rattle.coverage.proofs.CoreLeast.{core_same, dec_group}
use Rattle.coverage.proofs.least.core_covers_the_same.Goals as goal

pub returns : goal.returns
returns c = λ d. core_same (dec_group d)
