use Rattle.coverage.proofs.CoreLeast.{core_kept}
use Rattle.coverage.proofs.Cover.{same_turned}
use Rattle.coverage.proofs.likeness.alike_have_one_core.Goals as goal

pub returns : goal.returns
returns c = λ d e a g. (λ k. core_kept a.cover k, λ k. core_kept (same_turned a.cover) k)
