use Rattle.coverage.proofs.ExistsCore.{core_listed}
use Rattle.coverage.proofs.least.a_core_has_a_list.Goals as goal

pub returns : goal.returns
returns c = λ d l. core_listed d l
