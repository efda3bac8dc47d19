use Rattle.coverage.proofs.ExistsFit.{fits_or_not}
use Rattle.coverage.proofs.least.a_core_fits_or_not.Goals as goal

pub returns : goal.returns
returns c = λ d k l. fits_or_not d k l
