use Rattle.coverage.proofs.Counting.{count_fits, fits_count}
use Rattle.coverage.proofs.least.count_decides_fit.Goals as goal

pub returns : goal.returns
returns c = λ d k m n. (λ f. fits_count n f, λ h. count_fits n h)
