use Rattle.std.proofs.Common.{arith}
use Rattle.std.proofs.lemmas.Bool.{false≢true}
use Rattle.domain.proofs.Bits.{in_below}
use Rattle.domain.proofs.mask.has.Goals as goal

pub returns-then-p-ge16 : goal.returns-then-p-ge16
returns-then-p-ge16 c = (λ e. absurd (false≢true e), λ i. absurd (omega (arith, in_below 16 i c.ranges.mask.fits)))
