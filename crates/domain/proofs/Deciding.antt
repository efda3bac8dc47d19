-- The tests that code makes on masks, and what they decide.
use Rattle.std.proofs.Common.{◌≡◌, ℕ, ◌<◌, true, not, eqb, Decides, refl, arith}
use lib.Bits.{bit_and, bit_xor}
use Rattle.std.proofs.lemmas.Bool.{eqb-false, ne_eqb, not-true, not_from_false}
use Rattle.domain.specs.Masks.{Meets, Loses}
use Rattle.domain.proofs.Bits.{meets_and, and_meets, in_lacking, lacking_in}

pub decides_meets : (a b : ℕ) → Decides (not (eqb (bit_and a b) 0)) (Meets a b)
decides_meets a b = (
  λ e. and_meets a b (some (bit_and a b) (eqb-false _ 0 (not-true _ e))),
  λ m. not_from_false _ (ne_eqb _ 0 (none (bit_and a b) (meets_and m))),
)
  where
    some : (m : ℕ) → (m ≡ 0 → ⊥) → 0 < m
    some m ne = omega (arith, ne)

    none : (m : ℕ) → 0 < m → m ≡ 0 → ⊥
    none m h e = omega arith

-- what the two masks compute is the mask that lost those of another
pub without_mask : (m l : ℕ) → Loses m l true (bit_xor m (bit_and m l))
without_mask m l =
    record { kept = λ p i out. in_lacking i (out refl); only = λ p i. let r = lacking_in m l i in (r.0, λ e. r.1) }
