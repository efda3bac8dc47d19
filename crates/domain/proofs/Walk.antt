-- The walk over the subsets of a mask, from the mask itself downwards: after s comes the largest subset below s.
use Rattle.std.proofs.Common.{◌≡◌, ℕ, zero, suc, ◌-◌, ◌/◌, ◌%◌, ◌<◌, ◌≤◌, refl, ap, arith}
use lib.Arith.{bin_ind}
use lib.Bits.{bit_and, and_step}
use Rattle.domain.specs.Masks.{Within}
use Rattle.domain.proofs.Bits.{in_second, within_half, within_lowest, within_and}

-- no subset of u lies between s and the next one
pub next_subset : {s t u : ℕ} → Within s u → Within t u → t < s → t ≤ bit_and (s - 1) u
next_subset {s} {t} {u} v w h =
    bin_ind (λ s. (t u : ℕ) → Within s u → Within t u → t < s → t ≤ bit_and (s - 1) u) (λ t u v w h. absurd (omega arith)) step s t u v w h
  where
    step : (s : ℕ) → ((t u : ℕ) → Within (s / 2) u → Within t u → t < s / 2 → t ≤ bit_and (s / 2 - 1) u) → (t u : ℕ) → Within s u → Within t u → t < s → t ≤ bit_and (s - 1) u
    step s ih t u v w h = go (s % 2) refl
      where
        go : (d : ℕ) → s % 2 ≡ d → t ≤ bit_and (s - 1) u
        go zero e =
            let half : (s - 1) / 2 ≡ s / 2 - 1 = omega arith in
            let odd : (s - 1) % 2 ≡ 1 = omega arith in
            let below : t / 2 < s / 2 = omega arith in
            omega (arith, and_step (s - 1) u, ap (λ m. bit_and m (u / 2)) half, odd, ih (t / 2) (u / 2) (within_half v) (within_half w) below, within_lowest w)
        go (suc zero) e =
            let half : (s - 1) / 2 ≡ s / 2 = omega arith in
            omega (arith, and_step (s - 1) u, ap (λ m. bit_and m (u / 2)) half, within_and (within_half v))
        go (suc (suc d)) e = absurd (omega arith)

pub next_within : (s u : ℕ) → Within (bit_and (s - 1) u) u
next_within s u = record { each = λ p i. in_second (s - 1) u i }
