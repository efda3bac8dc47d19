-- Whether the core fits a capacity can be decided: its list is counted.
use Rattle.std.proofs.Common.{ℕ, ◌⊎◌, length, inl, inr}
use native.Mathlib.Decide.{dec_le, map_dec}
use Rattle.domain.specs.Told.{Told, Group, Lawful}
use Rattle.domain.specs.Coverage.{CoreFits}
use Rattle.coverage.proofs.Counting.{list_counted, count_fits, fits_count}
use Rattle.coverage.proofs.ExistsCore.{core_listed}

pub dec_core_fits : {d : Told} → Lawful d → (k : ℕ) → Dec (CoreFits (Group d) k)
dec_core_fits {d} l k =
    let r = core_listed d l in
    let c = list_counted r.1 in
    map_dec (λ h. count_fits c h) (λ f. fits_count c f) (dec_le (length r.0) k)

pub fits_or_not : (d : Told) (k : ℕ) → Lawful d → CoreFits (Group d) k ⊎ (CoreFits (Group d) k → ⊥)
fits_or_not d k l = elim (dec_core_fits l k) [ yes f ↦ inl f | no n ↦ inr n ]
