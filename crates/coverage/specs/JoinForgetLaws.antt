-- How a join and a forget act on coverage.
use Rattle.std.specs.Prelude.{◌≡◌, ℕ, ◌⊎◌, ◌↔◌, List, Contains, bit_or}
use Rattle.domain.specs.Masks.{In}
use Rattle.domain.specs.Told.{Told, Group}
use Rattle.domain.specs.Coverage.{Covers}
use Rattle.domain.specs.Forgetting.{Forgotten}
use Rattle.domain.specs.Joining.{Joined}
use Rattle.domain.specs.declared.listing.Listing.{Listing}

-- a pair is covered after a join where the description covered it, or the list does
abbrev pub JoinCoverage : Type 0
JoinCoverage =
    (d e : Told) (other : Listing (List ℕ)) (w p q : ℕ) → Joined d other e
    → Covers (Group e) w p q ↔ (Covers (Group d) w p q ⊎ Covers (Contains other.groups) w p q)

-- the pair is covered after the positions of m are forgotten: two others where they were covered
-- in the window together with m, and one of m only with itself
pub data ForgetCovers (C : ℕ → ℕ → ℕ → Type 0) (m w p q : ℕ) : Type 0 where
  others : (In p m → ⊥) → (In q m → ⊥) → C (bit_or w m) p q → ForgetCovers C m w p q
  itself : In p m → p ≡ q → In p w → ForgetCovers C m w p q

-- exactly those pairs are covered after a forget
abbrev pub ForgetCoverage : Type 0
ForgetCoverage =
    (d e : Told) (m w p q : ℕ) → Forgotten d m e
    → Covers (Group e) w p q ↔ ForgetCovers (Covers (Group d)) m w p q
