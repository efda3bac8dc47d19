-- Forget: positions are taken from every group, emptied groups are dropped, and each stands alone again.
use Rattle.std.specs.Prelude.{◌≡◌, ℕ, ◌^◌, ◌<◌, ◌⊎◌, bit_or}
use Rattle.domain.specs.Masks.{In, Within}
use Rattle.domain.specs.Told.{Told, Group, IsFree, IsLinear}

-- g is what a group of G leaves without the positions of m, and is not empty
pub record Stripped (G : ℕ → Type 0) (m g : ℕ) : Type 0 where
  pub group : ℕ
  pub told : G group
  pub keeps : (p : ℕ) → In p group → (In p m → ⊥) → In p g
  pub only : (p : ℕ) → In p g → In p group × (In p m → ⊥)
  pub not_empty : 0 < g

-- g is one position of m, alone
pub record Renewed (m g : ℕ) : Type 0 where
  pub place : ℕ
  pub forgotten : In place m
  pub only : g ≡ 2 ^ place

-- the groups that are left
abbrev pub Left : (ℕ → Type 0) → ℕ → ℕ → Type 0
Left G m g = Stripped G m g ⊎ Renewed m g

-- u, with some positions of m, is a group of G
pub record Supplied (G : ℕ → Type 0) (m u : ℕ) : Type 0 where
  pub part : ℕ
  pub inside : Within part m
  pub told : G (bit_or u part)

-- e is exactly d with the positions of m forgotten
pub record Forgotten (d : Told) (m : ℕ) (e : Told) : Type 0 where
  pub positions : e.n ≡ d.n
  pub groups_made : (g : ℕ) → Left (Group d) m g → Group e g
  pub groups_only : (g : ℕ) → Group e g → Left (Group d) m g
  pub free_made : (p : ℕ) → IsFree d p ⊎ In p m → IsFree e p
  pub free_only : (p : ℕ) → IsFree e p → IsFree d p ⊎ In p m
  pub linear_made : (p : ℕ) → IsLinear d p ⊎ In p m → IsLinear e p
  pub linear_only : (p : ℕ) → IsLinear e p → IsLinear d p ⊎ In p m
