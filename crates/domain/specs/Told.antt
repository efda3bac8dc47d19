-- What is told of a description: its number of positions, its groups and the marks of its positions.
use Rattle.std.specs.Prelude.{◌≡◌, ℕ, ◌^◌, ◌<◌, ◌≤◌, Bool, true}
use Rattle.domain.specs.Groups.{IsGround}
use Rattle.domain.specs.Masks.{In}
use Rattle.domain.specs.declared.limits.TheConstants.{MOST_POSITIONS}
use Rattle.domain.specs.declared.marks.Marks.{Marks}

-- g passes a test
pub record Passes (test : ℕ → Bool) (g : ℕ) : Type 0 where
  pub told : test g ≡ true

pub record Told : Type 0 where
  -- the number of positions; 0 where there is no description yet
  pub n : ℕ
  -- the test by which a mask is one of the groups
  pub groups : ℕ → Bool
  pub marks : Marks

-- g is one of the groups
abbrev pub Group : Told → ℕ → Type 0
Group d = Passes d.groups

-- position p is free
abbrev pub IsFree : Told → ℕ → Type 0
IsFree d p = In p d.marks.free

-- position p is linear
abbrev pub IsLinear : Told → ℕ → Type 0
IsLinear d p = In p d.marks.linear

-- The rules of the marks of n positions, beside the groups G.
pub record LawfulMarks (n : ℕ) (G : ℕ → Type 0) (m : Marks) : Type 0 where
  pub linear_in_range : m.linear < 2 ^ n
  pub free_is_linear : (p : ℕ) → In p m.free → In p m.linear
  pub ground_is_linear : (p : ℕ) → IsGround n G p → In p m.linear
  pub free_is_not_ground : (p : ℕ) → In p m.free → IsGround n G p → ⊥

-- The rules of a description. One that breaks any of them does not exist.
pub record Lawful (d : Told) : Type 0 where
  pub some_positions : 0 < d.n
  pub few_positions : d.n ≤ MOST_POSITIONS
  -- groups are sets of positions, and not empty
  pub in_range : (g : ℕ) → Group d g → (0 < g) × (g < 2 ^ d.n)
  pub marks : LawfulMarks d.n (Group d) d.marks
