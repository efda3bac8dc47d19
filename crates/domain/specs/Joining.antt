-- Join: the union of the groups, and the marks that both sides have.
use Rattle.std.specs.Prelude.{◌≡◌, ℕ, ◌^◌, ◌<◌, ◌⊎◌, List, Contains}
use Rattle.domain.specs.Masks.{In}
use Rattle.domain.specs.Told.{Told, Group, IsFree, IsLinear, LawfulMarks}
use Rattle.domain.specs.declared.listing.Listing.{Listing}

-- e is exactly d joined with the marks and the list of groups that are given
pub record Joined (d : Told) (other : Listing (List ℕ)) (e : Told) : Type 0 where
  pub positions : e.n ≡ d.n
  pub groups_made : (g : ℕ) → Group d g ⊎ Contains other.groups g → Group e g
  pub groups_only : (g : ℕ) → Group e g → Group d g ⊎ Contains other.groups g
  pub free_common : (p : ℕ) → IsFree d p → In p other.marks.free → IsFree e p
  pub free_only : (p : ℕ) → IsFree e p → IsFree d p × In p other.marks.free
  pub linear_common : (p : ℕ) → IsLinear d p → In p other.marks.linear → IsLinear e p
  pub linear_only : (p : ℕ) → IsLinear e p → IsLinear d p × In p other.marks.linear

-- what is given to a join is itself a description of n positions
pub record LawfulListing (n : ℕ) (other : Listing (List ℕ)) : Type 0 where
  pub in_range : (g : ℕ) → Contains other.groups g → (0 < g) × (g < 2 ^ n)
  pub marks : LawfulMarks n (Contains other.groups) other.marks
