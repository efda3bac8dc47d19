-- The core of a table, written into a list.
use Rattle.std.specs.Prelude.{◌≡◌, ℕ, List, ◌++◌, length, drop, Some, None, Ok, Err, Option, Result}
use Rattle.domain.specs.Coverage.{CoreFits, CoreList}
use Rattle.domain.specs.Refusals.{first_of}
use Rattle.domain.specs.Requests.{open_tests}
use Rattle.domain.specs.Tables.{TableGroup}
use Rattle.domain.specs.declared.refusal.Refusal.{Refusal}
use Rattle.domain.specs.declared.refusal.Refusal.TheVariants.{Room}

-- the core stands at the start of the list, and the other entries stay
pub record FillsCore (G : ℕ → Type 0) (list list' : List ℕ) (count : ℕ) : Type 0 where
  pub groups : List ℕ
  pub core : CoreList G groups
  pub counted : count ≡ length groups
  pub at_start : list' ≡ groups ++ drop count list

-- n is refused where no description has so many positions; then a list that is too short, which stays
abbrev pub WritesOr : Option Refusal → (ℕ → Type 0) → List ℕ → List ℕ → Result ℕ Refusal → Type 0
WritesOr (Some e) G list list' r = (r ≡ Err e) × (list' ≡ list)
WritesOr None G list list' (Ok k) = FillsCore G list list' k
WritesOr None G list list' (Err e) = (e ≡ Room) × (list' ≡ list) × (CoreFits G (length list) → ⊥)

abbrev pub WritesCore : ℕ → List ℕ → List ℕ → List ℕ → Result ℕ Refusal → Type 0
WritesCore n table list list' r = WritesOr (first_of (open_tests n)) (TableGroup n table) list list' r
