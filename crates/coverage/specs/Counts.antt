-- How many groups a core has.
use Rattle.std.specs.Prelude.{◌≡◌, ℕ, ◌≤◌, ◌≢◌, ◌↔◌, List, length, Contains, AllPairs}
use Rattle.domain.specs.Told.{Told, Group}
use Rattle.domain.specs.Coverage.{Core, CoreFits, Alike}

-- the core has exactly k groups: they stand in a list of k entries, each once
pub record CoreCount (G : ℕ → Type 0) (k : ℕ) : Type 0 where
  pub groups : List ℕ
  pub counted : length groups ≡ k
  pub once : AllPairs (λ g h. g ≢ h) groups
  pub only : (g : ℕ) → Contains groups g → Core G g
  pub all : (g : ℕ) → Core G g → Contains groups g

-- a core of k groups fits a capacity exactly where k is not above it
abbrev pub CountDecidesFit : Type 0
CountDecidesFit = (d : Told) (k m : ℕ) → CoreCount (Group d) k → CoreFits (Group d) m ↔ (k ≤ m)

-- the cores of alike descriptions have the same number of groups
abbrev pub AlikeCountAlike : Type 0
AlikeCountAlike = (d e : Told) (j k : ℕ) → Alike d e → CoreCount (Group d) j → CoreCount (Group e) k → j ≡ k
