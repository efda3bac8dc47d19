-- What the core is: the least set of groups that covers the same pairs.
use Rattle.std.specs.Prelude.{◌≡◌, ℕ, ◌⊎◌, ◌↔◌, List}
use Rattle.domain.specs.Told.{Told, Group, Lawful}
use Rattle.domain.specs.Coverage.{SameCover, Alike, Core, CoreFits, CoreList}

-- the core covers the same pairs in every window as the whole set
abbrev pub CoreCovers : Type 0
CoreCovers = (d : Told) → SameCover (Core (Group d)) (Group d)

-- each set of groups that covers the same pairs holds every core group
abbrev pub CoreIsLeast : Type 0
CoreIsLeast = (d e : Told) → SameCover (Group d) (Group e) → (g : ℕ) → Core (Group d) g → Group e g

-- the core groups of a description that keeps the rules stand in some ascending list
abbrev pub CoreHasList : Type 0
CoreHasList = (d : Told) → Lawful d → (gs : List ℕ) × CoreList (Group d) gs

-- that core fits a capacity, or it does not
abbrev pub CoreFitsOrNot : Type 0
CoreFitsOrNot = (d : Told) (k : ℕ) → Lawful d → CoreFits (Group d) k ⊎ (CoreFits (Group d) k → ⊥)

-- alike descriptions have the same core groups
abbrev pub AlikeHaveOneCore : Type 0
AlikeHaveOneCore = (d e : Told) → Alike d e → (g : ℕ) → Core (Group d) g ↔ Core (Group e) g

-- descriptions with the same core groups, positions and marks are alike
abbrev pub OneCoreIsAlike : Type 0
OneCoreIsAlike =
    (d e : Told) → d.n ≡ e.n → d.marks ≡ e.marks
    → ((g : ℕ) → Core (Group d) g ↔ Core (Group e) g) → Alike d e

-- whether the core has at most k groups is the same for alike descriptions
abbrev pub AlikeFitAlike : Type 0
AlikeFitAlike = (d e : Told) (k : ℕ) → Alike d e → CoreFits (Group d) k → CoreFits (Group e) k
