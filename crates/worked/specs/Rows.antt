-- A worked example: a keeper is opened and given some calls, and what then stands is written out.
use Rattle.std.specs.Prelude.{◌≡◌, ℕ, ◌≤◌, ◌↔◌, List, [], ◌∷◌, Contains, IfSome, Option}
use Rattle.domain.specs.Coverage.{CoreList}
use Rattle.domain.specs.Opening.{New}
use Rattle.domain.specs.Told.{Told, Group}
use Rattle.domain.specs.declared.marks.Marks.{Marks}
use Rattle.agreement.specs.Reckoning.{Reckoned}
use Rattle.agreement.specs.Sessions.{Call, Answer, SameCalls, Session}

pub record Row : Type 0 where
  pub n : ℕ
  -- the row speaks of every keeper with room for so many core groups, and, where there is such a number, for no more
  pub least : ℕ
  pub most : Option ℕ
  pub calls : List Call
  -- what every keeper answers to the calls
  pub answers : List Answer
  -- the description that is reckoned: all its groups, its core, its marks
  pub groups : List ℕ
  pub core : List ℕ
  pub marks : Marks

-- d is the description that the row writes out
pub record Shows (r : Row) (d : Told) : Type 0 where
  pub groups : (g : ℕ) → Group d g ↔ Contains r.groups g
  pub core : CoreList (Group d) r.core
  pub marks : d.marks ≡ r.marks

-- the capacities of the keepers that the row speaks of
abbrev pub SpeaksOf : Row → ℕ → Type 0
SpeaksOf r capacity = (r.least ≤ capacity) × IfSome r.most (λ most. capacity ≤ most)

-- the row is right of keepers of one capacity that are given these calls
pub record WorkedAt (r : Row) (capacity : ℕ) (cs : List Call) : Type 0 where
  -- the rules reckon a description from the calls, and it is the one written out
  pub told : Told
  pub reckoned : Reckoned r.n capacity cs told
  pub shows : (d : Told) → Reckoned r.n capacity cs d → Shows r d
  -- every keeper that is opened and given the calls answers as written
  pub answers : (start after : Told) (those : List Answer) → New r.n start
      → Session capacity cs start those after → those ≡ r.answers

-- the row is right of all the keepers that it speaks of, whatever lists are lent with its calls
abbrev pub Worked : Row → Type 0
Worked r =
    (capacity : ℕ) → SpeaksOf r capacity → (cs : List Call) → SameCalls r.calls cs
    → WorkedAt r capacity cs

-- every row of a list is right
abbrev pub AllWorked : List Row → Type 0
AllWorked [] = Unit {0}
AllWorked (r ∷ rs) = Worked r × AllWorked rs
