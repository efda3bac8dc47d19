-- The laws over runs, for keepers of any build and any list of calls.
use Rattle.std.specs.Prelude.{◌≡◌, ℕ, ◌↔◌, List, ◌++◌, length, drop, Contains, Ok, Err, Result, Bool, IsTrue, IfOk, OnOk, [], ◌∷◌}
use Rattle.std.specs.List.{AllByRecursion}
use Rattle.domain.specs.Coverage.{Alike, SameCover, CoreList}
use Rattle.domain.specs.Told.{Told, Group}
use Rattle.keeper.specs.declared.fault.KeeperFault.{KeeperFault}
use Rattle.keeper.specs.declared.write_out.WrittenOut.{WrittenOut}
use Rattle.agreement.specs.Reckoning.{Opened, Reckoned, Given}
use Rattle.agreement.specs.Sessions.{Call, CanBeMade, Answer, SameCalls, Session}

-- ---- alike keepers are those that nothing tells apart

-- No further list of calls that can be made tells two keepers apart that have one capacity and tell s and t:
-- whatever the one may answer, the other answers the same.
abbrev pub NothingTellsApart : ℕ → Told → Told → Type 0
NothingTellsApart capacity s t =
    (cs : List Call) (these those : List Answer) (s' t' : Told)
    → AllByRecursion CanBeMade cs
    → Session capacity cs s these s' → Session capacity cs t those t' → these ≡ those

-- The same of any lists of calls, those that cannot be made among them, and whatever is lent to the one and to the
-- other that a call does not work in.
abbrev pub NeverToldApart : ℕ → Told → Told → Type 0
NeverToldApart capacity s t =
    (cs ds : List Call) (these those : List Answer) (s' t' : Told) → SameCalls cs ds
    → Session capacity cs s these s' → Session capacity ds t those t' → these ≡ those

-- s and t are told by keepers of one capacity, each opened with n positions and given a list of calls:
-- their reckoned descriptions are alike exactly when nothing tells the two apart
abbrev pub AlikeAreNotToldApart : ℕ → Told → Told → Type 0
AlikeAreNotToldApart capacity s t =
    (n : ℕ) (cs ds : List Call) (d e : Told)
    → Given n capacity cs s → Reckoned n capacity cs d
    → Given n capacity ds t → Reckoned n capacity ds e
    → (Alike d e → NeverToldApart capacity s t) × (NothingTellsApart capacity s t → Alike d e)

-- What the answer of a comparison means, of keepers of one capacity that were opened with one n and each given any
-- calls: yes exactly when nothing tells them apart.
abbrev pub MeansAlike : ℕ → Told → Told → Result Bool KeeperFault → Type 0
MeansAlike capacity s t r =
    (n : ℕ) (cs ds : List Call) → Opened n → Given n capacity cs s → Given n capacity ds t
    → IfOk r (λ yes'. IsTrue yes' ↔ NothingTellsApart capacity s t)

-- every opened keeper has a reckoned description, and only one
pub record OneReckoned : Type 0 where
  pub some : (n capacity : ℕ) (cs : List Call) → Opened n → (d : Told) × Reckoned n capacity cs d
  pub one : (n capacity : ℕ) (cs : List Call) (d e : Told) → Reckoned n capacity cs d → Reckoned n capacity cs e → d ≡ e
  -- and it is that of the same calls, whatever is lent that they do not work in
  pub same : (n capacity : ℕ) (cs ds : List Call) (d : Told) → SameCalls cs ds
      → Reckoned n capacity ds d → Reckoned n capacity cs d

-- ---- a write-out is the least that covers

-- gs is the core of d, covers the same pairs in every window, and every list that does so holds each of its groups
pub record LeastCover (d : Told) (gs : List ℕ) : Type 0 where
  pub core : CoreList (Group d) gs
  pub same : SameCover (Contains gs) (Group d)
  pub least : (hs : List ℕ) → SameCover (Contains hs) (Group d) → (g : ℕ) → Contains gs g → Contains hs g

-- what a write-out that is not refused gives of the reckoned description d
pub record WritesLeast (d : Told) (list list' : List ℕ) (w : WrittenOut) : Type 0 where
  pub groups : List ℕ
  pub count : w.count ≡ length groups
  pub at_start : list' ≡ groups ++ drop (length groups) list
  pub marks : w.marks ≡ d.marks
  pub least : LeastCover d groups

abbrev pub WriteOutIsLeast : ℕ → Told → List ℕ → List ℕ → Result WrittenOut KeeperFault → Type 0
WriteOutIsLeast capacity t list list' (Ok w) =
    (n : ℕ) (cs : List Call) (d : Told) → Given n capacity cs t → Reckoned n capacity cs d → WritesLeast d list list' w
WriteOutIsLeast capacity t list list' (Err f) = Unit {0}

-- ---- keepers that the laws speak of

-- an accepted open makes a keeper one that was opened with n positions and given no calls
abbrev pub OpensGiven : ℕ → ℕ → Told → Result (Unit {0}) KeeperFault → Type 0
OpensGiven n capacity t r = OnOk r (Opened n × Given n capacity [] t)

-- one call more makes a keeper that was given some calls one that was given these and that one
abbrev pub OneMoreGiven : ℕ → Call → Told → Told → Type 0
OneMoreGiven capacity c before after =
    (n : ℕ) (cs : List Call) → Given n capacity cs before → Given n capacity (cs ++ c ∷ []) after
