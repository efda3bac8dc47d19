-- Shortcuts of the rules that give something else, each with an example in which it does.
use Rattle.std.specs.Prelude.{◌≡◌, ℕ, ◌^◌, ◌≢◌, ◌⊎◌, ◌↔◌, List, [], ◌∷◌, ◌++◌, Contains}
use Rattle.agreement.specs.Reckoning.{Reckoned}
use Rattle.agreement.specs.Sessions.{Call, SameCalls}
use Rattle.domain.specs.Binding.{FreeTerm, LinearTerm, NewGroup, StaysFree, Bound}
use Rattle.domain.specs.Coverage.{CoreList}
use Rattle.domain.specs.Masks.{In, Within}
use Rattle.domain.specs.Groups.{Near, IsGround}
use Rattle.domain.specs.Terms.{bare_term, constant_term, over_term}
use Rattle.domain.specs.Told.{Told, Group, IsFree, IsLinear}
use Rattle.domain.specs.declared.limits.TheConstants.{MOST_GROUPS}
use Rattle.domain.specs.declared.case.Case.{Case}
use Rattle.domain.specs.declared.case.Case.TheVariants.{Free, BothLinear, PositionLinear, TermLinear, Neither}
use Rattle.domain.specs.declared.term.Term.{Term}
use Rattle.worked.specs.Rows.{Row, Shows, SpeaksOf, Worked}
use Rattle.worked.specs.Table.{bind_to, row, five}

-- ---- the core is more than the groups in which no smaller one lies

pub record Minimal (G : ℕ → Type 0) (g : ℕ) : Type 0 where
  pub told : G g
  pub least : (h : ℕ) → G h → Within h g → h ≢ g → ⊥

-- the core of a list of groups, and the groups of the list that are minimal
pub record Beside (groups cores minimals : List ℕ) : Type 0 where
  pub core : CoreList (Contains groups) cores
  pub minimal : (g : ℕ) → Minimal (Contains groups) g ↔ Contains minimals g

-- 7 is a core group where nothing inside it covers positions 0 and 2, and none where 5 does
pub record MinimalIsTooFew : Type 0 where
  pub pair_left_out : Beside (3 ∷ 6 ∷ 7 ∷ []) (3 ∷ 6 ∷ 7 ∷ []) (3 ∷ 6 ∷ [])
  pub all_pairs : Beside (3 ∷ 5 ∷ 6 ∷ 7 ∷ []) (3 ∷ 5 ∷ 6 ∷ []) (3 ∷ 5 ∷ 6 ∷ [])
  pub in_a_row : Beside five.groups five.core (19 ∷ 21 ∷ 25 ∷ [])

-- ---- the bind rule with two parts left open

-- the first case that fits, where L is said of the term in place of `LinearTerm`
abbrev pub FitsBy : Type 0 → Told → ℕ → Term → Case → Type 0
FitsBy L d x t Free = IsFree d x ⊎ FreeTerm d t
FitsBy L d x t BothLinear = (IsFree d x → ⊥) × (FreeTerm d t → ⊥) × IsLinear d x × L
FitsBy L d x t PositionLinear = (IsFree d x → ⊥) × (FreeTerm d t → ⊥) × IsLinear d x × (L → ⊥)
FitsBy L d x t TermLinear = (IsFree d x → ⊥) × (FreeTerm d t → ⊥) × (IsLinear d x → ⊥) × L
FitsBy L d x t Neither = (IsFree d x → ⊥) × (FreeTerm d t → ⊥) × (IsLinear d x → ⊥) × (L → ⊥)

pub record StaysBy (L : Type 0) (d : Told) (x : ℕ) (t : Term) (p : ℕ) : Type 0 where
  pub was : IsLinear d p
  pub far_from_both : Near (Group d) (2 ^ x) p → Near (Group d) t.held p → ⊥
  pub far_from_x : (L → ⊥) → Near (Group d) (2 ^ x) p → ⊥
  pub far_from_t : (IsLinear d x → ⊥) → Near (Group d) t.held p → ⊥

-- L is said of the term, and the positions of which `Again` holds are added to the linear mask
pub record BoundBy (L : Type 0) (Again : Told → ℕ → Type 0) (d : Told) (x : ℕ) (t : Term) (e : Told) : Type 0 where
  pub positions : e.n ≡ d.n
  pub case : Case
  pub fits : FitsBy L d x t case
  pub groups_made : (g : ℕ) → NewGroup (Group d) (2 ^ x) t.held case g → Group e g
  pub groups_only : (g : ℕ) → Group e g → NewGroup (Group d) (2 ^ x) t.held case g
  pub free_kept : (p : ℕ) → StaysFree d x t p → IsFree e p
  pub free_only : (p : ℕ) → IsFree e p → StaysFree d x t p
  pub linear_kept : (p : ℕ) → StaysBy L d x t p → IsLinear e p
  pub linear_added : (p : ℕ) → Again e p → IsLinear e p
  pub linear_only : (p : ℕ) → IsLinear e p → StaysBy L d x t p ⊎ Again e p

abbrev pub FreeAgain : Told → ℕ → Type 0
FreeAgain e p = IsFree e p

abbrev pub FreeOrGround : Told → ℕ → Type 0
FreeOrGround e p = IsFree e p ⊎ IsGround e.n (Group e) p

-- with the rule's own two parts it is the rule
abbrev pub RuleOfParts : Type 0
RuleOfParts = (d e : Told) (x : ℕ) (t : Term) → Bound d x t e ↔ BoundBy (LinearTerm d t) FreeOrGround d x t e

-- ---- two shortcuts of the bind rule

-- by counting alone: each position of the term is linear and stands in it once, whatever they share
pub record CountedLinear (d : Told) (t : Term) : Type 0 where
  pub each : (p : ℕ) → In p t.held → IsLinear d p × (In p t.repeated → ⊥)

-- 0 is bound to position 1: f(0, 1) is linear by counting, and not by the rule, since 0 and 1 share
abbrev pub SharersAreNotLinear : Type 0
SharersAreNotLinear =
    (cs : List Call) → SameCalls (bind_to 0 (bare_term 1) ∷ []) cs → (d : Told) → Reckoned 2 MOST_GROUPS cs d
    → CountedLinear d (over_term 3 0) × (LinearTerm d (over_term 3 0) → ⊥)

-- the rule with that verdict
abbrev pub Counting : Told → ℕ → Term → Told → Type 0
Counting d x t e = BoundBy (CountedLinear d t) FreeOrGround d x t e

-- the rule where positions that turned ground are not added to the linear mask
abbrev pub OmittingGround : Told → ℕ → Term → Told → Type 0
OmittingGround d x t e = BoundBy (LinearTerm d t) FreeAgain d x t e

-- the calls, and then the bind
abbrev pub bound : List Call → ℕ → Term → List Call
bound before x t = before ++ (bind_to x t ∷ [])

-- From what the calls before reckon, with any room that the row `right` speaks of, the shortcut makes of the bind
-- what the row `wrong` writes out; the rule makes what the row `right` does.
pub record Differs (Shortcut : Told → ℕ → Term → Told → Type 0) (before : List Call) (x : ℕ) (t : Term) (right wrong : Row) : Type 0 where
  pub calls : right.calls ≡ bound before x t
  pub rule : Worked right
  pub shortcut : (capacity : ℕ) → SpeaksOf right capacity → (cs : List Call) → SameCalls before cs
      → (d : Told) → Reckoned right.n capacity cs d → (e : Told) × Shortcut d x t e × Shows wrong e

-- 0 is bound to f(1, 3, 4) and 2 to position 1; then 0 to f(1, 2), where 1 and 2 share
abbrev pub sharers : List Call
sharers = bind_to 0 (over_term 26 0) ∷ bind_to 2 (bare_term 1) ∷ []

abbrev pub CountingDiffers : Type 0
CountingDiffers =
    Differs Counting sharers 0 (over_term 6 0)
    (row 5 5 (bound sharers 0 (over_term 6 0)) (7 ∷ 15 ∷ 23 ∷ 31 ∷ []) (7 ∷ 15 ∷ 23 ∷ 31 ∷ []) 0 0)
    (row 5 5 (bound sharers 0 (over_term 6 0)) (7 ∷ 15 ∷ 23 ∷ []) (7 ∷ 15 ∷ 23 ∷ []) 0 24)

-- 0 is bound to f(1, 1), then to a constant
abbrev pub repeats : List Call
repeats = bind_to 0 (over_term 2 2) ∷ []

abbrev pub OmittingGroundDiffers : Type 0
OmittingGroundDiffers =
    Differs OmittingGround repeats 0 constant_term (row 2 2 (bound repeats 0 constant_term) [] [] 0 3) (row 2 2 (bound repeats 0 constant_term) [] [] 0 2)
