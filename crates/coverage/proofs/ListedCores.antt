-- Writing the core groups into a list, in ascending order.
use Rattle.std.proofs.Common.{◌≡◌, ℕ, ◌+◌, ◌-◌, ◌<◌, ◌≤◌, List, ◌++◌, length, get_or, take, drop, set, Some, None, Ok, Option, sym, refl, ap, ◌∙◌, subst, arith, length-append, length-drop, take_at}
use Rattle.std.specs.List.{AllByRecursion}
use Rattle.std.proofs.lemmas.List.Elements.{Contains-get_or, recursion_from_All}
use Rattle.domain.specs.Coverage.{Core, CoreFits}
use Rattle.domain.specs.declared.refusal.Refusal.{Refusal}
use Rattle.domain.proofs.Written.{written_more}
use Rattle.coverage.proofs.Counting.{CountedTo, count_start, count_skip, count_one, counted_room, counted_list}
use Rattle.coverage.specs.Listing.{FillsCore, WritesOr}

-- the core groups below g stand at the start of the list
pub record ListedTo (G : ℕ → Type 0) (start : List ℕ) (g used : ℕ) (list : List ℕ) : Type 0 where
  pub core : CountedTo G g used
  pub at_start : list ≡ core.groups ++ drop used start

pub list_start : {G : ℕ → Type 0} (start : List ℕ) → ListedTo G start 1 0 start
unfolding count_start
list_start start = record { core = count_start; at_start = refl }

pub list_skip : {G : ℕ → Type 0} {start list : List ℕ} {g used : ℕ} → (Core G g → ⊥) → ListedTo G start g used list → ListedTo G start (g + 1) used list
unfolding count_skip
list_skip not_core w = record { core = count_skip not_core w.core; at_start = w.at_start }

-- there is room for one more
pub list_room : {G : ℕ → Type 0} {start list : List ℕ} {g used k : ℕ} → Core G g → ListedTo G start g used list → CoreFits G k → used < k
list_room c w fits = omega (arith, counted_room (count_one c w.core) fits)

pub list_one : {G : ℕ → Type 0} {start list : List ℕ} {g used : ℕ} → used < length start → Core G g → ListedTo G start g used list
    → ListedTo G start (g + 1) (used + 1) (set list used g)
unfolding count_one
list_one {start = start} {g = g} {used = used} room c w =
    record {
      core = count_one c w.core;
      at_start = ap (λ (l : List ℕ). set l used g) w.at_start ∙ written_more w.core.groups start used g w.core.counted room;
    }

-- the list is as long as it was
pub list_long : {G : ℕ → Type 0} {start list : List ℕ} {g used : ℕ} → used ≤ length start → ListedTo G start g used list → length list ≡ length start
list_long {start = start} {used = used} room w =
    ap length w.at_start ∙ omega (arith, length-append w.core.groups (drop used start), length-drop used start, w.core.counted)

-- the groups listed so far are below g
pub list_below : {G : ℕ → Type 0} {start list : List ℕ} {g used : ℕ} → ListedTo G start g used list → AllByRecursion (λ (h : ℕ). h < g) (take used list)
list_below {start = start} {g = g} {used = used} w =
    subst (AllByRecursion (λ (h : ℕ). h < g)) (sym (ap (take used) w.at_start ∙ take_at w.core.groups (drop used start) used w.core.counted))
    (recursion_from_All (λ h. h < g) w.core.groups (λ k d l. (w.core.only (get_or w.core.groups k d) (Contains-get_or w.core.groups k d l)).1))

pub list_end : {G : ℕ → Type 0} {start list : List ℕ} {g used : ℕ} → ((h : ℕ) → Core G h → h < g) → ListedTo G start g used list → FillsCore G start list used
list_end below w =
    record {
      groups = w.core.groups;
      core = counted_list below w.core;
      counted = sym w.core.counted;
      at_start = w.at_start;
    }

-- the list is long enough for what was written at its start
pub fills_inside : {G : ℕ → Type 0} (list list' : List ℕ) (count : ℕ) → FillsCore G list list' count → length list' ≡ length list → count ≤ length list
fills_inside list list' count w same =
    let long : length list' ≡ length w.groups + (length list - count) =
    ap length w.at_start ∙ length-append w.groups (drop count list) ∙ ap (λ (k : ℕ). length w.groups + k) (length-drop count list) in
    let counted = w.counted in
    omega arith

-- a count is given only where nothing is refused
pub fills_given : (o : Option Refusal) (G : ℕ → Type 0) (list list' : List ℕ) (k : ℕ) → WritesOr o G list list' (Ok k) → FillsCore G list list' k
fills_given None G list list' k h = h
fills_given (Some e) G list list' k h = absurd (let q = h.0 in cc)

-- what fills the slots of a roll fills the list that was lent to it
pub fills_over : {G : ℕ → Type 0} {slots slots' list list' : List ℕ} {used k : ℕ} → slots ≡ list → slots' ≡ list' → k ≡ used
    → FillsCore G slots slots' used → FillsCore G list list' k
fills_over p q r w = rw (p, q, ← r) at w
