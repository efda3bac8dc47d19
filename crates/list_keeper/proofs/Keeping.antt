-- A list that holds the core of a description.
use Rattle.std.proofs.Common.{◌≡◌, ℕ, ◌<◌, ◌≤◌, List, length, get_or, take, drop, Contains, Some, None, Ok, Err, Option, Result, sym, refl, ap, ◌∙◌, subst, arith, length-take-le, take_at}
use Rattle.std.specs.List.Sorted.{IsStrictlyIncreasing}
use Rattle.std.specs.Option.{ForSome, ForNone}
use Rattle.std.specs.Prelude.{IfOk, MatchResult, IsErrAnd}
use Rattle.coverage.specs.Listing.{FillsCore, WritesCore, WritesOr}
use Rattle.coverage.proofs.Cover.{same_turned, same_trans, same_groups}
use Rattle.coverage.proofs.CoreLeast.{core_same, core_kept, dec_group}
use Rattle.coverage.proofs.ExistsCore.{dec_core}
use Rattle.coverage.proofs.Places.{ground_kept}
use Rattle.coverage.proofs.ListedCores.{fills_inside, fills_given}
use Rattle.coverage.proofs.Searching.{dec_stable}
use Rattle.domain.specs.Coverage.{Alike, Core, CoreList, CoreFits}
use Rattle.domain.specs.Groups.{IsGround}
use Rattle.domain.specs.Refusals.{first_of}
use Rattle.domain.specs.Requests.{open_tests}
use Rattle.domain.specs.Tables.{told_with}
use Rattle.domain.specs.Told.{Told, Group, Lawful}
use Rattle.domain.specs.declared.limits.TheConstants.{MOST_POSITIONS}
use Rattle.domain.specs.declared.outline.Outline.{Outline}
use Rattle.domain.specs.declared.refusal.Refusal.{Refusal}
use Rattle.domain.specs.declared.refusal.Refusal.TheVariants.{Room}
use Rattle.domain.proofs.Mapped.{was_ok}
use Rattle.rules.proofs.Lending.{counted_told}
use Rattle.list_keeper.proofs.Listing.{group_entry}
use Rattle.list_keeper.specs.Keeping.{Kept, Stores, TellsCore, LaysOut}
use Rattle.list_keeper.specs.ListKeepers.{KeepsList}
use Rattle.list_keeper.specs.Tells.{tells}
use Rattle.list_keeper.specs.declared.ListKeeper.{ListKeeper}
use Rattle.list_keeper.specs.declared.head.Head.{Head}

-- ---- what is told is its own core

module _ (head : Head) (list : List ℕ) (kept : Kept head list) where
  pub own_core : CoreList (Group (tells head list)) (take head.count list)
  own_core =
      record {
        only =
            λ g l.
            dec_stable (dec_core (dec_group (tells head list)) g) (kept.core g ((group_entry head list g).1 l));
        all = λ g c. (group_entry head list g).0 c.told;
        ascending = kept.rising;
      }

  -- so the list lays it out
  pub laid_out : LaysOut (tells head list) list
  laid_out =
      let long : length (take head.count list) ≡ head.count = length-take-le head.count list kept.inside in
      record {
        groups = take head.count list;
        core = own_core;
        front = ap (λ (n : ℕ). take n list) long;
        zero = λ i h. kept.cleared i (omega arith);
      }

-- a head that is held keeps the rules with the list
pub held_kept : {E : Type 0} (held : Option Head) (list : List ℕ) (r : Result Head E) → IfOk r (λ h. held ≡ Some h) → ForSome held (λ h. Kept h list)
    → IfOk r (λ h. Kept h list)
held_kept held list (Ok h) is kept = kept h is
held_kept held list (Err e) is kept = is

-- a call that kept the list kept it as its contract says
pub keeps_list : (before after : ListKeeper) → after.list.ghost_name ≡ before.list.ghost_name
    → length after.list.now ≡ length before.list.now → ForNone after.head (after.list.now ≡ before.list.now)
    → ForSome after.head (λ h. Kept h after.list.now) → KeepsList before after
keeps_list before after lent long untouched kept =
    record { lent = lent; long = long; untouched = untouched; laid_out = λ h is. laid_out h after.list.now (kept h is) }

-- ---- a core that is stored

-- what has the core alone is alike with it, and as lawful
pub tells_alike : {e after : Told} → TellsCore e after → Alike e after
tells_alike {e} t =
    record {
      positions = t.positions;
      marks = t.marks;
      cover = same_trans (same_turned (core_same (dec_group e))) (same_groups t.all t.only);
    }

core_lawful : {e after : Told} → Lawful e → TellsCore e after → Lawful after
core_lawful {e} {after} law t =
    record {
      some_positions = rw (← t.positions) law.some_positions;
      few_positions = rw (← t.positions) law.few_positions;
      in_range = λ g h. rw (← t.positions) (law.in_range g (t.only g h).told);
      marks = record {
        linear_in_range = rw (← t.marks, ← t.positions) law.marks.linear_in_range;
        free_is_linear = rw (← t.marks) law.marks.free_is_linear;
        ground_is_linear = λ p g. rw (← t.marks) (law.marks.ground_is_linear p (was p g));
        free_is_not_ground = λ p i g. law.marks.free_is_not_ground p (rw t.marks i) (was p g);
      };
    }
  where
    was : (p : ℕ) → IsGround after.n (Group after) p → IsGround e.n (Group e) p
    was p g = ground_kept (sym t.positions) (same_turned (tells_alike t).cover) g

module _ (outline : Outline) (table list list' list'' : List ℕ) (count : ℕ) (lawful : Lawful (told_with outline table))
    (fills : FillsCore (Group (told_with outline table)) list list' count) (same : length list' ≡ length list) (long : length list'' ≡ length list)
    (front : take count list'' ≡ take count list') (zero' : (i : ℕ) → count ≤ i → get_or list'' i 0 ≡ 0) where
  -- the new head
  abbrev new_head : Head
  new_head = record { outline = outline; count = count }

  groups_are : take count list'' ≡ fills.groups
  groups_are =
      front ∙ ap (λ (l : List ℕ). take count l) fills.at_start ∙ take_at fills.groups (drop count list) count (sym fills.counted)

  is_core_lem : (g : ℕ) → Group (tells new_head list'') g → Core (Group (told_with outline table)) g
  is_core_lem g t = fills.core.only g (subst (λ (l : List ℕ). Contains l g) groups_are ((group_entry new_head list'' g).0 t))

  of_core : (g : ℕ) → Core (Group (told_with outline table)) g → Group (tells new_head list'') g
  of_core g c =
      (group_entry new_head list'' g).1 (subst (λ (l : List ℕ). Contains l g) (sym groups_are) (fills.core.all g c))

  -- the core of the core is the core
  own : (g : ℕ) → Group (tells new_head list'') g → (Core (Group (tells new_head list'')) g → ⊥) → ⊥
  own g t other =
      other (core_kept (same_groups of_core is_core_lem) (core_kept (same_turned (core_same (dec_group (told_with outline table)))) (is_core_lem g t)))

  told_core : TellsCore (told_with outline table) (tells new_head list'')
  told_core = record { positions = refl; marks = refl; only = is_core_lem; all = of_core }

  stored_kept : Kept new_head list''
  stored_kept =
      record {
        lawful = core_lawful lawful told_core;
        inside = (let h = fills_inside list list' count fills same in omega arith);
        rising = subst (λ (l : List ℕ). IsStrictlyIncreasing l) (sym groups_are) fills.core.ascending;
        core = own;
        cleared = zero';
      }

  pub stored : Kept new_head list'' × ((before : Told) → Stores (told_with outline table) (length list) before (tells new_head list'') (Ok tt))
  stored = (
    stored_kept,
    λ before. (
      record {
        groups = fills.groups;
        short = (let h = fills_inside list list' count fills same in let k = fills.counted in omega arith);
        holds = fills.core.all;
      },
      told_core,
    ),
  )

-- what writing gave, where it gave a count, of which the error alone was mapped
pub wrote : {D : Type 0} {list list' : List ℕ} {m : Result ℕ D} {count : ℕ} (outline : Outline) (table : List ℕ) (P : Refusal → D → Type 0) (r : Result ℕ Refusal)
    → MatchResult r (λ y. m ≡ Ok y) (λ e. IsErrAnd m (P e)) → m ≡ Ok count
    → WritesCore outline.positions table list list' r → FillsCore (Group (told_with outline table)) list list' count
wrote {list = list} {list' = list'} {m = m} {count = count} outline table P r cases is h =
    fills_given (first_of (open_tests outline.positions)) (Group (told_with outline table)) list list' count (rw (was_ok m P r count cases is) at h)

-- and where it gave a refusal, if the number of positions is lawful
pub refused : (outline : Outline) (table list list' : List ℕ) (e : Refusal) → 0 < outline.positions → outline.positions ≤ MOST_POSITIONS
    → WritesCore outline.positions table list list' (Err e)
    → (e ≡ Room) × (list' ≡ list) × (CoreFits (Group (told_with outline table)) (length list) → ⊥)
refused outline table list list' e some few h =
    subst (λ (o : Option Refusal). WritesOr o (Group (told_with outline table)) list list' (Err e)) (counted_told outline.positions None some few) h
