-- The changes of a list keeper: from the list to a table, by the rule, and to the core of what the rule gives.
use Rattle.std.proofs.Common.{◌≡◌, ℕ, ◌/◌, ◌^◌, ◌<◌, ◌≤◌, Bool, not, eqb, List, ◌++◌, true, false, is_some, length, take, Contains, Some, None, Ok, Err, Decides, Option, Result, sym, refl, ap, ◌∙◌, subst, arith}
use Rattle.std.specs.Option.{ForSome}
use Rattle.std.proofs.lemmas.Bool.{ne_eqb, false≢true}
use Rattle.coverage.proofs.Cover.{same_groups}
use Rattle.coverage.proofs.ChangeLaws.{one_told}
use Rattle.domain.specs.Changes.{Makes, change_tests}
use Rattle.domain.specs.Coverage.{Alike, Core}
use Rattle.domain.specs.Masks.{In}
use Rattle.domain.specs.Opening.{New}
use Rattle.domain.specs.Refusals.{first_of, pick}
use Rattle.domain.specs.Requests.{open_tests, room_tests, bytes_for}
use Rattle.domain.specs.Tables.{holds_bit, told_with}
use Rattle.domain.specs.Told.{Told, Group}
use Rattle.domain.specs.declared.change.Change.{Change}
use Rattle.domain.specs.declared.refusal.Refusal.{Refusal}
use Rattle.domain.specs.declared.refusal.Refusal.TheVariants.{Order}
use Rattle.domain.proofs.Bits.{in_single, single_in}
use Rattle.domain.proofs.Tables.{room_for}
use Rattle.domain.proofs.Laws.{group_of, of_group}
use Rattle.keeper.specs.Calls.{Changes, ChangesBy, Exactly, Opens, fault_of}
use Rattle.keeper.specs.declared.fault.KeeperFault.{KeeperFault}
use Rattle.list_keeper.proofs.Keeping.{tells_alike}
use Rattle.list_keeper.proofs.Listing.{group_entry}
use Rattle.list_keeper.specs.Keeping.{Kept, Stores}
use Rattle.list_keeper.specs.Tells.{tells, told_by}
use Rattle.list_keeper.specs.declared.head.Head.{Head}

-- ---- the list as a table

module _ (head : Head) (list table : List ℕ) (kept : Kept head list) (room : bytes_for head.outline.positions ≤ length table)
    (holds : (g : ℕ) → g / 8 < length table → Decides (holds_bit table g) (Contains (take head.count list) g)) where
  in_list : (g : ℕ) → Group (told_with head.outline table) g → Group (tells head list) g
  in_list g t =
      let r = of_group head.outline.positions table g t in
      (group_entry head list g).1 ((holds g (room_for head.outline.positions g (length table) kept.lawful.few_positions r.1 room)).0 r.2)

  in_table : (g : ℕ) → Group (tells head list) g → Group (told_with head.outline table) g
  in_table g t =
      let r = kept.lawful.in_range g t in
      group_of head.outline.positions table g r.0 r.1
      ((holds g (room_for head.outline.positions g (length table) kept.lawful.few_positions r.1 room)).1 ((group_entry head list g).0 t))

  pub loaded_told : told_with head.outline table ≡ tells head list
  loaded_told =
      one_told (record { positions = refl; marks = refl; cover = same_groups in_list in_table }) in_list in_table

-- ---- tests

opened_told : (n : ℕ) (o : Option Refusal) → 0 < n → pick (not (not (eqb n 0))) Order o ≡ o
opened_told n o some = ap (λ (b : Bool). pick (not (not b)) Order o) (ne_eqb n 0 (λ e. omega arith))

-- ---- what is stored

-- each group of a new description is a core group
new_core : {n : ℕ} {e : Told} → New n e → (g : ℕ) → Group e g → Core (Group e) g
new_core {n} {e} new g t =
    let s = new.groups_only g t in
    let own : In s.place g = subst (λ (x : ℕ). In s.place x) (sym s.only) (in_single s.place) in
    record {
      told = t;
      p = s.place;
      q = s.place;
      left = own;
      right = own;
      uncovered =
          λ h k w ne i j.
          let u = new.groups_only h k in
          ne (u.only ∙ ap (λ (x : ℕ). 2 ^ x) (sym (single_in (subst (λ (x : ℕ). In s.place x) u.only i))) ∙ sym s.only);
    }

pub opens_again : (n scratch capacity : ℕ) (head : Option Head) (list : List ℕ) → ForSome head (λ h. Kept h list) → is_some head ≡ true
    → (f : KeeperFault) → f ≡ fault_of Order
    → Opens capacity n scratch (told_by head list) (told_by head list) (Err f)
opens_again n scratch capacity None list kept is f order = absurd (false≢true is)
opens_again n scratch capacity (Some head) list kept is f order =
    rw (ne_eqb head.outline.positions 0 (λ e. let some = (kept head refl).lawful.some_positions in omega arith)) (ap Err order, refl)

pub opens_stored : (n scratch : ℕ) (e : Told) → New n e → first_of (open_tests n ++ room_tests n scratch) ≡ None → (capacity : ℕ) (head : Option Head)
    (list : List ℕ) (after : Told) → is_some head ≡ false → (r : Result (Unit {0}) KeeperFault) → Stores e capacity (told_by head list) after r
    → Opens capacity n scratch (told_by head list) after r
opens_stored n scratch e new none capacity (Some h) list after is r s = absurd (false≢true (sym is))
opens_stored n scratch e new none capacity None list after is r s =
    subst (λ (x : Option Refusal). Changes x capacity (New n) Exactly (told_by None list) after r) (sym none) (go r s)
  where
    go : (r : Result (Unit {0}) KeeperFault) → Stores e capacity (told_by None list) after r → Changes None capacity (New n) Exactly (told_by None list) after r
    go (Ok u) s =
        (e, new, s.0, one_told (tells_alike s.1) (λ g t. s.1.all g (new_core new g t)) (λ g t. (s.1.only g t).told))
    go (Err f) s = (s.0, s.1, (e, new, s.2))

-- ---- a change of the loaded table

-- the tests of the change are those that an opened keeper is left with
module _ (c : Change (List ℕ)) (size capacity : ℕ) (held : Option Head) (head : Head) (list : List ℕ)
    (is : held ≡ Some head) (some : 0 < head.outline.positions) (after : Told) (r : Result (Unit {0}) KeeperFault) where
  of_opened : Changes (first_of (change_tests head.outline.positions c size)) capacity (Makes c (tells head list)) Alike (tells head list) after r
      → ChangesBy c capacity size (told_by held list) after r
  of_opened h =
      subst (λ (o : Option Head). ChangesBy c capacity size (told_by o list) after r) (sym is)
      (subst (λ (x : Option Refusal). Changes x capacity (Makes c (tells head list)) Alike (tells head list) after r)
      (sym (opened_told head.outline.positions (first_of (change_tests head.outline.positions c size)) some)) h)

  pub changes_stored : (e : Told) → first_of (change_tests head.outline.positions c size) ≡ None → Makes c (tells head list) e
      → Stores e capacity (told_by held list) after r
      → ChangesBy c capacity size (told_by held list) after r
  changes_stored e none made s =
      of_opened (rw none (stored_by r (subst (λ (o : Option Head). Stores e capacity (told_by o list) after r) is s)))
    where
      stored_by : (r : Result (Unit {0}) KeeperFault) → Stores e capacity (tells head list) after r
          → Changes None capacity (Makes c (tells head list)) Alike (tells head list) after r
      stored_by (Ok u) s = (e, made, s.0, tells_alike s.1)
      stored_by (Err f) s = (s.0, s.1, (e, made, s.2))
