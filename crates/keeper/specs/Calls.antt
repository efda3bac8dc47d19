-- What each call of a keeper promises, over what the keeper tells before and after it.
use Rattle.std.specs.Prelude.{◌≡◌, ℕ, ◌≤◌, Bool, true, false, not, ◌↔◌, ◌⊎◌, List, ◌∷◌, ◌++◌, length, drop, Some, None, Ok, Err, IsTrue, Option, Result, ◌==◌}
use Rattle.domain.specs.Changes.{Makes, change_tests}
use Rattle.domain.specs.Coverage.{Alike, CoreFits, CoreList}
use Rattle.domain.specs.Opening.{New}
use Rattle.domain.specs.Refusals.{first_of}
use Rattle.domain.specs.Requests.{open_tests, room_tests, ask_tests, pair_tests}
use Rattle.domain.specs.Told.{Told, Group}
use Rattle.domain.specs.declared.change.Change.{Change}
use Rattle.domain.specs.declared.refusal.Refusal.{Refusal}
use Rattle.domain.specs.declared.refusal.Refusal.TheVariants.{Order, Room, Capacity}
use Rattle.keeper.specs.declared.fault.KeeperFault.{KeeperFault}
use Rattle.keeper.specs.declared.write_out.WrittenOut.{WrittenOut}

-- a keeper's fault, by its refusal
abbrev pub fault_of : Refusal → KeeperFault
fault_of e = record { refusal = e }

-- what a keeper tells before it is opened
abbrev pub unopened : Told
unopened = record { n = 0; groups = λ g. false; marks = record { free = 0; linear = 0 } }

-- A call that may change the description. `refusal` is the first of its tests that fails, if one does;
-- `Rule e` says that the call's rule gives e; `Left e after` says how the description told afterwards
-- answers to it. A refused call leaves all that was told. The capacity is tested last: the call is
-- refused by it exactly when the core of what the rule gives has more groups.
abbrev pub Changes : Option Refusal → ℕ → (Told → Type 0) → (Told → Told → Type 0) → Told → Told
    → Result (Unit {0}) KeeperFault → Type 0
Changes (Some e) capacity Rule Left before after r = (r ≡ Err (fault_of e)) × (after ≡ before)
Changes None capacity Rule Left before after (Ok u) =
    (e : Told) × Rule e × CoreFits (Group e) capacity × Left e after
Changes None capacity Rule Left before after (Err f) =
    (f ≡ fault_of Capacity) × (after ≡ before) × ((e : Told) × Rule e × (CoreFits (Group e) capacity → ⊥))

-- A question: refused by its tests, or yes exactly when `Holds`.
abbrev pub Answers : Option Refusal → Type 0 → Result Bool KeeperFault → Type 0
Answers (Some e) Holds r = r ≡ Err (fault_of e)
Answers None Holds (Ok yes') = IsTrue yes' ↔ Holds
Answers None Holds (Err f) = ⊥

-- the description told is exactly the one that the rule gives
abbrev pub Exactly : Told → Told → Type 0
Exactly e after = e ≡ after

-- the tests of each call, in the keeper's order
abbrev pub opened : Told → Bool
opened d = not (d.n == 0)

abbrev pub open_refusal : Told → ℕ → ℕ → Option Refusal
open_refusal d n scratch = first_of ((opened d, Order) ∷ (open_tests n ++ room_tests n scratch))

abbrev pub change_refusal : Told → Change (List ℕ) → ℕ → Option Refusal
change_refusal d c scratch = first_of ((not (opened d), Order) ∷ change_tests d.n c scratch)

abbrev pub ask_refusal : Told → ℕ → Option Refusal
ask_refusal d p = first_of ((not (opened d), Order) ∷ ask_tests d.n p)

abbrev pub pair_refusal : Told → ℕ → ℕ → Option Refusal
pair_refusal d p q = first_of ((not (opened d), Order) ∷ pair_tests d.n p q)

-- Open makes the new description of n positions.
abbrev pub Opens : ℕ → ℕ → ℕ → Told → Told → Result (Unit {0}) KeeperFault → Type 0
Opens capacity n scratch before after r =
    Changes (open_refusal before n scratch) capacity (New n) Exactly before after r

-- A change leaves a description alike with what its rule makes of the one told before.
abbrev pub ChangesBy : Change (List ℕ) → ℕ → ℕ → Told → Told → Result (Unit {0}) KeeperFault → Type 0
ChangesBy c capacity scratch before after r =
    Changes (change_refusal before c scratch) capacity (Makes c before) Alike before after r

-- Write-out puts the core at the start of the list, whose other entries stay, and answers its count and the
-- marks; it is refused, and the list stays, where there is no description or the core does not fit the list.
abbrev pub Writes : Told → List ℕ → List ℕ → Result WrittenOut KeeperFault → Type 0
Writes d list list' (Ok w) =
    (opened d ≡ true)
    × (w.marks ≡ d.marks)
    × ((gs : List ℕ) × CoreList (Group d) gs × (w.count ≡ length gs) × (length gs ≤ length list) × (list' ≡ gs ++ drop (length gs) list))
Writes d list list' (Err f) =
    (list' ≡ list)
    × (((opened d ≡ false) × (f ≡ fault_of Order))
    ⊎ ((opened d ≡ true) × (f ≡ fault_of Room) × (CoreFits (Group d) (length list) → ⊥)))
