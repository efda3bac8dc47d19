-- What the inner functions of a list keeper promise.
use Rattle.std.specs.Prelude.{◌≡◌, ℕ, ◌≤◌, List, length, take, Ok, Err, Result, slice_index}
use Rattle.std.specs.List.Sorted.{IsStrictlyIncreasing}
use Rattle.domain.specs.Coverage.{Core, CoreFits, CoreList}
use Rattle.domain.specs.Told.{Told, Group, Lawful}
use Rattle.domain.specs.declared.refusal.Refusal.TheVariants.{Capacity}
use Rattle.keeper.specs.Calls.{fault_of}
use Rattle.keeper.specs.declared.fault.KeeperFault.{KeeperFault}
use Rattle.list_keeper.specs.Tells.{tells}
use Rattle.list_keeper.specs.declared.head.Head.{Head}

-- the rules of an opened keeper hold of a head and a list
pub record Kept (head : Head) (list : List ℕ) : Type 0 where
  pub lawful : Lawful (tells head list)
  pub inside : head.count ≤ length list
  pub rising : IsStrictlyIncreasing (take head.count list)
  -- no group is anything but a core group: twice denied, since an invariant has one proof at most, and that
  -- of a core group names one of several pairs
  pub core : (g : ℕ) → Group (tells head list) g → (Core (Group (tells head list)) g → ⊥) → ⊥
  -- the entries behind the core are 0
  pub cleared : (i : ℕ) → head.count ≤ i → slice_index list i ≡ 0

-- what is told afterwards is the core of e, with its marks
pub record TellsCore (e after : Told) : Type 0 where
  pub positions : e.n ≡ after.n
  pub marks : e.marks ≡ after.marks
  pub only : (g : ℕ) → Group after g → Core (Group e) g
  pub all : (g : ℕ) → Core (Group e) g → Group after g

-- the core of e is told where it fits, and else nothing changes
abbrev pub Stores : Told → ℕ → Told → Told → Result (Unit {0}) KeeperFault → Type 0
Stores e capacity before after (Ok u) = CoreFits (Group e) capacity × TellsCore e after
Stores e capacity before after (Err f) =
    (f ≡ fault_of Capacity) × (after ≡ before) × (CoreFits (Group e) capacity → ⊥)

-- the core of d stands at the start of the list, and the entries behind it are 0
pub record LaysOut (d : Told) (list : List ℕ) : Type 0 where
  pub groups : List ℕ
  pub core : CoreList (Group d) groups
  pub front : take (length groups) list ≡ groups
  pub zero : (i : ℕ) → length groups ≤ i → slice_index list i ≡ 0
