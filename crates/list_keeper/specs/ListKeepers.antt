-- What a list keeper shows of itself.
use native.Mathlib.Nat.{lt_irrefl}
use Rattle.std.specs.Prelude.{◌≡◌, ℕ, ◌<◌, List, length, Some, None, Option, refl}
use Rattle.std.specs.Borrow.{MutBor}
use Rattle.std.specs.Option.{ForSome, ForNone}
use Rattle.domain.specs.Told.{Told, Lawful}
use Rattle.list_keeper.specs.Keeping.{Kept, LaysOut}
use Rattle.list_keeper.specs.Tells.{tells, told_by}
use Rattle.list_keeper.specs.declared.ListKeeper.{ListKeeper}
use Rattle.list_keeper.specs.declared.head.Head.{Head}

-- what it tells
abbrev pub told : ListKeeper → Told
told k = told_by k.head k.list.now

-- an opened keeper tells a lawful description
held_lawful : (held : Option Head) (list : List ℕ) → ForSome held (λ h. Kept h list) → 0 < (told_by held list).n → Lawful (told_by held list)
held_lawful None list kept some = absurd (lt_irrefl 0 some)
held_lawful (Some head) list kept some = (kept head refl).lawful

pub told_lawful : (k : ListKeeper) → 0 < (told k).n → Lawful (told k)
told_lawful k some = held_lawful k.head k.list.now k.kept some

-- how many core groups it has room for: as many as its list has entries
abbrev pub capacity_of : ListKeeper → ℕ
capacity_of k = length k.list.now

-- its list is the one that is lent, as it stands
pub record IsOver (k : ListKeeper) (list : MutBor (List ℕ)) : Type 0 where
  pub lent : k.list.ghost_name ≡ list.ghost_name
  pub same : k.list.now ≡ list.now

-- A call leaves the list that was lent, as long as it was. While the keeper is not opened the list stays as it was;
-- from then on the core of what is told is laid out in it.
pub record KeepsList (before after : ListKeeper) : Type 0 where
  pub lent : after.list.ghost_name ≡ before.list.ghost_name
  pub long : length after.list.now ≡ length before.list.now
  pub untouched : ForNone after.head (after.list.now ≡ before.list.now)
  pub laid_out : ForSome after.head (λ h. LaysOut (tells h after.list.now) after.list.now)
