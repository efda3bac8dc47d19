-- What a run is given, and what its keeper tells.
use Rattle.std.specs.Prelude.{ℕ, List, length}
use Rattle.domain.specs.Told.{Told}
use Rattle.runner.specs.declared.running.WorkLists.{WorkLists}

-- how many core groups the keeper has room for, the bytes of scratch, the sheet, and how many groups can be
-- copied from it at a time
pub record Setting : Type 0 where
  pub capacity : ℕ
  pub scratch : ℕ
  pub sheet : List ℕ
  pub groups : ℕ

-- with the lists that are lent
abbrev pub setting_of : (capacity : ℕ) → (sheet : List ℕ) → WorkLists → Setting
setting_of capacity sheet lists =
    record { capacity = capacity; scratch = length lists.scratch.now; sheet = sheet; groups = length lists.groups.now }

-- what a keeper tells before and after
pub record Transition : Type 0 where
  pub before : Told
  pub after : Told
