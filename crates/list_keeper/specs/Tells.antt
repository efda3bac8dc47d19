-- What a list keeper tells, by what it holds.
use Rattle.std.specs.Prelude.{ℕ, List, Some, None, Option, nat_eq, take}
use Rattle.std.specs.Set.{is_member}
use Rattle.domain.specs.Told.{Told}
use Rattle.keeper.specs.Calls.{unopened}
use Rattle.list_keeper.specs.declared.head.Head.{Head}

-- once it is opened
abbrev pub tells : Head → List ℕ → Told
tells head list =
    record {
      n = head.outline.positions;
      groups = is_member nat_eq (take head.count list);
      marks = head.outline.marks;
    }

abbrev pub told_by : Option Head → List ℕ → Told
told_by None list = unopened
told_by (Some head) list = tells head list
