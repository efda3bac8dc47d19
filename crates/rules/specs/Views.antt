-- What is told by a lent table, and what a change leaves of it beside the groups.
use Rattle.std.specs.Prelude.{◌≡◌, ℕ, ◌^◌, ◌≤◌, List}
use Rattle.domain.specs.Tables.{holds_bit, told_of, told_with}
use Rattle.domain.specs.Told.{Told}
use Rattle.rules.specs.declared.bench.Bench.{Bench}
use Rattle.rules.specs.declared.bench.View.{View}

abbrev pub told_by : View → Told
told_by v = told_of v.groups.positions v.groups.table.now v.marks

abbrev pub told_on : Bench → Told
told_on b = told_with b.outline b.table.now

-- the bits of masks that no description of n positions has as a group are the same in both tables
pub record SameBeside (n : ℕ) (old new : List ℕ) : Type 0 where
  pub empty : holds_bit new 0 ≡ holds_bit old 0
  pub past : (g : ℕ) → 2 ^ n ≤ g → holds_bit new g ≡ holds_bit old g
