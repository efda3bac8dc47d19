-- Group tables: one bit for each mask, eight masks to a byte.
use Rattle.std.specs.Prelude.{ℕ, ◌/◌, ◌%◌, ◌^◌, Bool, ◌&&◌, List, ◌==◌, nat_lt, slice_index}
use Rattle.domain.specs.Told.{Told, Passes}
use Rattle.domain.specs.declared.marks.Marks.{Marks}
use Rattle.domain.specs.declared.outline.Outline.{Outline}

-- the bit of the mask g; past the table's end it is 0
unfoldable pub holds_bit : List ℕ → ℕ → Bool
holds_bit table g = slice_index table (g / 8) / 2 ^ (g % 8) % 2 == 1

-- g is one of the masks that a description of n positions can have as a group
unfoldable pub in_range : ℕ → ℕ → Bool
in_range n g = nat_lt 0 g && nat_lt g (2 ^ n)

-- the test whether g is a group of a table of n positions
abbrev pub is_group : ℕ → List ℕ → ℕ → Bool
is_group n table g = in_range n g && holds_bit table g

-- the groups of a table of n positions
abbrev pub TableGroup : ℕ → List ℕ → ℕ → Type 0
TableGroup n table = Passes (is_group n table)

-- what a table of n positions tells, with the marks beside it
abbrev pub told_of : ℕ → List ℕ → Marks → Told
told_of n table marks = record { n = n; groups = is_group n table; marks = marks }

-- the same with what is known beside the table
abbrev pub told_with : Outline → List ℕ → Told
told_with outline table = told_of outline.positions table outline.marks
