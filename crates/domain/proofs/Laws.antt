-- The groups of a table: masks in range whose bit is set.
use Rattle.std.proofs.Common.{◌≡◌, ℕ, ◌^◌, ◌<◌, true, ltb, List}
use Rattle.std.proofs.lemmas.Bool.{and_parts, ltb-true, lt-ltb}
use Rattle.domain.specs.Tables.{holds_bit, in_range, TableGroup}

-- a mask in range
pub in_range_lem : (n g : ℕ) → in_range n g ≡ true → (0 < g) × (g < 2 ^ n)
unfolding in_range
in_range_lem n g e = let r = and_parts (ltb 0 g) (ltb g (2 ^ n)) e in (ltb-true 0 g r.0, ltb-true g (2 ^ n) r.1)

pub range_in : (n g : ℕ) → 0 < g → g < 2 ^ n → in_range n g ≡ true
unfolding in_range
range_in n g l h = rw (lt-ltb 0 g l) (lt-ltb g (2 ^ n) h)

-- a group of a table is a mask in range whose bit is set
pub group_of : (n : ℕ) (t : List ℕ) (g : ℕ) → 0 < g → g < 2 ^ n → holds_bit t g ≡ true → TableGroup n t g
group_of n t g p h b = record { told = rw (range_in n g p h) b }

pub of_group : (n : ℕ) (t : List ℕ) (g : ℕ) → TableGroup n t g → (0 < g) × (g < 2 ^ n) × (holds_bit t g ≡ true)
of_group n t g m =
    let both = and_parts (in_range n g) (holds_bit t g) m.told in
    let r = in_range_lem n g both.0 in
    (r.0, r.1, both.1)
