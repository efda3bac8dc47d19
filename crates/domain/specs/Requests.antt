-- What a description refuses, as lists of tests in their order.
use Rattle.std.specs.Prelude.{◌≡◌, ℕ, ◌-◌, ◌^◌, Bool, true, not, ◌&&◌, ◌||◌, List, [], ◌∷◌, Some, None, Ok, Err, Option, Result, ◌==◌, bit_or, count_ones, nat_le, nat_lt}
use Rattle.domain.specs.Masks.{is_within, without}
use Rattle.domain.specs.Refusals.{Test}
use Rattle.domain.specs.declared.limits.TheConstants.{MOST_POSITIONS, TABLE_BYTES}
use Rattle.domain.specs.declared.listing.Listing.{Listing}
use Rattle.domain.specs.declared.marks.Marks.{Marks}
use Rattle.domain.specs.declared.refusal.Refusal.{Refusal}
use Rattle.domain.specs.declared.refusal.Refusal.TheVariants as refusal
use Rattle.domain.specs.declared.term.Term.{Term}

-- what a call gives: the refusal, where there is one, else a value of which P holds
abbrev pub Gives : {A : Type 0} → Option Refusal → Result A Refusal → (A → Type 0) → Type 0
Gives (Some e) r P = r ≡ Err e
Gives None (Ok a) P = P a
Gives None (Err e) P = ⊥

-- a mask has a position of n or more
abbrev pub reaches : ℕ → ℕ → Bool
reaches n m = nat_le (2 ^ n) m

-- the masks are not a term's: repeated is not within held, or the term is bare
-- and does not hold exactly one position, once
abbrev pub ill_term : Term → Bool
ill_term t =
    not (is_within t.repeated t.held)
    || (t.bare && not (count_ones t.held == 1 && t.repeated == 0))

abbrev pub open_tests : ℕ → List Test
open_tests n = (n == 0 || nat_lt MOST_POSITIONS n, refusal.Count) ∷ []

-- the bytes that the work on n positions needs
abbrev pub bytes_for : ℕ → ℕ
bytes_for n = TABLE_BYTES

-- n positions are worked on in so many bytes
abbrev pub room_tests : ℕ → ℕ → List Test
room_tests n bytes = (nat_lt bytes (bytes_for n), refusal.Room) ∷ []

abbrev pub ask_tests : ℕ → ℕ → List Test
ask_tests n p = (nat_le n p, refusal.Position) ∷ []

abbrev pub pair_tests : ℕ → ℕ → ℕ → List Test
pair_tests n p q = (nat_le n p || nat_le n q, refusal.Position) ∷ []

-- a bind of the position x to the term t, with so many bytes of scratch
abbrev pub bind_tests : ℕ → ℕ → Term → ℕ → List Test
bind_tests n x t scratch =
    (nat_le n x || (reaches n t.held || reaches n t.repeated), refusal.Position)
    ∷ (ill_term t, refusal.Masks)
    ∷ (t.bare && (t.held == 2 ^ x), refusal.Itself)
    ∷ room_tests n scratch

-- the groups of a list ascend above `last`, and are masks of n positions
abbrev pub ascend : ℕ → ℕ → List ℕ → Bool
ascend n last [] = true
ascend n last (g ∷ gs) = nat_lt last g && (not (reaches n g) && ascend n g gs)

-- all positions that the groups of a list hold
abbrev pub held_by : List ℕ → ℕ
held_by [] = 0
held_by (g ∷ gs) = bit_or g (held_by gs)

-- the marks are none that a description of n positions can have whose groups hold these positions:
-- they reach n, or break one of the three rules
abbrev pub ill_marks : ℕ → Marks → ℕ → Bool
ill_marks n m held =
    (reaches n m.free || reaches n m.linear)
    || not (is_within m.free m.linear && (is_within (without (2 ^ n - 1) held) m.linear && is_within m.free held))

-- a join with another description, with so many bytes of scratch
abbrev pub join_tests : ℕ → Listing (List ℕ) → ℕ → List Test
join_tests n other scratch =
    (not (ascend n 0 other.groups), refusal.Groups)
    ∷ (ill_marks n other.marks (held_by other.groups), refusal.Masks)
    ∷ room_tests n scratch

-- a forget of the positions of m
abbrev pub forget_tests : ℕ → ℕ → ℕ → List Test
forget_tests n m scratch = (reaches n m, refusal.Position) ∷ room_tests n scratch
