-- Terms as trees, and what a bind has to know of one.
use Rattle.std.specs.Prelude.{◌≡◌, ℕ, ◌+◌, ◌^◌, ◌≤◌, Bool, true, false, if◌then◌else◌, ◌↔◌, ◌==◌, bit_and, bit_or}
use Rattle.domain.specs.Masks.{In}
use Rattle.domain.specs.declared.term.Term.{Term}

mutual
  pub data Tree : Type 0 where
    position : ℕ → Tree
    constant : ℕ → Tree
    compound : ℕ → Args → Tree

  -- the arguments of a compound, left to right
  pub data Args : Type 0 where
    none : Args
    more : Tree → Args → Args

-- how often the term holds the position p
abbrev mutual
  pub occurrences : Tree → ℕ → ℕ
  occurrences (position q) p = (if p == q then 1 else 0)
  occurrences (constant f) p = 0
  occurrences (compound f args) p = occurrences_in args p

  pub occurrences_in : Args → ℕ → ℕ
  occurrences_in none p = 0
  occurrences_in (more t args) p = occurrences t p + occurrences_in args p

-- what a bind has to know of a position by itself, and of a compound over the positions of a mask
abbrev pub bare_term : ℕ → Term
bare_term p = record { bare = true; held = 2 ^ p; repeated = 0 }

abbrev pub over_term : (held repeated : ℕ) → Term
over_term held repeated = record { bare = false; held = held; repeated = repeated }

-- no position is held
abbrev pub constant_term : Term
constant_term = over_term 0 0

-- two terms side by side: held twice is what either repeats, and what both hold
abbrev pub beside : Term → Term → Term
beside a b = over_term (bit_or a.held b.held) (bit_or (bit_or a.repeated b.repeated) (bit_and a.held b.held))

abbrev mutual
  pub summary : Tree → Term
  summary (position p) = bare_term p
  summary (constant f) = constant_term
  summary (compound f args) = sum_onto args constant_term

  -- the arguments, each beside those before it
  pub sum_onto : Args → Term → Term
  sum_onto none before = before
  sum_onto (more t args) before = sum_onto args (beside before (summary t))

abbrev pub is_position : Tree → Bool
is_position (position p) = true
is_position (constant f) = false
is_position (compound f args) = false

-- the law of a summary: bare exactly for a position by itself, held exactly what occurs, repeated exactly
-- what occurs more than once
abbrev pub Sums : Tree → Term → Type 0
Sums tree t =
    (t.bare ≡ is_position tree)
    × ((p : ℕ) → (In p t.held ↔ (1 ≤ occurrences tree p)))
    × ((p : ℕ) → (In p t.repeated ↔ (2 ≤ occurrences tree p)))
