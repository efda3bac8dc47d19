-- Masks: sets of positions, written as numbers. Position i adds 2 to the power i.
use Rattle.std.specs.Prelude.{◌≡◌, ℕ, ◌/◌, ◌%◌, ◌^◌, Bool, true, ◌==◌, bit_and, bit_xor}

-- position p is in the mask m
pub record In (p m : ℕ) : Type 0 where
  pub digit : m / 2 ^ p % 2 ≡ 1

-- every position of a is one of b
pub record Within (a b : ℕ) : Type 0 where
  pub each : (p : ℕ) → In p a → In p b

-- some position is in both
pub record Meets (a b : ℕ) : Type 0 where
  pub place : ℕ
  pub left : In place a
  pub right : In place b

-- the test whether every position of a is one of b
abbrev pub is_within : ℕ → ℕ → Bool
is_within a b = bit_and a b == a

-- the positions of a that are not in b
abbrev pub without : ℕ → ℕ → ℕ
without a b = bit_xor a (bit_and a b)

-- r is the mask m without the positions of l, where b says so
pub record Loses (m l : ℕ) (b : Bool) (r : ℕ) : Type 0 where
  pub kept : (p : ℕ) → In p m → (b ≡ true → In p l → ⊥) → In p r
  pub only : (p : ℕ) → In p r → In p m × (b ≡ true → In p l → ⊥)
