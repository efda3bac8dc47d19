-- How groups inside a mask fill it up.
use Rattle.std.specs.Prelude.{◌≡◌, ℕ, ◌<◌, bit_or}
use Rattle.domain.specs.Masks.{Within}
use Rattle.domain.specs.Groups.{Closure}

-- h is the union of all groups of A inside u, and 0 where there are none
pub record Hull (A : ℕ → Type 0) (u h : ℕ) : Type 0 where
  pub inside : Within h u
  pub holds : (g : ℕ) → A g → Within g u → Within g h
  pub made : 0 < h → Closure A h

-- a group of A inside u and the base make u
pub record Fills (A : ℕ → Type 0) (base u g : ℕ) : Type 0 where
  pub told : A g
  pub inside : Within g u
  pub whole : bit_or base g ≡ u

pub record Filled (A : ℕ → Type 0) (base u : ℕ) : Type 0 where
  pub group : ℕ
  pub fills : Fills A base u group

-- a group of A and one of B inside u make u with the base
pub record FillsWith (A B : ℕ → Type 0) (base u g : ℕ) : Type 0 where
  pub told : A g
  pub inside : Within g u
  pub rest : Filled B (bit_or base g) u

pub record FilledBoth (A B : ℕ → Type 0) (base u : ℕ) : Type 0 where
  pub group : ℕ
  pub fills : FillsWith A B base u group
