-- The positions that a mask reaches through the groups.
use Rattle.std.specs.Prelude.{ℕ}
use Rattle.domain.specs.Groups.{Near}
use Rattle.domain.specs.Masks.{In}

-- r is all positions in groups of G that meet a
pub record Reach (G : ℕ → Type 0) (a r : ℕ) : Type 0 where
  pub made : (p : ℕ) → In p r → Near G a p
  pub all : (p : ℕ) → Near G a p → In p r
