-- The groups that hold a pair of positions, and what those inside another do for a pair of its positions.
use Rattle.std.specs.Prelude.{ℕ, ◌≢◌}
use Rattle.domain.specs.Masks.{In, Within}

-- g is a group that holds both positions
pub record Holding (G : ℕ → Type 0) (p q g : ℕ) : Type 0 where
  pub told : G g
  pub left : In p g
  pub right : In q g

-- some group strictly inside g holds both positions
pub record CoveredInside (G : ℕ → Type 0) (g p q : ℕ) : Type 0 where
  pub group : ℕ
  pub holding : Holding G p q group
  pub inside : Within group g
  pub smaller : group ≢ g

-- a pair of g that no group strictly inside it covers
pub record OpenPair (G : ℕ → Type 0) (g p q : ℕ) : Type 0 where
  pub left : In p g
  pub right : In q g
  pub uncovered : CoveredInside G g p q → ⊥
