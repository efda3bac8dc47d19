-- The new description: each position alone in a group, and all free and linear.
use Rattle.std.specs.Prelude.{◌≡◌, ℕ, ◌^◌, ◌<◌}
use Rattle.domain.specs.Told.{Told, Group, IsFree, IsLinear}

-- the group of one position
pub record Single (n g : ℕ) : Type 0 where
  pub place : ℕ
  pub position : place < n
  pub only : g ≡ 2 ^ place

pub record New (n : ℕ) (e : Told) : Type 0 where
  pub positions : e.n ≡ n
  pub groups_made : (g : ℕ) → Single n g → Group e g
  pub groups_only : (g : ℕ) → Group e g → Single n g
  pub free_made : (p : ℕ) → p < n → IsFree e p
  pub free_only : (p : ℕ) → IsFree e p → p < n
  pub linear_made : (p : ℕ) → p < n → IsLinear e p
  pub linear_only : (p : ℕ) → IsLinear e p → p < n
