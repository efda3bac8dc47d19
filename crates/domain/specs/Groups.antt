-- Sets of groups. A group is a mask that is not empty; a set of groups is a predicate on masks.
use Rattle.std.specs.Prelude.{◌≡◌, ℕ, ◌<◌, bit_or}
use Rattle.domain.specs.Masks.{In, Meets}

-- positions p and q share: one group of G holds both
pub record Share (G : ℕ → Type 0) (p q : ℕ) : Type 0 where
  pub group : ℕ
  pub told : G group
  pub left : In p group
  pub right : In q group

-- a position of n is ground when no group of G holds it
pub record IsGround (n : ℕ) (G : ℕ → Type 0) (p : ℕ) : Type 0 where
  pub position : p < n
  pub none : (g : ℕ) → G g → In p g → ⊥

-- the groups of G that meet both masks
pub record Shared (G : ℕ → Type 0) (a b g : ℕ) : Type 0 where
  pub group : G g
  pub left : Meets g a
  pub right : Meets g b

-- one side of a binding: the groups of G that meet its mask
abbrev pub Side : (ℕ → Type 0) → ℕ → ℕ → Type 0
Side G a = Shared G a a

-- the rest: those that meet neither mask
pub record Apart (G : ℕ → Type 0) (a b g : ℕ) : Type 0 where
  pub group : G g
  pub left : Meets g a → ⊥
  pub right : Meets g b → ⊥

-- p lies in a group of a side
pub record Near (G : ℕ → Type 0) (a p : ℕ) : Type 0 where
  pub group : ℕ
  pub told : Side G a group
  pub holds : In p group

-- every union of one group of A and one of B
pub record Paired (A B : ℕ → Type 0) (u : ℕ) : Type 0 where
  pub left : ℕ
  pub right : ℕ
  pub in_left : A left
  pub in_right : B right
  pub whole : bit_or left right ≡ u

-- every union of one or more groups of A
pub data Closure (A : ℕ → Type 0) : ℕ → Type 0 where
  one : {g : ℕ} → A g → Closure A g
  more : {g h : ℕ} → A g → Closure A h → Closure A (bit_or g h)

-- the groups of A, and with them A paired with the closure of S
pub data Extended (A S : ℕ → Type 0) (u : ℕ) : Type 0 where
  alone : A u → Extended A S u
  joined : Paired A (Closure S) u → Extended A S u
