-- Which pairs of positions a set of groups covers, and where. A window is any set of positions.
use Rattle.std.specs.Prelude.{◌≡◌, ℕ, ◌≤◌, ◌≢◌, List, length, Contains}
use Rattle.std.specs.List.Sorted.{IsStrictlyIncreasing}
use Rattle.domain.specs.Masks.{In, Within}
use Rattle.domain.specs.Told.{Told, Group}

-- G covers the pair p, q (perhaps one position taken twice) in the window w:
-- one of its groups holds both positions and lies wholly in the window
pub record Covers (G : ℕ → Type 0) (w p q : ℕ) : Type 0 where
  pub group : ℕ
  pub told : G group
  pub left : In p group
  pub right : In q group
  pub inside : Within group w

-- G and H cover the same pairs in every window
pub record SameCover (G H : ℕ → Type 0) : Type 0 where
  pub to : (w p q : ℕ) → Covers G w p q → Covers H w p q
  pub from : (w p q : ℕ) → Covers H w p q → Covers G w p q

-- Two descriptions are alike when their positions and marks agree and they cover the same pairs.
pub record Alike (d e : Told) : Type 0 where
  pub positions : d.n ≡ e.n
  pub marks : d.marks ≡ e.marks
  pub cover : SameCover (Group d) (Group e)

-- A core group: the groups strictly inside it leave some pair of its positions uncovered.
pub record Core (G : ℕ → Type 0) (g : ℕ) : Type 0 where
  pub told : G g
  pub p : ℕ
  pub q : ℕ
  pub left : In p g
  pub right : In q g
  pub uncovered : (h : ℕ) → G h → Within h g → h ≢ g → In p h → In q h → ⊥

-- the core has at most k groups: some list of no more than k entries holds each of them
pub record CoreFits (G : ℕ → Type 0) (k : ℕ) : Type 0 where
  pub groups : List ℕ
  pub short : length groups ≤ k
  pub holds : (g : ℕ) → Core G g → Contains groups g

-- gs is the core of G: all its core groups and no others, ascending
pub record CoreList (G : ℕ → Type 0) (gs : List ℕ) : Type 0 where
  pub only : (g : ℕ) → Contains gs g → Core G g
  pub all : (g : ℕ) → Core G g → Contains gs g
  pub ascending : IsStrictlyIncreasing gs
