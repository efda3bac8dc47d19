-- What some subset of a mask has to be for a pair to be covered.
use Rattle.std.proofs.Common.{ℕ, ◌≢◌}
use Rattle.domain.specs.Coverage.{Covers}
use Rattle.domain.proofs.Bits.{in_pos}
use Rattle.domain.proofs.Descending.{SomeSubset}
use Rattle.coverage.specs.Walks.{Holding, CoveredInside}

pub some_covers : {G : ℕ → Type 0} {w p q : ℕ} → SomeSubset (Holding G p q) w → Covers G w p q
some_covers s =
    record { group = s.part; told = s.holds.told; left = s.holds.left; right = s.holds.right; inside = s.inside }

pub covers_some : {G : ℕ → Type 0} {w p q : ℕ} → Covers G w p q → SomeSubset (Holding G p q) w
covers_some c =
    record {
      part = c.group;
      some = in_pos c.left;
      inside = c.inside;
      holds = record { told = c.told; left = c.left; right = c.right };
    }

-- h is another group than g that holds both positions
pub record Smaller (G : ℕ → Type 0) (g p q h : ℕ) : Type 0 where
  pub other : h ≢ g
  pub holding : Holding G p q h

pub some_inside : {G : ℕ → Type 0} {g p q : ℕ} → SomeSubset (Smaller G g p q) g → CoveredInside G g p q
some_inside s =
    record { group = s.part; holding = s.holds.holding; inside = s.inside; smaller = s.holds.other }

pub inside_some : {G : ℕ → Type 0} {g p q : ℕ} → CoveredInside G g p q → SomeSubset (Smaller G g p q) g
inside_some i =
    record {
      part = i.group;
      some = in_pos i.holding.left;
      inside = i.inside;
      holds = record { other = i.smaller; holding = i.holding };
    }
