-- A group is a core group exactly where it has a pair that no group strictly inside it covers.
use Rattle.std.proofs.Common.{ℕ, ◌+◌, ◌^◌, ◌<◌, ◌≤◌, subst, arith}
use native.Mathlib.Decide.{dec_lt, ℕ_discrete}
use Rattle.domain.specs.Coverage.{Core}
use Rattle.domain.proofs.Bits.{in_below}
use Rattle.coverage.specs.Walks.{OpenPair}

-- ---- pairs

pub open_turned : {G : ℕ → Type 0} {g p q : ℕ} → OpenPair G g p q → OpenPair G g q p
open_turned o =
    record {
      left = o.right;
      right = o.left;
      uncovered =
          λ i.
          o.uncovered
          (record {
            group = i.group;
            holding = record { told = i.holding.told; left = i.holding.right; right = i.holding.left };
            inside = i.inside;
            smaller = i.smaller;
          });
    }

pub open_core : {G : ℕ → Type 0} {g p q : ℕ} → G g → OpenPair G g p q → Core G g
open_core {p = p} {q = q} t o =
    record {
      told = t;
      p = p;
      q = q;
      left = o.left;
      right = o.right;
      uncovered =
          λ h k w ne i j.
          o.uncovered (record { group = h; holding = record { told = k; left = i; right = j }; inside = w; smaller = ne });
    }

pub core_open : {G : ℕ → Type 0} {g : ℕ} (c : Core G g) → OpenPair G g c.p c.q
core_open c =
    record {
      left = c.left;
      right = c.right;
      uncovered =
          λ i.
          c.uncovered i.group i.holding.told i.inside i.smaller i.holding.left i.holding.right;
    }

-- ---- the loops over pairs

-- no pair a, b with a below p and a not above b is open
pub record Closed (G : ℕ → Type 0) (g p : ℕ) : Type 0 where
  pub none : (a b : ℕ) → a < p → a ≤ b → OpenPair G g a b → ⊥

-- no pair p, b with b below q and p not above b is open
pub record ClosedAt (G : ℕ → Type 0) (g p q : ℕ) : Type 0 where
  pub none : (b : ℕ) → b < q → p ≤ b → OpenPair G g p b → ⊥

pub closed_more : {G : ℕ → Type 0} {g p q : ℕ} → g < 2 ^ 16 → 16 ≤ q → ClosedAt G g p q → Closed G g p → Closed G g (p + 1)
closed_more {G} {g} {p} {q} small past k all =
    record {
      none =
          λ a b h m o.
          elim (ℕ_discrete a p) [
            | yes e ↦ k.none b (omega (arith, in_below 16 o.right small)) (omega arith) (subst (λ x. OpenPair G g x b) e o)
            | no ne ↦ all.none a b (omega arith) m o
          ];
    }

pub closed_core : {G : ℕ → Type 0} {g p : ℕ} → g < 2 ^ 16 → 16 ≤ p → Closed G g p → Core G g → ⊥
closed_core small past k c =
    elim (dec_lt c.q c.p) [
      | yes h ↦
          k.none c.q c.p (omega (arith, in_below 16 c.right small)) (omega arith) (open_turned (core_open c))
      | no h ↦ k.none c.p c.q (omega (arith, in_below 16 c.left small)) (omega arith) (core_open c)
    ]
