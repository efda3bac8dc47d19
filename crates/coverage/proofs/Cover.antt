-- Coverage by itself: wider windows, exchanged positions, and when two sets cover the same pairs.
use Rattle.std.proofs.Common.{◌≡◌, ℕ, sym, refl, ◌∙◌}
use Rattle.domain.specs.Masks.{In, Within, Meets}
use Rattle.domain.specs.Groups.{Side}
use Rattle.domain.specs.Told.{Told, Group}
use Rattle.domain.specs.Coverage.{Covers, SameCover, Alike}
use Rattle.domain.proofs.Bits.{same_mask, within_self, within_trans}

-- a pair that a group covers in itself
pub covers_own : {G : ℕ → Type 0} {g p q : ℕ} → G g → In p g → In q g → Covers G g p q
covers_own {g = g} t i j = record { group = g; told = t; left = i; right = j; inside = within_self g }

pub covers_wider : {G : ℕ → Type 0} {w u p q : ℕ} → Within w u → Covers G w p q → Covers G u p q
covers_wider h c =
    record { group = c.group; told = c.told; left = c.left; right = c.right; inside = within_trans c.inside h }

pub covers_turned : {G : ℕ → Type 0} {w p q : ℕ} → Covers G w p q → Covers G w q p
covers_turned c = record { group = c.group; told = c.told; left = c.right; right = c.left; inside = c.inside }

pub covers_more : {G H : ℕ → Type 0} {w p q : ℕ} → ((g : ℕ) → G g → H g) → Covers G w p q → Covers H w p q
covers_more f c =
    record { group = c.group; told = f c.group c.told; left = c.left; right = c.right; inside = c.inside }

pub same_refl : {G : ℕ → Type 0} → SameCover G G
same_refl = record { to = λ w p q c. c; from = λ w p q c. c }

pub same_turned : {G H : ℕ → Type 0} → SameCover G H → SameCover H G
same_turned s = record { to = s.from; from = s.to }

pub same_trans : {G H K : ℕ → Type 0} → SameCover G H → SameCover H K → SameCover G K
same_trans s t =
    record { to = λ w p q c. t.to w p q (s.to w p q c); from = λ w p q c. s.from w p q (t.from w p q c) }

-- sets with the same groups
pub same_groups : {G H : ℕ → Type 0} → ((g : ℕ) → G g → H g) → ((g : ℕ) → H g → G g) → SameCover G H
same_groups f b = record { to = λ w p q c. covers_more f c; from = λ w p q c. covers_more b c }

-- a group that holds a position of a side is one of that side
pub side_group : {G : ℕ → Type 0} {a g p : ℕ} → G g → In p g → In p a → Side G a g
side_group {a = a} {g = g} {p = p} t i h =
    let m : Meets g a = record { place = p; left = i; right = h } in record { group = t; left = m; right = m }

-- ---- descriptions

pub alike_refl : {d : Told} → Alike d d
alike_refl = record { positions = refl; marks = refl; cover = same_refl }

pub alike_turned : {d e : Told} → Alike d e → Alike e d
alike_turned a = record { positions = sym a.positions; marks = sym a.marks; cover = same_turned a.cover }

pub alike_trans : {d e f : Told} → Alike d e → Alike e f → Alike d f
alike_trans a b =
    record {
      positions = a.positions ∙ b.positions;
      marks = a.marks ∙ b.marks;
      cover = same_trans a.cover b.cover;
    }

-- e has the positions of d, and at least its marks and what it covers
pub record PartOf (d e : Told) : Type 0 where
  pub positions : d.n ≡ e.n
  pub free : Within d.marks.free e.marks.free
  pub linear : Within d.marks.linear e.marks.linear
  pub cover : (w p q : ℕ) → Covers (Group d) w p q → Covers (Group e) w p q

pub both_alike : {d e : Told} → PartOf d e → PartOf e d → Alike d e
both_alike {d} {e} a b =
    record {
      positions = a.positions;
      marks = λ i. record { free = same_mask a.free b.free i; linear = same_mask a.linear b.linear i };
      cover = record { to = a.cover; from = b.cover };
    }
