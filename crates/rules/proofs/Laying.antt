-- The first bytes of a table, one for every eight masks, tell what the whole of it tells.
use Rattle.std.proofs.Common.{◌≡◌, ℕ, ◌/◌, ◌%◌, ◌^◌, ◌<◌, ◌≤◌, Bool, true, false, ◌&&◌, eqb, List, ◌++◌, length, get_or, take, refl, ap, arith}
use mathlib.Core.Path.{fun_ext}
use Rattle.std.proofs.lemmas.List.{get_or-take, get_or_append_left}
use Rattle.domain.specs.Tables.{holds_bit, in_range, told_with}
use Rattle.domain.specs.declared.limits.TheConstants.{MOST_POSITIONS, TABLE_BYTES}
use Rattle.domain.specs.declared.outline.Outline.{Outline}
use Rattle.domain.proofs.Laws.{in_range_lem}
use Rattle.domain.proofs.Tables.{room_for}

same_bit : (s t : List ℕ) (g : ℕ) → get_or s (g / 8) 0 ≡ get_or t (g / 8) 0 → holds_bit s g ≡ holds_bit t g
unfolding holds_bit
same_bit s t g e = ap (λ (x : ℕ). eqb (x / 2 ^ (g % 8) % 2) 1) e

-- tables whose first bytes agree tell the same
module _ (o : Outline) (s t : List ℕ) (few : o.positions ≤ MOST_POSITIONS) (same : (i : ℕ) → i < TABLE_BYTES → get_or s i 0 ≡ get_or t i 0) where
  same_group : (g : ℕ) → (in_range o.positions g && holds_bit s g) ≡ (in_range o.positions g && holds_bit t g)
  same_group g = go (in_range o.positions g) refl
    where
      go : (b : Bool) → in_range o.positions g ≡ b → (b && holds_bit s g) ≡ (b && holds_bit t g)
      go true e = same_bit s t g (same (g / 8) (room_for o.positions g TABLE_BYTES few (in_range_lem o.positions g e).1 (omega arith)))
      go false e = refl

  told_front : told_with o s ≡ told_with o t
  told_front = ap (λ (groups : ℕ → Bool). record { n = o.positions; groups = groups; marks = o.marks }) (fun_ext same_group)

pub told_taken : (o : Outline) (t : List ℕ) → o.positions ≤ MOST_POSITIONS → told_with o (take TABLE_BYTES t) ≡ told_with o t
told_taken o t few = told_front o (take TABLE_BYTES t) t few (λ i h. get_or-take TABLE_BYTES t i 0 h)

pub told_laid : (o : Outline) (t rest : List ℕ) → o.positions ≤ MOST_POSITIONS → length t ≡ TABLE_BYTES → told_with o (t ++ rest) ≡ told_with o t
told_laid o t rest few long =
    told_front o (t ++ rest) t few (λ i h. get_or_append_left t rest 0 i (omega (arith, long, h)))

-- the bit of a mask in the first bytes is that of the whole
pub laid_bit : (t rest : List ℕ) (g : ℕ) → g / 8 < length t → holds_bit (t ++ rest) g ≡ holds_bit t g
laid_bit t rest g h = same_bit (t ++ rest) t g (get_or_append_left t rest 0 (g / 8) h)
