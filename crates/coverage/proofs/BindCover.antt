-- The closed form of what the groups of a bind cover. What holds of a side is said once, over its mask a and the
-- other side's, b.
use Rattle.std.proofs.Common.{ℕ, ◌⊎◌, refl, inl, inr}
use lib.Bits.{bit_or}
use Rattle.domain.specs.Masks.{In, Within, Meets, without}
use Rattle.domain.specs.Groups.{Side, Shared, Paired, Closure, one, more, Extended, alone, joined}
use Rattle.domain.specs.Coverage.{Covers, SameCover}
use Rattle.domain.specs.Binding.{Made, NewGroup, rest, made}
use Rattle.domain.specs.declared.case.Case.{Case}
use Rattle.domain.specs.declared.case.Case.TheVariants.{Free, BothLinear, PositionLinear, TermLinear, Neither}
use Rattle.coverage.specs.BindLaws.{CoversApart, WithSide, SideCovered, UnitesLeft, UnitesRight, Linked, before, across, back, by_left, by_right, BindCovers, untouched, met}
use Rattle.domain.proofs.Bits.{in_lacking, lacking_in, in_either, in_left, in_right, union_within, within_left, within_right, within_trans, meets_more}
use Rattle.domain.proofs.Hull.{Sub, Inside, closure_like, pair_left, pair_right}
use Rattle.domain.proofs.Made.{shared_left, shared_right, made_left, made_right}
use Rattle.coverage.proofs.Searching.{dec_meets, in_sum}
use Rattle.coverage.proofs.Cover.{covers_own, covers_wider, side_group}

-- ---- what is covered after a bind hangs on what was covered before it alone

module _ {C D : ℕ → ℕ → ℕ → Type 0} {w : ℕ} (f : (p q : ℕ) → C w p q → D w p q) where
  with_side_more : {a q : ℕ} → WithSide C a w q → WithSide D a w q
  with_side_more {q = q} s = record { place = s.place; held = s.held; covered = f s.place q s.covered }

  side_covered_more : {a : ℕ} → SideCovered C a w → SideCovered D a w
  side_covered_more s = record { place = s.place; held = s.held; covered = f s.place s.place s.covered }

  linked_more : {a b : ℕ} {c : Case} {p q : ℕ} → Linked C a b c w p q → Linked D a b c w p q
  linked_more (before k) = before (f _ _ k)
  linked_more (across s t) = across (with_side_more s) (with_side_more t)
  linked_more (back t s) = back (with_side_more t) (with_side_more s)
  linked_more (by_left y s t) = by_left y (with_side_more s) (with_side_more t)
  linked_more (by_right y s t) = by_right y (with_side_more s) (with_side_more t)

bind_covers_more : {C D : ℕ → ℕ → ℕ → Type 0} {a b : ℕ} {c : Case} {w p q : ℕ} → ((w p q : ℕ) → C w p q → D w p q) → BindCovers C a b c w p q → BindCovers D a b c w p q
bind_covers_more f (untouched k) =
    untouched (record { part = k.part; inside = k.inside; left = k.left; right = k.right; covered = f _ _ _ k.covered })
bind_covers_more {w = w} f (met s t l) =
    met (side_covered_more (f w) s) (side_covered_more (f w) t) (linked_more (f w) l)

-- ---- the two sides of a new group

-- each position of a union of groups of A is one of a group inside the union
pub closure_covers : {A : ℕ → Type 0} {u p : ℕ} → Closure A u → In p u → Covers A u p p
closure_covers (one k) i = covers_own k i i
closure_covers (more {g = g} {h = h} k l) i =
    elim (in_either g h i) [
      | inl j ↦ covers_wider (within_left g h) (covers_own k j j)
      | inr j ↦ covers_wider (within_right g h) (closure_covers l j)
    ]

-- a position of a union of groups of a side, and some position of the side, in a window w around the union
closure_near : {G : ℕ → Type 0} {a u w p : ℕ} → Closure (Side G a) u → Within u w → In p u → WithSide (Covers G) a w p
closure_near k h i =
    let c = closure_covers k i in
    let at = c.told.left in
    record { place = at.place; held = at.right; covered = covers_wider (within_trans c.inside h) (covers_own c.told.group at.left c.right) }

side_some : {G : ℕ → Type 0} {a u w : ℕ} → Inside (Side G a) u → Within u w → SideCovered (Covers G) a w
side_some k h =
    let at = k.told.left in
    record { place = at.place; held = at.right; covered = covers_wider (within_trans k.inside h) (covers_own k.told.group at.left at.left) }

-- what ties two positions of one side together: a group of both, a group of the other side, whose mask is b, that
-- holds one of them, or that the groups of the side are united among themselves
data Tie (C : ℕ → ℕ → ℕ → Type 0) (b : ℕ) (U : Type 0) (w p q : ℕ) : Type 0 where
  own : C w p q → Tie C b U w p q
  first : WithSide C b w p → Tie C b U w p q
  second : WithSide C b w q → Tie C b U w p q
  united : U → Tie C b U w p q

-- one side of a new group: in the window w each position is covered with one of the side, and each two are tied
record NewSide (G : ℕ → Type 0) (a b : ℕ) (U : Type 0) (w u : ℕ) : Type 0 where
  near : (p : ℕ) → In p u → WithSide (Covers G) a w p
  tied : (p q : ℕ) → In p u → In q u → Tie (Covers G) b U w p q

module _ {G : ℕ → Type 0} {a b : ℕ} {U : Type 0} {w : ℕ} where
  side_alone : (u : ℕ) → Side G a u → Within u w → NewSide G a b U w u
  side_alone u k h =
      record { near = λ p. closure_near (one k) h; tied = λ p q i j. own (covers_wider h (covers_own k.group i j)) }

  side_closed : U → (u : ℕ) → Closure (Side G a) u → Within u w → NewSide G a b U w u
  side_closed y u k h = record { near = λ p. closure_near k h; tied = λ p q i j. united y }

  -- groups of S serve as groups of both sides
  side_extended : {S : ℕ → Type 0} → Sub S (Side G a) → Sub S (Side G b) → (u : ℕ) → Extended (Side G a) S u → Within u w → NewSide G a b U w u
  side_extended to_a to_b u (alone k) h = side_alone u k h
  side_extended {S} to_a to_b u (joined k) h =
      record {
        near = λ p i. closure_near (more k.in_left (closure_like to_a k.in_right)) (rw k.whole h) (rw k.whole i);
        tied = λ p q i j. by (in_either k.left k.right (rw k.whole i)) (in_either k.left k.right (rw k.whole j));
      }
    where
      other : {p : ℕ} → In p k.right → WithSide (Covers G) b w p
      other i = closure_near (closure_like to_b k.in_right) (within_trans (pair_right k) h) i

      by : {p q : ℕ} → In p k.left ⊎ In p k.right → In q k.left ⊎ In q k.right → Tie (Covers G) b U w p q
      by (inl i) (inl j) = own (covers_wider (within_trans (pair_left k) h) (covers_own k.in_left.group i j))
      by (inl i) (inr j) = second (other j)
      by (inr i) j = first (other i)

-- ---- from the new groups to the closed form

left_linked : {C : ℕ → ℕ → ℕ → Type 0} {a b : ℕ} {c : Case} {w p q : ℕ} → Tie C b (UnitesLeft c) w p q → WithSide C a w p → WithSide C a w q → Linked C a b c w p q
left_linked (own k) s t = before k
left_linked (first k) s t = back k t
left_linked (second k) s t = across s k
left_linked (united y) s t = by_left y s t

right_linked : {C : ℕ → ℕ → ℕ → Type 0} {a b : ℕ} {c : Case} {w p q : ℕ} → Tie C a (UnitesRight c) w p q → WithSide C b w p → WithSide C b w q → Linked C a b c w p q
right_linked (own k) s t = before k
right_linked (first k) s t = across k t
right_linked (second k) s t = back s k
right_linked (united y) s t = by_right y s t

module _ {G : ℕ → Type 0} {a b : ℕ} where
  paired_linked : {A B : ℕ → Type 0} {c : Case} {u w p q : ℕ} → ((l : ℕ) → A l → Within l w → NewSide G a b (UnitesLeft c) w l)
      → ((r : ℕ) → B r → Within r w → NewSide G b a (UnitesRight c) w r) → Paired A B u → Within u w → In p u → In q u → Linked (Covers G) a b c w p q
  paired_linked {c = c} {w = w} f g k h i j = by (in_either k.left k.right (rw k.whole i)) (in_either k.left k.right (rw k.whole j))
    where
      s : NewSide G a b (UnitesLeft c) w k.left
      s = f k.left k.in_left (within_trans (pair_left k) h)

      t : NewSide G b a (UnitesRight c) w k.right
      t = g k.right k.in_right (within_trans (pair_right k) h)

      by : {p q : ℕ} → In p k.left ⊎ In p k.right → In q k.left ⊎ In q k.right → Linked (Covers G) a b c w p q
      by (inl i) (inl j) = left_linked (s.tied _ _ i j) (s.near _ i) (s.near _ j)
      by (inl i) (inr j) = across (s.near _ i) (t.near _ j)
      by (inr i) (inl j) = back (t.near _ i) (s.near _ j)
      by (inr i) (inr j) = right_linked (t.tied _ _ i j) (t.near _ i) (t.near _ j)

  left : {U : Type 0} {w : ℕ} (l : ℕ) → Extended (Side G a) (Shared G a b) l → Within l w → NewSide G a b U w l
  left = side_extended (shared_left G a b) (shared_right G a b)

  right : {U : Type 0} {w : ℕ} (r : ℕ) → Extended (Side G b) (Shared G a b) r → Within r w → NewSide G b a U w r
  right = side_extended (shared_right G a b) (shared_left G a b)

  made_linked : (c : Case) {u w p q : ℕ} → Made G a b c u → Within u w → In p u → In q u → Linked (Covers G) a b c w p q
  made_linked Free m = paired_linked side_alone side_alone m
  made_linked BothLinear m = paired_linked left right m
  made_linked PositionLinear m = paired_linked (side_closed tt) right m
  made_linked TermLinear m = paired_linked left (side_closed tt) m
  made_linked Neither m = paired_linked (side_closed tt) (side_closed tt) m

pub bind_cover_to : {G : ℕ → Type 0} {a b : ℕ} {c : Case} {w p q : ℕ} → Covers (NewGroup G a b c) w p q → BindCovers (Covers G) a b c w p q
bind_cover_to {G} {a} {b} {c} k =
    elim k.told [
      | rest n ↦
          untouched (record { part = k.group; inside = k.inside; left = n.left; right = n.right; covered = covers_own n.group k.left k.right })
      | made m ↦
          met (side_some (made_left G a b c m) k.inside) (side_some (made_right G a b c m) k.inside)
          (made_linked c m k.inside k.left k.right)
    ]

-- ---- and back

-- what of a side is united with what of the other, inside w: groups of A, and one alone where U does not hold
record Arm (U : Type 0) (A : ℕ → Type 0) (w g : ℕ) : Type 0 where
  closed : Closure A g
  lone : (U → ⊥) → A g
  inside : Within g w

module _ {G : ℕ → Type 0} {U : Type 0} {a w : ℕ} where
  arm : {p q : ℕ} (k : Covers G w p q) → In p a → Arm U (Side G a) w k.group
  arm k h = let s = side_group k.told k.left h in record { closed = one s; lone = λ n. s; inside = k.inside }

  two_arm : {p q : ℕ} → U → (s : WithSide (Covers G) a w p) (t : WithSide (Covers G) a w q) → Arm U (Side G a) w (bit_or s.covered.group t.covered.group)
  two_arm y s t =
      let k = s.covered in
      let l = t.covered in
      record {
        closed = more (side_group k.told k.left s.held) (one (side_group l.told l.left t.held));
        lone = λ n. absurd (n y);
        inside = union_within k.inside l.inside;
      }

pair : {A B : ℕ → Type 0} (l r : ℕ) → A l → B r → Paired A B (bit_or l r)
pair l r s t = record { left = l; right = r; in_left = s; in_right = t; whole = refl }

module _ {G : ℕ → Type 0} {a b w : ℕ} where
  arms_made : (l r : ℕ) (c : Case) → Arm (UnitesLeft c) (Side G a) w l → Arm (UnitesRight c) (Side G b) w r → Made G a b c (bit_or l r)
  arms_made l r Free s t = pair l r (s.lone (λ y. y)) (t.lone (λ y. y))
  arms_made l r BothLinear s t = pair l r (alone (s.lone (λ y. y))) (alone (t.lone (λ y. y)))
  arms_made l r PositionLinear s t = pair l r s.closed (alone (t.lone (λ y. y)))
  arms_made l r TermLinear s t = pair l r (alone (s.lone (λ y. y))) t.closed
  arms_made l r Neither s t = pair l r s.closed t.closed

module _ {G : ℕ → Type 0} {a b w : ℕ} (c : Case) where
  -- the two cover together what one of them holds
  arms_cover : {l r p q : ℕ} → Arm (UnitesLeft c) (Side G a) w l → Arm (UnitesRight c) (Side G b) w r → In p l ⊎ In p r → In q l ⊎ In q r → Covers (NewGroup G a b c) w p q
  arms_cover {l} {r} s t i j =
      record {
        group = bit_or l r;
        told = made (arms_made l r c s t);
        left = in_sum l r i;
        right = in_sum l r j;
        inside = union_within s.inside t.inside;
      }

  linked_covers : {p q : ℕ} → SideCovered (Covers G) a w → SideCovered (Covers G) b w → Linked (Covers G) a b c w p q → Covers (NewGroup G a b c) w p q
  linked_covers {p} {q} l r (before k) = by (dec_meets k.group a) (dec_meets k.group b)
    where
      own_arm : {U : Type 0} {m : ℕ} → Meets k.group m → Arm U (Side G m) w k.group
      own_arm m = let s = side_group k.told m.left m.right in record { closed = one s; lone = λ n. s; inside = k.inside }

      by : Dec (Meets k.group a) → Dec (Meets k.group b) → Covers (NewGroup G a b c) w p q
      by (yes m) n = arms_cover (own_arm m) (arm r.covered r.held) (inl k.left) (inl k.right)
      by (no n) (yes m) = arms_cover (arm l.covered l.held) (own_arm m) (inr k.left) (inr k.right)
      by (no n) (no m) =
          covers_wider k.inside (covers_own (rest (record { group = k.told; left = n; right = m })) k.left k.right)
  linked_covers l r (across s t) =
      arms_cover (arm s.covered s.held) (arm t.covered t.held) (inl s.covered.right) (inr t.covered.right)
  linked_covers l r (back t s) =
      arms_cover (arm s.covered s.held) (arm t.covered t.held) (inr t.covered.right) (inl s.covered.right)
  linked_covers l r (by_left y s t) =
      arms_cover (two_arm y s t) (arm r.covered r.held) (inl (in_left t.covered.group s.covered.right))
      (inl (in_right s.covered.group t.covered.right))
  linked_covers l r (by_right y s t) =
      arms_cover (arm l.covered l.held) (two_arm y s t) (inr (in_left t.covered.group s.covered.right))
      (inr (in_right s.covered.group t.covered.right))

pub bind_cover_from : {G : ℕ → Type 0} {a b : ℕ} {c : Case} {w p q : ℕ} → BindCovers (Covers G) a b c w p q → Covers (NewGroup G a b c) w p q
bind_cover_from (untouched s) =
    let k = s.covered in
    covers_wider (within_trans k.inside s.inside)
    (covers_own
    (rest (record { group = k.told; left = λ m. s.left (meets_more m k.inside); right = λ m. s.right (meets_more m k.inside) }))
    k.left
    k.right)
bind_cover_from {c = c} (met s t l) = linked_covers c s t l

pub bind_same : {G H : ℕ → Type 0} {a b : ℕ} {c : Case} → SameCover G H → SameCover (NewGroup G a b c) (NewGroup H a b c)
bind_same s =
    record {
      to = λ w p q k. bind_cover_from (bind_covers_more s.to (bind_cover_to k));
      from = λ w p q k. bind_cover_from (bind_covers_more s.from (bind_cover_to k));
    }

-- ---- the window without both masks

pub apart_window : {G : ℕ → Type 0} {a b w p q : ℕ} → CoversApart (Covers G) a b w p q → Covers G (without w (bit_or a b)) p q
apart_window {a = a} {b = b} s =
    covers_wider (record { each = λ r i. in_lacking (s.inside.each r i) (λ j. out r i (in_either a b j)) }) s.covered
  where
    out : (r : ℕ) → In r s.part → In r a ⊎ In r b → ⊥
    out r i (inl j) = s.left (record { place = r; left = i; right = j })
    out r i (inr j) = s.right (record { place = r; left = i; right = j })

pub window_apart : {G : ℕ → Type 0} {p q : ℕ} (a b w : ℕ) → Covers G (without w (bit_or a b)) p q → CoversApart (Covers G) a b w p q
window_apart a b w k =
    let u = bit_or a b in
    record {
      part = without w u;
      inside = record { each = λ r i. (lacking_in w u i).0 };
      left = λ m. (lacking_in w u m.left).1 (in_left b m.right);
      right = λ m. (lacking_in w u m.left).1 (in_right a m.right);
      covered = k;
    }
