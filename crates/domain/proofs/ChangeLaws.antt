-- The laws of the changes: one that is not refused had room, leaves the number of positions, and keeps the
-- rules of a description.
use Rattle.std.proofs.Common.{◌≡◌, ℕ, ◌^◌, ◌<◌, ◌≤◌, ◌⊎◌, List, None, sym, refl, subst, inl, inr, arith}
use lib.Bits.{bit_or}
use Rattle.std.proofs.lemmas.Bool.{leb-false, ltb-false}
use Rattle.domain.specs.Binding.{FreeTerm, Fits, NewGroup, StaysFree, StaysLinear, Bound}
use Rattle.domain.specs.Binding.NewGroup.{rest, made}
use Rattle.domain.specs.Changes.{Makes, change_tests, IsAllowed}
use Rattle.domain.specs.Groups.{IsGround, Side}
use Rattle.domain.specs.Masks.{In, Meets}
use Rattle.domain.specs.Refusals.{first_of}
use Rattle.domain.specs.Requests.{bytes_for, forget_tests}
use Rattle.domain.specs.Told.{Told, Group, IsFree, IsLinear, Lawful}
use Rattle.domain.specs.declared.case.Case.{Case}
use Rattle.domain.specs.declared.case.Case.TheVariants.{Free, BothLinear, PositionLinear, TermLinear, Neither}
use Rattle.domain.specs.declared.change.Change.{Change}
use Rattle.domain.specs.declared.change.Change.TheVariants.{Bind, Join, Forget}
use Rattle.domain.specs.declared.term.Term.{Term}
use Rattle.domain.proofs.Bits.{meets_or_not, in_pos, in_below, below_lt, in_left, in_right, in_single}
use Rattle.domain.proofs.Forgetting.{forget_lawful}
use Rattle.domain.proofs.Joining.{join_allowed, join_lawful}
use Rattle.domain.proofs.Refusing.{passed, bind_allowed}
use Rattle.domain.proofs.Made.{From, made_meets_left, new_from}

-- ---- bind

-- the groups are masks in range
abbrev pub Ranged : Told → Type 0
Ranged d = (g : ℕ) → Group d g → (0 < g) × (g < 2 ^ d.n)

-- new groups are masks in range, as the old ones are
pub new_range :
    (d : Told) → Ranged d → (a b : ℕ) (c : Case) {u : ℕ} → NewGroup (Group d) a b c u → (0 < u) × (u < 2 ^ d.n)
new_range d range a b c {u} m = (some m, below_lt u d.n (λ p i. below p (new_from (Group d) a b c m i)))
  where
    some : NewGroup (Group d) a b c u → 0 < u
    some (rest r) = (range u r.group).0
    some (made k) = in_pos (made_meets_left (Group d) a b c k).left

    below : (p : ℕ) → From (Group d) p → p < d.n
    below p f = in_below d.n f.holds (range f.group f.told).1

-- where the term or the position is free, no other case fits
free_by_term : (d : Told) (x : ℕ) (t : Term) (c : Case) → Fits d x t c → FreeTerm d t → c ≡ Free
free_by_term d x t Free fits f = refl
free_by_term d x t BothLinear fits f = absurd (fits.1 f)
free_by_term d x t PositionLinear fits f = absurd (fits.1 f)
free_by_term d x t TermLinear fits f = absurd (fits.1 f)
free_by_term d x t Neither fits f = absurd (fits.1 f)

free_by_position : (d : Told) (x : ℕ) (t : Term) (c : Case) → Fits d x t c → IsFree d x → c ≡ Free
free_by_position d x t Free fits f = refl
free_by_position d x t BothLinear fits f = absurd (fits.0 f)
free_by_position d x t PositionLinear fits f = absurd (fits.0 f)
free_by_position d x t TermLinear fits f = absurd (fits.0 f)
free_by_position d x t Neither fits f = absurd (fits.0 f)

-- a bind keeps the rules
module _ (d : Told) (law : Lawful d) (x : ℕ) (t : Term) (e : Told) (b : Bound d x t e) where
  -- a position that is marked free is one below n, and some group holds it
  low : {p : ℕ} → IsLinear d p → p < d.n
  low i = in_below d.n i law.marks.linear_in_range

  low_free : {p : ℕ} → IsFree d p → p < d.n
  low_free {p} i = low (law.marks.free_is_linear p i)

  held : {p : ℕ} → IsFree d p → ((g : ℕ) → Group d g → In p g → ⊥) → ⊥
  held {p} i none = law.marks.free_is_not_ground p i (record { position = low_free i; none = none })

  -- the union of a group of each side is a group where a side is free
  union : {p g h : ℕ} → b.case ≡ Free → Side (Group d) (2 ^ x) g → Side (Group d) t.held h → IsGround e.n (Group e) p → In p g ⊎ In p h → ⊥
  union {p} {g} {h} is left right bare i =
      bare.none (bit_or g h)
      (b.groups_made (bit_or g h)
      (subst (λ c. NewGroup (Group d) (2 ^ x) t.held c (bit_or g h)) (sym is)
      (made (record { left = g; right = h; in_left = left; in_right = right; whole = refl }))))
      (elim i [ inl j ↦ in_left h j | inr j ↦ in_right g j ])

  -- a group that meets a mask is of its side
  side : {g a : ℕ} → Group d g → Meets g a → Side (Group d) a g
  side m s = record { group = m; left = s; right = s }

  -- no old group holds a position that is free and bare now
  no_group : {p : ℕ} → StaysFree d x t p → IsGround e.n (Group e) p → (g : ℕ) → Group d g → In p g → ⊥
  no_group {p} stays bare g m i = go (meets_or_not g (2 ^ x)) (meets_or_not g t.held)
    where
      go : Meets g (2 ^ x) ⊎ (Meets g (2 ^ x) → ⊥) → Meets g t.held ⊎ (Meets g t.held → ⊥) → ⊥
      go (inl j) s =
          stays.far_from_x
          (λ f. held f.free (λ h k l.
          union (free_by_term d x t b.case b.fits f) (side m j)
          (side k (record { place = f.place; left = l; right = subst (In f.place) (sym f.only) (in_single f.place) }))
          bare (inl i)))
          (record { group = g; told = side m j; holds = i })
      go (inr n) (inl s) =
          stays.far_from_t
          (λ f. held f (λ h k l.
          union (free_by_position d x t b.case b.fits f) (side k (record { place = x; left = l; right = in_single x })) (side m s) bare (inr i)))
          (record { group = g; told = side m s; holds = i })
      go (inr n) (inr s) =
          bare.none g (b.groups_made g (rest (record { group = m; left = n; right = s }))) i

  pub bound_lawful : Lawful e
  bound_lawful =
      record {
        some_positions = omega (arith, b.positions, law.some_positions);
        few_positions = rw b.positions law.few_positions;
        in_range = λ g m. rw b.positions (new_range d law.in_range (2 ^ x) t.held b.case (b.groups_only g m));
        marks = record {
          linear_in_range = rw b.positions (below_lt e.marks.linear d.n (λ p i. below p (b.linear_only p i)));
          free_is_linear = λ p i. b.linear_added p (inl i);
          ground_is_linear = λ p g. b.linear_added p (inr g);
          free_is_not_ground = λ p i g. let s = b.free_only p i in held s.was (no_group s g);
        };
      }
    where
      below : (p : ℕ) → StaysLinear d x t p ⊎ (IsFree e p ⊎ IsGround e.n (Group e) p) → p < d.n
      below p (inl s) = low s.was
      below p (inr (inl i)) = low_free (b.free_only p i).was
      below p (inr (inr g)) = omega (arith, b.positions, g.position)

-- ---- forget

-- one that is not refused stays in range and has room
forget_allowed : (n m size : ℕ) → None ≡ first_of (forget_tests n m size) → (m < 2 ^ n) × (bytes_for n ≤ size)
forget_allowed n m size none =
    let a = passed _ _ _ none in
    let b = passed _ _ _ a.1 in
    (leb-false (2 ^ n) m a.0, ltb-false size (bytes_for n) b.0)

-- ---- any change

-- one that is not refused is allowed, and had room
pub change_allowed : (n : ℕ) (c : Change (List ℕ)) (size : ℕ) → None ≡ first_of (change_tests n c size) → IsAllowed n c × (bytes_for n ≤ size)
change_allowed n (Bind x t) size none = (tt, (bind_allowed n x t size none).1.1.1)
change_allowed n (Join other) size none = join_allowed n other size none
change_allowed n (Forget m) size none = forget_allowed n m size none

-- the number of positions stays
pub change_positions : (c : Change (List ℕ)) (d e : Told) → Makes c d e → e.n ≡ d.n
change_positions (Bind x t) d e m = m.positions
change_positions (Join other) d e m = m.positions
change_positions (Forget k) d e m = m.positions

-- a change that is allowed keeps the rules of a description
pub change_lawful : (c : Change (List ℕ)) (d e : Told) → IsAllowed d.n c → Lawful d → Makes c d e → Lawful e
change_lawful (Bind x t) d e ok law m = bound_lawful d law x t e m
change_lawful (Join other) d e ok law m = join_lawful law ok m
change_lawful (Forget k) d e ok law m = forget_lawful law ok m
