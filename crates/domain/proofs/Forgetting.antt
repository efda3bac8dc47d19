-- A forget from its parts, and that it keeps the rules.
use Rattle.std.proofs.Common.{◌≡◌, ℕ, zero, suc, ◌+◌, ◌*◌, ◌^◌, ◌<◌, ◌≤◌, Bool, true, eqb, ◌⊎◌, List, Decides, sym, refl, ap, ◌∙◌, subst, inl, inr, arith, pow_pos}
use lib.Bits.{bit_and, bit_or, bit_xor, or_zero_r}
use lib.Count.{ones, ones_cat}
use lib.Pow.{pow-lt}
use Rattle.std.proofs.lemmas.Bool.{eq-eqb, eqb-true}
use Rattle.std.proofs.lemmas.Bool.Decides.{Decides-like}
use Rattle.domain.specs.Forgetting.{Stripped, Renewed, Left, Supplied, Forgotten}
use Rattle.domain.specs.Groups.{IsGround}
use Rattle.domain.specs.Masks.{In, Within, Meets}
use Rattle.domain.specs.Tables.{holds_bit, TableGroup, told_of}
use Rattle.domain.specs.Told.{Told, Group, Lawful}
use Rattle.domain.specs.declared.marks.Marks.{Marks}
use Rattle.domain.proofs.Bits.{in_or_not, in_first, in_second, in_both, in_either, in_left, in_right, in_single, single_in, in_lacking, lacking_in, in_pos, in_below, below_lt, nothing_within, same_mask, within_le, one_position}
use Rattle.domain.proofs.Laws.{group_of, of_group}
use Rattle.domain.proofs.Descending.{SomeSubset}

-- a mask apart from m is left exactly where some positions of m make it a group
pub supplied_left : (G : ℕ → Type 0) (m u : ℕ) → 0 < u → (Meets u m → ⊥) → Supplied G m u → Left G m u
supplied_left G m u some apart s =
    inl
    (record {
      group = bit_or u s.part;
      told = s.told;
      keeps = λ p i out. elim (in_either u s.part i) [ inl j ↦ j | inr j ↦ absurd (out (s.inside.each p j)) ];
      only = λ p i. (in_left s.part i, λ j. apart (record { place = p; left = i; right = j }));
      not_empty = some;
    })

pub left_supplied : (G : ℕ → Type 0) (m u : ℕ) → (Meets u m → ⊥) → Left G m u → Supplied G m u
left_supplied G m u apart (inl s) =
    record {
      part = bit_and s.group m;
      inside = record { each = λ p i. in_second s.group m i };
      told = rw whole s.told;
    }
  where
    back : (p : ℕ) → In p u ⊎ In p (bit_and s.group m) → In p s.group
    back p (inl i) = (s.only p i).0
    back p (inr i) = in_first s.group m i

    to : (p : ℕ) → In p s.group → In p m ⊎ (In p m → ⊥) → In p (bit_or u (bit_and s.group m))
    to p i (inl j) = in_right u (in_both i j)
    to p i (inr n) = in_left (bit_and s.group m) (s.keeps p i n)

    whole : bit_or u (bit_and s.group m) ≡ s.group
    whole =
        same_mask (record { each = λ p i. back p (in_either u (bit_and s.group m) i) })
        (record { each = λ p i. to p i (in_or_not p m) })
left_supplied G m u apart (inr r) =
    absurd (apart (record { place = r.place; left = rw r.only (in_single r.place); right = r.forgotten }))

-- a mask that meets m is left exactly where it is one position
few_ones : (ones 1 ≡ 1) × (ones 0 ≡ 0)
unfolding ones
few_ones = (refl, refl)

pub single_ones : (p : ℕ) → ones (2 ^ p) ≡ 1
single_ones p =
    let e : 1 * 2 ^ p + 0 ≡ 2 ^ p = omega arith in
    sym (ap ones e) ∙ ones_cat p 1 0 (pow_pos p) ∙ omega (arith, few_ones)

pub decides_renewed : (G : ℕ → Type 0) (m u : ℕ) → Meets u m → Decides (eqb (ones u) 1) (Left G m u)
decides_renewed G m u meet = (λ e. inr (single (one_position u (eqb-true _ 1 e))), λ l. one l)
  where
    single : (p : ℕ) × (u ≡ 2 ^ p) → Renewed m u
    single s =
        record {
          place = s.0;
          forgotten = subst (λ q. In q m) (single_in (subst (In meet.place) s.1 meet.left)) meet.right;
          only = s.1;
        }

    one : Left G m u → eqb (ones u) 1 ≡ true
    one (inl s) = absurd ((s.only meet.place meet.left).1 meet.right)
    one (inr r) = rw r.only (eq-eqb _ 1 (single_ones r.place))

-- u itself is a group, or is one with some positions of m
pub decides_supplied :
    (G : ℕ → Type 0) (m u : ℕ) (r : Bool) → (G u → ⊥) → Decides r (SomeSubset (λ s. G (bit_or u s)) m) → Decides r (Supplied G m u)
decides_supplied G m u r not =
    Decides-like r (λ f. record { part = f.part; inside = f.inside; told = f.holds }) (λ s. beside s.part s.inside s.told)
  where
    beside : (k : ℕ) → Within k m → G (bit_or u k) → SomeSubset (λ s. G (bit_or u s)) m
    beside zero w g = absurd (not (rw (or_zero_r u) at g))
    beside (suc k) w g = record { part = suc k; some = omega arith; inside = w; holds = g }

pub supplied_alone : (G : ℕ → Type 0) (m u : ℕ) → G u → Supplied G m u
supplied_alone G m u g = record { part = 0; inside = nothing_within m; told = rw (or_zero_r u) g }

-- what is left of u depends only on the groups around it
pub left_local : (G H : ℕ → Type 0) (m u : ℕ) → ((g : ℕ) → u ≤ g → G g → H g) → Left G m u → Left H m u
left_local G H m u same (inl s) =
    inl
    (record {
      group = s.group;
      told = same s.group (within_le (record { each = λ p i. (s.only p i).0 })) s.told;
      keeps = s.keeps;
      only = s.only;
      not_empty = s.not_empty;
    })
left_local G H m u same (inr r) = inr r

-- a forget keeps the groups in range
pub left_range : (n : ℕ) (G : ℕ → Type 0) (m g : ℕ) → ((h : ℕ) → G h → h < 2 ^ n) → m < 2 ^ n → Left G m g → (0 < g) × (g < 2 ^ n)
left_range n G m g range small (inl s) =
    (s.not_empty, below_lt g n (λ p i. in_below n (s.only p i).0 (range s.group s.told)))
left_range n G m g range small (inr r) =
    (rw r.only (pow_pos r.place), rw r.only (pow-lt (in_below n r.forgotten small)))

pub forgotten_of :
    (n : ℕ) (old new : List ℕ) (k : Marks) (m : ℕ) → m < 2 ^ n
    → ((u : ℕ) → 0 < u → u < 2 ^ n → Decides (holds_bit new u) (Left (TableGroup n old) m u))
    → Forgotten (told_of n old k) m (told_of n new (record { free = bit_or k.free m; linear = bit_or k.linear m }))
forgotten_of n old new k m small bits =
    record {
      positions = refl;
      groups_made = λ g l.
          let r = left_range n (TableGroup n old) m g (λ h t. (of_group n old h t).1) small l in
          group_of n new g r.0 r.1 ((bits g r.0 r.1).1 l);
      groups_only = λ g l. let r = of_group n new g l in (bits g r.0 r.1).0 r.2;
      free_made = λ p i. united k.free i;
      free_only = λ p i. in_either k.free m i;
      linear_made = λ p i. united k.linear i;
      linear_only = λ p i. in_either k.linear m i;
    }
  where
    united : {p : ℕ} (a : ℕ) → In p a ⊎ In p m → In p (bit_or a m)
    united a (inl i) = in_left m i
    united a (inr i) = in_right a i

-- what a group leaves without m, where it keeps a position
pub stripped : {G : ℕ → Type 0} {m g p : ℕ} → G g → In p g → (In p m → ⊥) → Stripped G m (bit_xor g (bit_and g m))
stripped {m = m} {g = g} t i n =
    record {
      group = g;
      told = t;
      keeps = λ q j k. in_lacking j k;
      only = λ q j. lacking_in g m j;
      not_empty = in_pos (in_lacking i n);
    }

pub forget_lawful : {d e : Told} {m : ℕ} → Lawful d → m < 2 ^ d.n → Forgotten d m e → Lawful e
forget_lawful {d} {e} {m} l small f =
    record {
      some_positions = rw f.positions l.some_positions;
      few_positions = rw f.positions l.few_positions;
      in_range = λ g t. rw f.positions (left_range d.n (Group d) m g (λ h k. (l.in_range h k).1) small (f.groups_only g t));
      marks = record {
        linear_in_range =
            rw f.positions
            (below_lt e.marks.linear d.n
            (λ p i. elim (f.linear_only p i) [ inl h ↦ in_below d.n h l.marks.linear_in_range | inr h ↦ in_below d.n h small ]));
        free_is_linear =
            λ p i.
            f.linear_made p (elim (f.free_only p i) [ inl h ↦ inl (l.marks.free_is_linear p h) | inr h ↦ inr h ]);
        ground_is_linear = λ p g. f.linear_made p (inl (l.marks.ground_is_linear p (was g)));
        free_is_not_ground =
            λ p i g.
            elim (f.free_only p i)
            [ inl h ↦ l.marks.free_is_not_ground p h (was g) | inr h ↦ not_forgotten g h ];
      };
    }
  where
    not_forgotten : {p : ℕ} → IsGround e.n (Group e) p → In p m → ⊥
    not_forgotten {p} g i = g.none (2 ^ p) (f.groups_made (2 ^ p) (inr (record { place = p; forgotten = i; only = refl }))) (in_single p)

    was : {p : ℕ} → IsGround e.n (Group e) p → IsGround d.n (Group d) p
    was {p} g = record { position = rw f.positions at g.position; none = λ h t i. none h t i (in_or_not p m) }
      where
        none : (h : ℕ) → Group d h → In p h → In p m ⊎ (In p m → ⊥) → ⊥
        none h t i (inl y) = not_forgotten g y
        none h t i (inr n) = g.none _ (f.groups_made _ (inl (stripped t i n))) (in_lacking i n)
