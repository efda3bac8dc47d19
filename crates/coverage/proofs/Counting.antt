-- Lists in which nothing stands twice, and the number of core groups.
use Rattle.std.proofs.Common.{◌≡◌, ℕ, ◌+◌, ◌*◌, ◌%◌, ◌^◌, ◌<◌, ◌≤◌, ◌≢◌, List, [], ◌∷◌, ◌++◌, length, get_or, Contains, AllPairs, sym, refl, ap, ◌∙◌, subst, inl, inr, le_antisymm, arith, length-append}
use native.Mathlib.Decide.{ℕ_discrete}
use Rattle.std.specs.Cmp.{unsigned_Decides}
use Rattle.std.specs.List.Sorted.{IsStrictlyIncreasing}
use Rattle.std.proofs.lemmas.Bool.{eqb-true}
use Rattle.std.proofs.lemmas.Cmp.{nat_eq_equiv}
use Rattle.std.proofs.lemmas.List.Elements.{Contains-append_left, Contains-get_or, Contains-push, Contains-push_cases}
use Rattle.std.proofs.lemmas.List.Kept.{AllPairs-from_increasing}
use Rattle.std.proofs.lemmas.List.Quantifiers.{all_pairs_push}
use Rattle.std.proofs.lemmas.Map.Made.{IsDistinct-from_AllPairs, length-le_from_is_member}
use Rattle.std.proofs.lemmas.Map.Views.{Contains-from_any, list_any-from_Contains}
use Rattle.std.proofs.lemmas.Nat.{one_shl}
use Rattle.domain.specs.Coverage.{Core, CoreFits, CoreList, SameCover}
use Rattle.domain.specs.Tables.{TableGroup}
use Rattle.domain.specs.declared.limits.TheConstants.{MOST_POSITIONS}
use Rattle.domain.proofs.Bits.{in_pos}
use Rattle.domain.proofs.Laws.{of_group}
use Rattle.coverage.specs.Counts.{CoreCount}
use Rattle.coverage.proofs.Cover.{same_turned}
use Rattle.coverage.proofs.CoreLeast.{core_kept}

-- ---- lists

-- a list without repetition is no longer than one that has all its entries
once_le : (xs ys : List ℕ) → AllPairs (λ g h. g ≢ h) xs → ((g : ℕ) → Contains xs g → Contains ys g) → length xs ≤ length ys
once_le xs ys once f =
    length-le_from_is_member nat_eq_equiv xs ys (IsDistinct-from_AllPairs unsigned_Decides xs once)
    (λ g e. list_any-from_Contains nat_eq_equiv g ys (f g (Contains-from_any eqb-true g xs e)))

-- nothing stands twice in an ascending list
increasing_once : (xs : List ℕ) → IsStrictlyIncreasing xs → AllPairs (λ g h. g ≢ h) xs
increasing_once xs up i j d l m e = omega (arith, AllPairs-from_increasing xs up i j d l m, e)

pub increasing_push : (xs : List ℕ) (g : ℕ) → IsStrictlyIncreasing xs → ((h : ℕ) → Contains xs h → h < g) → IsStrictlyIncreasing (xs ++ g ∷ [])
increasing_push xs g up below k h =
    all_pairs_push (λ a b. a < b) xs g (AllPairs-from_increasing xs up)
    (λ i d l. below (get_or xs i d) (Contains-get_or xs i d l)) k (k + 1) 0 (omega arith) h

-- ---- counts

pub count_fits : {G : ℕ → Type 0} {k m : ℕ} → CoreCount G k → k ≤ m → CoreFits G m
count_fits c h = record { groups = c.groups; short = omega (arith, c.counted); holds = c.all }

pub fits_count : {G : ℕ → Type 0} {k m : ℕ} → CoreCount G k → CoreFits G m → k ≤ m
fits_count c f =
    omega (arith, c.counted, f.short, once_le c.groups f.groups c.once (λ g l. f.holds g (c.only g l)))

count_le : {G H : ℕ → Type 0} {j k : ℕ} → SameCover G H → CoreCount G j → CoreCount H k → j ≤ k
count_le s c d =
    omega (arith, c.counted, d.counted, once_le c.groups d.groups c.once (λ g l. d.all g (core_kept s (c.only g l))))

pub count_same : {G H : ℕ → Type 0} {j k : ℕ} → SameCover G H → CoreCount G j → CoreCount H k → j ≡ k
count_same s c d = le_antisymm (count_le s c d) (count_le (same_turned s) d c)

pub list_counted : {G : ℕ → Type 0} {gs : List ℕ} → CoreList G gs → CoreCount G (length gs)
list_counted {gs = gs} c =
    record { groups = gs; counted = refl; once = increasing_once gs c.ascending; only = c.only; all = c.all }

-- ---- counting upwards

-- the core groups below g are k
pub record CountedTo (G : ℕ → Type 0) (g k : ℕ) : Type 0 where
  pub groups : List ℕ
  pub counted : length groups ≡ k
  pub ascending : IsStrictlyIncreasing groups
  pub only : (h : ℕ) → Contains groups h → Core G h × (h < g)
  pub all : (h : ℕ) → Core G h → h < g → Contains groups h

unfoldable pub count_start : {G : ℕ → Type 0} → CountedTo G 1 0
count_start {G} =
    record {
      groups = [];
      counted = refl;
      ascending = λ k h. absurd (omega arith);
      only = λ h c. absurd (omega (arith, c.1));
      all = λ h c b. absurd (omega (arith, in_pos c.left));
    }

unfoldable pub count_skip : {G : ℕ → Type 0} {g k : ℕ} → (Core G g → ⊥) → CountedTo G g k → CountedTo G (g + 1) k
count_skip {G} {g} n c =
    record {
      groups = c.groups;
      counted = c.counted;
      ascending = c.ascending;
      only = λ h l. let o = c.only h l in (o.0, omega (arith, o.1));
      all =
          λ h k b.
          elim (ℕ_discrete h g) [ yes e ↦ absurd (n (subst (Core G) e k)) | no ne ↦ c.all h k (omega arith) ];
    }

unfoldable pub count_one : {G : ℕ → Type 0} {g k : ℕ} → Core G g → CountedTo G g k → CountedTo G (g + 1) (k + 1)
count_one {G} {g} t c =
    record {
      groups = c.groups ++ g ∷ [];
      counted = length-append c.groups (g ∷ []) ∙ ap (λ n. n + 1) c.counted;
      ascending = increasing_push c.groups g c.ascending (λ h l. (c.only h l).1);
      only =
          λ h l.
          elim (Contains-push_cases c.groups g h l)
          [ inl m ↦ let o = c.only h m in (o.0, omega (arith, o.1)) | inr e ↦ (subst (Core G) e t, omega arith) ];
      all =
          λ h k b.
          elim (ℕ_discrete h g) [
            | yes e ↦ subst (Contains (c.groups ++ g ∷ [])) (sym e) (Contains-push c.groups g)
            | no ne ↦ Contains-append_left c.groups (g ∷ []) h (c.all h k (omega arith))
          ];
    }

pub counted_room : {G : ℕ → Type 0} {g k m : ℕ} → CountedTo G g k → CoreFits G m → k ≤ m
counted_room c f =
    omega (arith, c.counted, f.short, once_le c.groups f.groups (increasing_once c.groups c.ascending) (λ h l. f.holds h (c.only h l).0))

pub counted_list : {G : ℕ → Type 0} {g k : ℕ} → ((h : ℕ) → Core G h → h < g) → (c : CountedTo G g k) → CoreList G c.groups
counted_list b c =
    record { only = λ h l. (c.only h l).0; all = λ h k. c.all h k (b h k); ascending = c.ascending }

pub count_end : {G : ℕ → Type 0} {g k : ℕ} → ((h : ℕ) → Core G h → h < g) → CountedTo G g k → CoreCount G k
count_end {G} b c = subst (CoreCount G) c.counted (list_counted (counted_list b c))

-- ---- tables

-- a core group of a table is not empty, and is a set of its positions
pub core_range : (n : ℕ) (t : List ℕ) (g : ℕ) → Core (TableGroup n t) g → (0 < g) × (g < 2 ^ n)
core_range n t g c = let r = of_group n t g c.told in (r.0, r.1)

-- a loop that ends at 2 to the power n, as code computes it, is past every core group
pub core_below : (n : ℕ) (t : List ℕ) (g : ℕ) → n ≤ MOST_POSITIONS → 1 * 2 ^ n % 2 ^ 16 ≤ g → (h : ℕ) → Core (TableGroup n t) h → h < g
core_below n t g few past h k =
    let small : n ≤ 12 = few in
    omega (arith, (core_range n t h k).1, one_shl n 16 (omega arith), past)
