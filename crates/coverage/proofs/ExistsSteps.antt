-- A new description, a join and a forget each have a result.
use Rattle.std.proofs.Common.{◌≡◌, ℕ, suc, ◌-◌, ◌^◌, ◌<◌, ◌⊎◌, Bool, true, false, eqb, List, Contains, sym, refl, ◌∙◌, subst, arith}
use native.Mathlib.Decide.{dec_lt, ℕ_discrete, map_dec}
use lib.Bits.{bit_and, bit_or}
use Rattle.std.specs.List.{list_any}
use Rattle.std.proofs.lemmas.Bool.{eqb-true, false≢true}
use Rattle.std.proofs.lemmas.Cmp.{nat_eq_equiv}
use Rattle.std.proofs.lemmas.Map.Views.{Contains-from_any, list_any-from_Contains}
use Rattle.domain.specs.Masks.{In, without}
use Rattle.domain.specs.Told.{Told, Group}
use Rattle.domain.specs.Opening.{Single, New}
use Rattle.domain.specs.Joining.{Joined}
use Rattle.domain.specs.Forgetting.{Stripped, Renewed, Left, Forgotten}
use Rattle.domain.specs.declared.listing.Listing.{Listing}
use Rattle.domain.proofs.Bits.{in_all, all_in, in_left, in_right, in_either, in_both, in_first, in_second, in_lacking, lacking_in, within_le, same_mask}
use Rattle.coverage.proofs.Searching.{dec_both, dec_either, dec_some, dec_in, in_sum}
use Rattle.coverage.proofs.Collecting.{Tested, tested, in_lt}
use Rattle.coverage.proofs.CoreLeast.{dec_group}

-- ---- new

dec_single : (n g : ℕ) → Dec (Single n g)
dec_single n g =
    map_dec (λ r. record { place = r.0; position = r.1.0; only = r.1.1 })
    (λ s. (s.place, (s.position, s.only)))
    (dec_some (λ p. dec_both (dec_lt p n) (ℕ_discrete g (2 ^ p))) n (λ p r. r.0))

pub new_made : (n : ℕ) → (e : Told) × New n e
new_made n =
    let t = tested (dec_single n) in (
      record { n = n; groups = t.test; marks = record { free = 2 ^ n - 1; linear = 2 ^ n - 1 } },
      record {
        positions = refl;
        groups_made = t.all;
        groups_only = t.only;
        free_made = λ p h. in_all p n h;
        free_only = λ p i. all_in p n i;
        linear_made = λ p h. in_all p n h;
        linear_only = λ p i. all_in p n i;
      },
    )

-- ---- join

dec_contains : (hs : List ℕ) (g : ℕ) → Dec (Contains hs g)
dec_contains hs g = go (list_any (eqb g) hs) refl
  where
    go : (b : Bool) → list_any (eqb g) hs ≡ b → Dec (Contains hs g)
    go true e = yes (Contains-from_any eqb-true g hs e)
    go false e = no (λ c. false≢true (sym e ∙ list_any-from_Contains nat_eq_equiv g hs c))

pub join_made : (d : Told) (other : Listing (List ℕ)) → (e : Told) × Joined d other e
join_made d other =
    let t : Tested (λ g. Group d g ⊎ Contains other.groups g) = tested (λ g. dec_either (dec_group d g) (dec_contains other.groups g)) in
    let m = d.marks in
    let k = other.marks in (
      record { n = d.n; groups = t.test; marks = record { free = bit_and m.free k.free; linear = bit_and m.linear k.linear } },
      record {
        positions = refl;
        groups_made = t.all;
        groups_only = t.only;
        free_common = λ p i j. in_both i j;
        free_only = λ p i. (in_first m.free k.free i, in_second m.free k.free i);
        linear_common = λ p i j. in_both i j;
        linear_only = λ p i. (in_first m.linear k.linear i, in_second m.linear k.linear i);
      },
    )

-- ---- forget

-- what a group leaves without m
stripped_whole : {G : ℕ → Type 0} {m g : ℕ} (s : Stripped G m g) → g ≡ without s.group m
stripped_whole {m = m} s =
    same_mask
    (record { each = λ p i. let r = s.only p i in in_lacking r.0 r.1 })
    (record { each = λ p i. let r = lacking_in s.group m i in s.keeps p r.0 r.1 })

whole_stripped : {G : ℕ → Type 0} {m g : ℕ} (h : ℕ) → G h → g ≡ without h m → 0 < g → Stripped G m g
whole_stripped {m = m} h t e some =
    record {
      group = h;
      told = t;
      keeps = λ p i n. subst (In p) (sym e) (in_lacking i n);
      only = λ p i. lacking_in h m (subst (In p) e i);
      not_empty = some;
    }

-- a group lies inside what it leaves and m
stripped_lt : (g h m : ℕ) → g ≡ without h m → h < suc (bit_or g m)
stripped_lt g h m e = omega (arith, within_le {a = h} {b = bit_or g m} (record { each = place }))
  where
    place : (p : ℕ) → In p h → In p (bit_or g m)
    place p i =
        elim (dec_in p m) [ yes j ↦ in_right g j | no n ↦ in_left m (subst (In p) (sym e) (in_lacking i n)) ]

dec_stripped : {G : ℕ → Type 0} → ((g : ℕ) → Dec (G g)) → (m g : ℕ) → Dec (Stripped G m g)
dec_stripped dec m g =
    map_dec (λ r. whole_stripped r.0 r.1.0 r.1.1.0 r.1.1.1)
    (λ s. (s.group, (s.told, (stripped_whole s, s.not_empty))))
    (dec_some (λ h. dec_both (dec h) (dec_both (ℕ_discrete g (without h m)) (dec_lt 0 g))) (suc (bit_or g m))
    (λ h r. stripped_lt g h m r.1.0))

dec_renewed : (m g : ℕ) → Dec (Renewed m g)
dec_renewed m g =
    map_dec (λ r. record { place = r.0; forgotten = r.1.0; only = r.1.1 })
    (λ s. (s.place, (s.forgotten, s.only)))
    (dec_some (λ p. dec_both (dec_in p m) (ℕ_discrete g (2 ^ p))) m (λ p r. in_lt r.0))

pub forget_made : (d : Told) (m : ℕ) → (e : Told) × Forgotten d m e
forget_made d m =
    let t : Tested (Left (Group d) m) = tested (λ g. dec_either (dec_stripped (dec_group d) m g) (dec_renewed m g)) in
    let k = d.marks in (
      record { n = d.n; groups = t.test; marks = record { free = bit_or k.free m; linear = bit_or k.linear m } },
      record {
        positions = refl;
        groups_made = t.all;
        groups_only = t.only;
        free_made = λ p s. in_sum k.free m s;
        free_only = λ p i. in_either k.free m i;
        linear_made = λ p s. in_sum k.linear m s;
        linear_only = λ p i. in_either k.linear m i;
      },
    )
