-- The union of all groups that meet a mask, and the positions that no group holds.
use Rattle.std.proofs.Common.{◌≡◌, ℕ, zero, suc, ◌+◌, ◌-◌, ◌^◌, ◌<◌, ◌≤◌, Bool, true, false, not, ◌&&◌, ◌↔◌, eqb, ◌⊎◌, List, ◌∷◌, filter, sym, refl, subst, inl, inr, arith, pow_pos}
use lib.Bits.{bit_and, bit_or}
use Rattle.std.specs.List.{fold, range_with_len}
use Rattle.std.proofs.lemmas.Bool.{and_parts, cases_eq, false≢true}
use Rattle.domain.specs.Groups.{IsGround, Near}
use Rattle.domain.specs.Masks.{In, Meets, Loses}
use Rattle.domain.specs.Requests.{held_by}
use Rattle.domain.specs.Tables.{holds_bit, TableGroup}
use Rattle.rules.specs.Reaching.{Reach}
use Rattle.domain.proofs.Bits.{in_all, all_in}
use Rattle.domain.proofs.Deciding.{decides_meets}
use Rattle.domain.proofs.Descending.{listed_filter, filter_listed}
use Rattle.domain.proofs.Filling.{held_holds}
use Rattle.domain.proofs.Joining.{fold_held, held_listed}
use Rattle.domain.proofs.Lists.{Listed}
use Rattle.domain.proofs.Lists.Listed.{here, there}
use Rattle.domain.proofs.Laws.{group_of, of_group}

listed_range : {g : ℕ} (a n : ℕ) → Listed g (range_with_len a n) → (a ≤ g) × (g < a + n)
listed_range a zero l = elim l [ ]
listed_range a (suc n) here = (omega arith, omega arith)
listed_range a (suc n) (there l) = let r = listed_range (a + 1) n l in (omega (arith, r.0), omega (arith, r.1))

range_listed : {g : ℕ} (a n : ℕ) → a ≤ g → g < a + n → Listed g (range_with_len a n)
range_listed a zero low high = absurd (omega arith)
range_listed {g} a (suc n) low high = go (cases_eq g a) (λ l h. range_listed (a + 1) n l h)
  where
    go : (g ≡ a) ⊎ (g ≡ a → ⊥) → (a + 1 ≤ g → g < a + 1 + n → Listed g (range_with_len (a + 1) n)) → Listed g (range_with_len a (suc n))
    go (inl e) rest = subst (λ m. Listed m (a ∷ range_with_len (a + 1) n)) (sym e) here
    go (inr ne) rest = there (rest (omega (arith, ne)) (omega arith))

-- a mask that meets v and has its bit set, as a test
abbrev pub reached : List ℕ → ℕ → ℕ → Bool
reached bits v g = not (eqb (bit_and g v) 0) && holds_bit bits g

pub same_reached :
    (bits : List ℕ) (v g : ℕ) (r : Bool) → (r ≡ true → Meets g v × (holds_bit bits g ≡ true)) → (Meets g v → holds_bit bits g ≡ true → r ≡ true)
    → r ≡ reached bits v g
same_reached bits v g true to from =
    let t = to refl in sym (rw ((decides_meets g v).1 t.0) t.1)
same_reached bits v g false to from = go (reached bits v g) refl
  where
    go : (t : Bool) → reached bits v g ≡ t → false ≡ t
    go false q = refl
    go true q =
        let e = and_parts (not (eqb (bit_and g v) 0)) _ q in
        absurd (false≢true (from ((decides_meets g v).0 e.0) e.1))

module _ (n : ℕ) (bits : List ℕ) (v : ℕ) where
  found : List ℕ
  found = filter (reached bits v) (range_with_len 1 (2 ^ n - 1))

  made : (p : ℕ) → In p (held_by found) → Near (TableGroup n bits) v p
  unfolding found
  made p i =
      let w = held_listed found p i in
      let k = listed_filter (reached bits v) (range_with_len 1 (2 ^ n - 1)) w.1 in
      let r = listed_range 1 (2 ^ n - 1) k.0 in
      let e = and_parts (not (eqb (bit_and w.0 v) 0)) _ k.1 in
      let meets = (decides_meets w.0 v).0 e.0 in
      record {
        group = w.0;
        told = record { group = group_of n bits w.0 (omega (arith, r.0)) (omega (arith, r.1, pow_pos n)) e.1; left = meets; right = meets };
        holds = w.2;
      }

  all : (p : ℕ) → Near (TableGroup n bits) v p → In p (held_by found)
  unfolding found
  all p t =
      let r = of_group n bits t.group t.told.group in
      (held_holds found
      (filter_listed (reached bits v) (range_with_len 1 (2 ^ n - 1))
      (range_listed 1 (2 ^ n - 1) (omega (arith, r.0)) (omega (arith, r.1)))
      (rw ((decides_meets t.group v).1 t.told.left) r.2))).each p t.holds

  pub reach_of : Reach (TableGroup n bits) v (fold (λ m g. bit_or m g) 0 (filter (reached bits v) (range_with_len 1 (2 ^ n - 1))))
  unfolding found
  reach_of = rw (fold_held 0 found) (record { made = made; all = all })

-- a position in no group is one that nothing reaches
pub ground_unreached : (G : ℕ → Type 0) (n : ℕ) {every : ℕ} (near r : ℕ) → every ≡ 2 ^ n - 1 → Reach G every near
    → Loses every near true r → (p : ℕ) → In p r ↔ IsGround n G p
ground_unreached G n {every} near r is reach rest p = (made, all_ground)
  where
    made : In p r → IsGround n G p
    made i =
        let v = rest.only p i in
        record {
          position = all_in p n (rw is at v.0);
          none = λ g m j.
              let meets : Meets g every = record { place = p; left = j; right = v.0 } in
              v.1 refl (reach.all p (record { group = g; told = record { group = m; left = meets; right = meets }; holds = j }));
        }

    all_ground : IsGround n G p → In p r
    all_ground g =
        rest.kept p (rw is (in_all p n g.position))
        (λ e i. let k = reach.made p i in g.none k.group k.told.group k.holds)
