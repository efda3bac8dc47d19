-- How groups inside a mask fill it up: what the walks over its subsets decide.
use Rattle.std.proofs.Common.{◌≡◌, ℕ, zero, suc, ◌<◌, Bool, true, false, not, ◌&&◌, eqb, ◌⊎◌, List, [], ◌∷◌, cond, filter, Decides, sym, refl, ap, ◌∙◌, subst, inl, inr, arith}
use lib.Bits.{bit_and, bit_or, bit_xor, or_zero_r}
use Rattle.std.specs.List.{fold}
use Rattle.std.proofs.lemmas.Bool.{and_parts, false≢true}
use Rattle.std.proofs.lemmas.Bool.Decides.{Decides-like}
use Rattle.domain.proofs.Lists.{Listed}
use Rattle.domain.proofs.Lists.Listed.{here, there}
use Rattle.domain.specs.Masks.{In, Within}
use Rattle.domain.specs.Filling.{Hull, Fills, Filled, FilledBoth}
use Rattle.domain.specs.Groups.{Closure, Shared}
use Rattle.domain.specs.Requests.{held_by}
use Rattle.domain.specs.Subsets.{subsets_from}
use Rattle.domain.specs.Told.{Passes}
use Rattle.domain.proofs.Bits.{in_or_not, in_right, in_left, in_either, in_both, in_first, in_second, in_lacking, lacking_in, same_mask, nothing_within, union_within, within_le, within_left, within_right, within_trans, or_comm, in_pos}
use Rattle.domain.proofs.Deciding.{decides_meets}
use Rattle.domain.proofs.Descending.{SomeSubset, listed_subset, subset_listed, listed_filter, filter_listed}
use Rattle.domain.proofs.Joining.{fold_held}

pub shared_pos : {G : ℕ → Type 0} {a b : ℕ} (g : ℕ) → Shared G a b g → 0 < g
shared_pos g s = in_pos s.left.left

pub fills_by : {A : ℕ → Type 0} {base u g : ℕ} → A g → bit_or base g ≡ u → Fills A base u g
fills_by {A} {base} {u} {g} told whole =
    record { told = told; inside = subst (Within g) whole (within_right base g); whole = whole }

-- a group that makes u with the base holds all that the base lacks of u, and beside it some of what the two have in common
pub fills_parts : {A : ℕ → Type 0} {base u g : ℕ} → Fills A base u g → bit_or (bit_xor u (bit_and u base)) (bit_and g (bit_and u base)) ≡ g
fills_parts {A} {base} {u} {g} f =
    same_mask (record { each = λ p i. made p (in_either (bit_xor u (bit_and u base)) (bit_and g (bit_and u base)) i) })
    (record { each = λ p i. parted p i (in_or_not p base) })
  where
    made : (p : ℕ) → In p (bit_xor u (bit_and u base)) ⊎ In p (bit_and g (bit_and u base)) → In p g
    made p (inl i) = from_u (in_either base g (subst (In p) (sym f.whole) (lacking_in u base i).0))
      where
        from_u : In p base ⊎ In p g → In p g
        from_u (inl b) = absurd ((lacking_in u base i).1 b)
        from_u (inr j) = j
    made p (inr i) = in_first g (bit_and u base) i

    parted : (p : ℕ) → In p g → In p base ⊎ (In p base → ⊥) → In p (bit_or (bit_xor u (bit_and u base)) (bit_and g (bit_and u base)))
    parted p i (inl b) = in_right (bit_xor u (bit_and u base)) (in_both i (in_both (f.inside.each p i) b))
    parted p i (inr n) = in_left (bit_and g (bit_and u base)) (in_lacking (f.inside.each p i) n)

-- where what the base lacks does not fill u alone, it does so with some of what the two have in common
pub decides_filled :
    {A : ℕ → Type 0} {base u : ℕ} (r : Bool) → (Fills A base u (bit_xor u (bit_and u base)) → ⊥)
    → Decides r (SomeSubset (λ s. Fills A base u (bit_or (bit_xor u (bit_and u base)) s)) (bit_and u base)) → Decides r (Filled A base u)
decides_filled {A} {base} {u} r alone =
    Decides-like r (λ f. record { group = _; fills = f.holds })
    (λ f. part f.group f.fills (bit_and f.group (bit_and u base)) refl)
  where
    part : (g : ℕ) → Fills A base u g → (s : ℕ) → bit_and g (bit_and u base) ≡ s
        → SomeSubset (λ s. Fills A base u (bit_or (bit_xor u (bit_and u base)) s)) (bit_and u base)
    part g f zero e =
        absurd (alone (subst (Fills A base u) (sym (fills_parts f) ∙ ap (bit_or (bit_xor u (bit_and u base))) e ∙ or_comm (bit_xor u (bit_and u base)) 0) f))
    part g f (suc s) e =
        record {
          part = bit_and g (bit_and u base);
          some = omega (arith, e);
          inside = record { each = λ p i. in_second g (bit_and u base) i };
          holds = subst (Fills A base u) (sym (fills_parts f)) f;
        }

-- a group of A, with which the base is filled by one of B
pub record FilledBeside (A B : ℕ → Type 0) (base u g : ℕ) : Type 0 where
  pub told : A g
  pub rest : Filled B (bit_or base g) u

pub decides_filled_both :
    {A B : ℕ → Type 0} {base u : ℕ} (r : Bool) → ((g : ℕ) → A g → 0 < g)
    → Decides r (SomeSubset (FilledBeside A B base u) u) → Decides r (FilledBoth A B base u)
decides_filled_both r pos =
    Decides-like r
    (λ f. record { group = f.part; fills = record { told = f.holds.told; inside = f.inside; rest = f.holds.rest } })
    (λ f.
    record {
      part = f.group;
      some = pos f.group f.fills.told;
      inside = f.fills.inside;
      holds = record { told = f.fills.told; rest = f.fills.rest };
    })

-- a listed group lies in the union of the list
pub held_holds : {g : ℕ} (xs : List ℕ) → Listed g xs → Within g (held_by xs)
held_holds [] l = elim l [ ]
held_holds (x ∷ xs) here = within_left x (held_by xs)
held_holds (x ∷ xs) (there l) = within_trans (held_holds xs l) (within_right x (held_by xs))

-- the union of a list of all groups inside u is their hull
module _ (u : ℕ) where
  held_inside : (xs : List ℕ) → ((g : ℕ) → Listed g xs → Within g u) → Within (held_by xs) u
  held_inside [] only = nothing_within u
  held_inside (x ∷ xs) only = union_within (only x here) (held_inside xs (λ g l. only g (there l)))

  held_made : {A : ℕ → Type 0} (xs : List ℕ) → ((g : ℕ) → Listed g xs → A g) → 0 < held_by xs → Closure A (held_by xs)
  held_made {A} [] told some = absurd (omega arith)
  held_made {A} (x ∷ xs) told some = go (held_by xs) (held_made xs (λ g l. told g (there l)))
    where
      go : (h : ℕ) → (0 < h → Closure A h) → Closure A (bit_or x h)
      go zero made = subst (Closure A) (sym (or_zero_r x)) (Closure.one (told x here))
      go (suc h) made = Closure.more (told x here) (made (omega arith))

  pub hull_held : {A : ℕ → Type 0} (xs : List ℕ) → ((g : ℕ) → Listed g xs → A g × Within g u) → ((g : ℕ) → A g → Within g u → Listed g xs) → Hull A u (held_by xs)
  hull_held xs only all =
      record {
        inside = held_inside xs (λ g l. (only g l).1);
        holds = λ g a w. held_holds xs (all g a w);
        made = held_made xs (λ g l. (only g l).0);
      }

-- the groups that meet both masks, as a test
abbrev pub touches : (ℕ → Bool) → ℕ → ℕ → ℕ → Bool
touches test a b s = not (eqb (bit_and s a) 0) && (not (eqb (bit_and s b) 0) && test s)

pub touches_true : (test : ℕ → Bool) (a b s : ℕ) → touches test a b s ≡ true → Shared (Passes test) a b s
touches_true test a b s e =
    let l = and_parts (not (eqb (bit_and s a) 0)) _ e in
    let r = and_parts (not (eqb (bit_and s b) 0)) _ l.1 in
    record { group = record { told = r.1 }; left = (decides_meets s a).0 l.0; right = (decides_meets s b).0 r.0 }

pub true_touches : (test : ℕ → Bool) (a b s : ℕ) → Shared (Passes test) a b s → touches test a b s ≡ true
true_touches test a b s t =
    rw ((decides_meets s a).1 t.left, (decides_meets s b).1 t.right) t.group.told

-- what is passed over adds nothing to a union
fold_passed : (p : ℕ → Bool) (m : ℕ) (xs : List ℕ) → fold (λ m s. cond (p s) (bit_or m s) m) m xs ≡ fold (λ m s. bit_or m s) m (filter p xs)
fold_passed p m [] = refl
fold_passed p m (x ∷ xs) = go (p x) (fold_passed p (bit_or m x) xs) (fold_passed p m xs)
  where
    go : (b : Bool)
        → fold (λ m s. cond (p s) (bit_or m s) m) (bit_or m x) xs ≡ fold (λ m s. bit_or m s) (bit_or m x) (filter p xs)
        → fold (λ m s. cond (p s) (bit_or m s) m) m xs ≡ fold (λ m s. bit_or m s) m (filter p xs)
        → fold (λ m s. cond (p s) (bit_or m s) m) (cond b (bit_or m x) m) xs ≡ fold (λ m s. bit_or m s) m (cond b (x ∷ filter p xs) (filter p xs))
    go true with_x without_x = with_x
    go false with_x without_x = without_x

-- one step of the union
abbrev pub united : (ℕ → Bool) → ℕ → ℕ → ℕ → ℕ → ℕ
united test a b m s = cond (touches test a b s) (bit_or m s) m

pub united_step :
    (test : ℕ → Bool) (a b m s n : ℕ) → (Shared (Passes test) a b s → n ≡ bit_or m s) → ((Shared (Passes test) a b s → ⊥) → n ≡ m) → n ≡ united test a b m s
united_step test a b m s n hit miss = go (touches test a b s) refl
  where
    go : (t : Bool) → touches test a b s ≡ t → n ≡ cond t (bit_or m s) m
    go true e = hit (touches_true test a b s e)
    go false e = miss (λ t. absurd (false≢true (sym e ∙ true_touches test a b s t)))

pub hull_of : (test : ℕ → Bool) (a b u : ℕ) → Hull (Shared (Passes test) a b) u (fold (united test a b) 0 (subsets_from u u))
hull_of test a b u =
    subst (Hull (Shared (Passes test) a b) u) (sym (fold_passed (touches test a b) 0 (subsets_from u u) ∙ fold_held 0 (filter (touches test a b) (subsets_from u u))))
    (hull_held u (filter (touches test a b) (subsets_from u u))
    (λ g l. let k = listed_filter (touches test a b) (subsets_from u u) l in (touches_true test a b g k.1, (listed_subset u u k.0).1))
    (λ g t w. filter_listed (touches test a b) (subsets_from u u) (subset_listed u u (shared_pos g t) (within_le w) w) (true_touches test a b g t)))
