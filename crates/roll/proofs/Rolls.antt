-- Lemmas on lists of entries with keys: the steps of a search and of a count, and what one more entry
-- leaves as it was.
use Rattle.std.proofs.Common.{◌≡◌, ℕ, zero, suc, ◌+◌, ◌-◌, ◌<◌, ◌≤◌, Bool, true, false, cond, ltb, List, [], ◌∷◌, ◌++◌, length, get_or, take, drop, set, sym, refl, ap, ◌∙◌, subst, inl, inr, add-one, one-add, arith}
use lib.Seq.{paste}
use Rattle.std.specs.Bool.{MatchBool, Decides}
use Rattle.std.specs.List.{insert as inserted, AllByRecursion, AllWithin, HoldsAt}
use Rattle.std.proofs.lemmas.List.{append_assoc, take_more, take_all, drop-set-lt, length-append, length-drop, length-take-le, set-append_left, set_at, set_split, take-append-drop, take_at, take-take, drop-take}
use Rattle.std.proofs.lemmas.List.Edits.{drop-paste}
use Rattle.std.proofs.ByRecursion.{All-weaker}
use Rattle.std.proofs.lemmas.Bool.{ltb-true, ltb-false, lt-ltb, le-ltb, false≢true, cond-true, cond-false, cond_both}
use Rattle.roll.specs.Rolls.{Holds, here, there, Counts, none, one_more, as_many, IsAscendingBy, place, insert, IsInOrder, Inserts, Adds, Appends}
use Rattle.std.proofs.lemmas.List.Elements.{Contains-append_cases, Contains-append_left, Contains-append_right}
use Rattle.std.specs.Prelude.{Ok, Err, Result, Contains}
use Rattle.roll.specs.declared.not_added.NotAdded.{NotAdded}
use Rattle.roll.specs.declared.not_added.NotAdded.TheVariants.{Held, Full}

module _ {X K : Type 0} (key : X → K) (k : K) where
  holds_where : (xs : List X) (i : ℕ) → i < length xs → HoldsAt (λ x. key x ≡ k) xs i → Holds key k xs
  holds_where [] i lt at = absurd (omega arith)
  holds_where (y ∷ ys) zero lt at = here (at y)
  holds_where (y ∷ ys) (suc i) lt at = there (holds_where ys i (omega arith) at)

  held_nowhere : (xs : List X) → AllWithin (λ x. key x ≡ k → ⊥) xs 0 (length xs) → Holds key k xs → ⊥
  held_nowhere [] passed h = elim h [ ]
  held_nowhere (y ∷ ys) passed (here e) = passed 0 y (omega arith) (omega arith) e
  held_nowhere (y ∷ ys) passed (there h) = held_nowhere ys (λ i d low high. passed (suc i) d (omega arith) (omega arith)) h

  -- the answer of a search for the key
  pub holds_decided : (xs : List X) (r : Bool) → MatchBool r ((i : ℕ) × (i < length xs) × HoldsAt (λ x. key x ≡ k) xs i) (AllWithin (λ x. key x ≡ k → ⊥) xs 0 (length xs)) → Decides r (Holds key k xs)
  holds_decided xs true found = ((λ _. holds_where xs found.0 found.1 found.2), λ _. refl)
  holds_decided xs false passed = ((λ e. absurd (false≢true e)), λ h. absurd (held_nowhere xs passed h))

  counts_push_one : (x : X) {xs : List X} {n : ℕ} → key x ≡ k → Counts key k xs n → Counts key k (xs ++ x ∷ []) (suc n)
  counts_push_one x e none = one_more e none
  counts_push_one x e (one_more h c) = one_more h (counts_push_one x e c)
  counts_push_one x e (as_many h c) = as_many h (counts_push_one x e c)

  counts_push_other : (x : X) {xs : List X} {n : ℕ} → (key x ≡ k → ⊥) → Counts key k xs n → Counts key k (xs ++ x ∷ []) n
  counts_push_other x e none = as_many e none
  counts_push_other x e (one_more h c) = one_more h (counts_push_other x e c)
  counts_push_other x e (as_many h c) = as_many h (counts_push_other x e c)

  take_read : (xs : List X) (i : ℕ) (x : X) → i < length xs → x ≡ get_or xs i x → take (i + 1) xs ≡ take i xs ++ x ∷ []
  take_read xs i x lt is = take_more xs i x lt ∙ ap (λ (y : X). take i xs ++ y ∷ []) (sym is)

  -- one turn of a count
  pub counts_more_one : (xs : List X) (i n : ℕ) (x : X) → i < length xs → x ≡ get_or xs i x → key x ≡ k → Counts key k (take i xs) n → Counts key k (take (i + 1) xs) (n + 1)
  counts_more_one xs i n x lt is e c = rw (take_read xs i x lt is, add-one) (counts_push_one x e c)

  pub counts_more_other : (xs : List X) (i n : ℕ) (x : X) → i < length xs → x ≡ get_or xs i x → (key x ≡ k → ⊥) → Counts key k (take i xs) n → Counts key k (take (i + 1) xs) n
  counts_more_other xs i n x lt is e c = rw (take_read xs i x lt is) (counts_push_other x e c)

  pub counts_all : (xs : List X) (i n : ℕ) → length xs ≤ i → Counts key k (take i xs) n → Counts key k xs n
  counts_all xs i n past c = rw (take_all i xs past) at c

module _ {X : Type 0} (rank : X → ℕ) where
  pub place_le : (r : ℕ) (xs : List X) → place rank r xs ≤ length xs
  place_le r [] = omega arith
  place_le r (x ∷ xs) =
      let b : Bool = ltb r (rank x) in
      let l = place_le r xs in
      elim b as (λ v. cond v 0 (1 + place rank r xs) ≤ suc (length xs)) [ true ↦ omega arith | false ↦ omega arith ]

  -- the entry goes to its place
  pub insert_is : (x : X) (xs : List X) → insert rank x xs ≡ inserted xs (place rank (rank x) xs) x
  insert_is x [] = refl
  insert_is x (y ∷ ys) =
      let b : Bool = ltb (rank x) (rank y) in
      elim b as (λ v. cond v (x ∷ (y ∷ ys)) (y ∷ insert rank x ys) ≡ inserted (y ∷ ys) (cond v 0 (1 + place rank (rank x) ys)) x)
      [ true ↦ refl | false ↦ rw one-add (ap (λ (zs : List X). y ∷ zs) (insert_is x ys)) ]

  pub place_found : (r : ℕ) (x : X) (xs : List X) → r < rank x → place rank r (x ∷ xs) ≡ 0
  place_found r x xs lt = cond-true _ 0 (1 + place rank r xs) (lt-ltb r (rank x) lt)

  pub place_passed : (r : ℕ) (x : X) (xs : List X) → rank x ≤ r → place rank r (x ∷ xs) ≡ place rank r xs + 1
  place_passed r x xs le = let e = cond-false _ 0 (1 + place rank r xs) (le-ltb r (rank x) le) in omega (arith, e)

-- moving the entries from p on up by one, and then writing x at p
module _ {X : Type 0} (xs : List X) (p m : ℕ) (x : X) (room : p + m < length xs) where
  set_front : set (take (p + 1) xs) p x ≡ take p xs ++ x ∷ []
  set_front =
      let lt : p < length xs = omega arith in
      ap (λ (l : List X). set l p x) (take_more xs p x lt) ∙ set_at (take p xs) (get_or xs p x) [] x p (length-take-le p xs (omega arith))

  shifted_front : take (p + m + 1) (set (paste xs (p + 1) (drop p xs) m) p x) ≡ inserted (take (p + m) xs) p x
  shifted_front =
      let A : List X = take (p + 1) xs in
      let B : List X = take m (drop p xs) in
      let C : List X = drop (p + 1 + m) xs in
      let la : length A ≡ p + 1 = length-take-le (p + 1) xs (omega arith) in
      let lb : length B ≡ m = length-take-le m (drop p xs) (simp length-drop (omega arith)) in
      let lab : p < length (A ++ B) = simp length-append (omega (arith, la)) in
      let e₁ : set ((A ++ B) ++ C) p x ≡ set (A ++ B) p x ++ C = set-append_left (A ++ B) C p x lab in
      let e₂ : set (A ++ B) p x ≡ set A p x ++ B = set-append_left A B p x (omega (arith, la)) in
      let e₃ : set ((A ++ B) ++ C) p x ≡ ((take p xs ++ x ∷ []) ++ B) ++ C = e₁ ∙ ap (λ (l : List X). l ++ C) (e₂ ∙ ap (λ (l : List X). l ++ B) set_front) in
      let lf : length ((take p xs ++ x ∷ []) ++ B) ≡ p + m + 1 = simp length-append (omega (arith, length-take-le p xs (omega arith), lb)) in
      ap (take (p + m + 1)) e₃ ∙ take_at ((take p xs ++ x ∷ []) ++ B) C (p + m + 1) lf ∙ append_assoc (take p xs) (x ∷ []) B
      ∙ sym (ap (λ (l : List X). l ++ x ∷ drop p (take (p + m) xs)) (take-take p (p + m) xs (omega arith)) ∙ ap (λ (l : List X). take p xs ++ x ∷ l) (drop-take p m xs))

  shifted_back : drop (p + m + 1) (set (paste xs (p + 1) (drop p xs) m) p x) ≡ drop (p + m + 1) xs
  shifted_back =
      let e : p + m + 1 ≡ p + 1 + m = omega arith in
      let lt : p < p + 1 + m = omega arith in
      rw e (drop-set-lt (p + 1 + m) (paste xs (p + 1) (drop p xs) m) p x lt ∙ drop-paste xs (p + 1) (drop p xs) m (omega arith) (simp length-drop (omega arith)))

-- the same, up to the last entry in use
module _ {X : Type 0} (xs : List X) (p used : ℕ) (x : X) (before : p ≤ used) (room : used < length xs) where
  pub moved_front : take (used + 1) (set (paste xs (p + 1) (drop p xs) (used - p)) p x) ≡ inserted (take used xs) p x
  moved_front =
      let e : p + (used - p) ≡ used = omega arith in
      let f = shifted_front xs p (used - p) x (omega arith) in
      rw e at f

  pub moved_back : drop (used + 1) (set (paste xs (p + 1) (drop p xs) (used - p)) p x) ≡ drop (used + 1) xs
  moved_back =
      let e : p + (used - p) ≡ used = omega arith in
      let f = shifted_back xs p (used - p) x (omega arith) in
      rw e at f

-- What one more entry keeps.
module _ {X : Type 0} (rank : X → ℕ) (x : X) where
  all_insert : (P : X → Type 0) → P x → (xs : List X) → AllByRecursion P xs → AllByRecursion P (insert rank x xs)
  all_insert P new [] all = (new, tt)
  all_insert P new (y ∷ ys) all =
      elim (ltb (rank x) (rank y)) as (λ v. AllByRecursion P (cond v (x ∷ (y ∷ ys)) (y ∷ insert rank x ys)))
      [ true ↦ (new, all) | false ↦ (all.0, all_insert P new ys all.1) ]

  -- an ascending list without that rank stays ascending
  pub insert_ascending : (xs : List X) → (Holds rank (rank x) xs → ⊥) → IsAscendingBy rank xs → IsAscendingBy rank (insert rank x xs)
  insert_ascending [] fresh up = (tt, tt)
  insert_ascending (y ∷ ys) fresh up =
      cond_both (ltb (rank x) (rank y)) (x ∷ (y ∷ ys)) (y ∷ insert rank x ys) (IsAscendingBy rank)
      (λ e. let lt = ltb-true (rank x) (rank y) e in ((lt, All-weaker (λ z. rank y < rank z) (λ z. rank x < rank z) (λ z h. omega arith) ys up.0), up))
      (λ e. let le = ltb-false (rank x) (rank y) e in
      let ne : rank y ≡ rank x → ⊥ = λ s. fresh (here s) in
      (all_insert (λ z. rank y < rank z) (omega arith) ys up.0, insert_ascending ys (λ h. fresh (there h)) up.1))

  -- every entry that the list held is held
  pub insert_contains : (xs : List X) (e : X) → Contains xs e → Contains (insert rank x xs) e
  insert_contains xs e h =
      let p : ℕ = place rank (rank x) xs in
      subst (λ (l : List X). Contains l e) (sym (insert_is rank x xs))
      (elim (Contains-append_cases (take p xs) (drop p xs) e (subst (λ (l : List X). Contains l e) (sym (take-append-drop p xs)) h)) [
        | inl front ↦ Contains-append_left (take p xs) (x ∷ drop p xs) e front
        | inr back ↦ Contains-append_right (take p xs) (x ∷ drop p xs) e (Contains-append_right (x ∷ []) (drop p xs) e back)
      ])

-- ranks tell keys apart
pub holds_rank : {X K : Type 0} (key : X → K) (rank : K → ℕ) → ((a b : K) → rank a ≡ rank b → a ≡ b) → (k : K) {xs : List X} → Holds (λ e. rank (key e)) (rank k) xs → Holds key k xs
holds_rank key rank apart k (here e) = here (apart _ _ e)
holds_rank key rank apart k (there h) = there (holds_rank key rank apart k h)

-- the entry is added where its key is not held and an entry is left over
module _ {X K : Type 0} (key : X → K) (rank : K → ℕ) (x : X) (used : ℕ) (xs ys : List X) (p : ℕ) where
  stands :
      (Holds key (key x) (take used xs) → ⊥) → used < length xs → p ≡ place (λ e. rank (key e)) (rank (key x)) (take used xs) →
      ys ≡ paste xs (p + 1) (drop p xs) (used - p) → Inserts key rank x used xs (set ys p x)
  stands fresh room first moved =
      let within = place_le (λ e. rank (key e)) (rank (key x)) (take used xs) in
      let le : p ≤ used = omega (arith, within, first, length-take-le used xs (omega arith)) in
      let e = ap (λ (l : List X). set l p x) moved in
      record {
        fresh = fresh;
        room = room;
        listed =
            ap (take (used + 1)) e ∙ moved_front xs p used x le room ∙ ap (λ (q : ℕ). inserted (take used xs) q x) first
            ∙ sym (insert_is (λ e. rank (key e)) x (take used xs));
        spare = ap (drop (used + 1)) e ∙ moved_back xs p used x le room;
      }

  -- with the key k and its rank r as the code has read them, and the part of the slice up to u
  pub added_there :
      (r : ℕ) (k : K) → k ≡ key x → r ≡ rank k → (Holds key k (take used xs) → false ≡ true) → used < length xs →
      p ≡ place (λ e. rank (key e)) r (take used xs) → ys ≡ paste xs (p + 1) (drop p xs) (used - p) →
      Inserts key rank x used xs (set ys p x)
  added_there r k same_key same_rank not_held room first moved =
      stands (λ h. false≢true (not_held (rw same_key h))) room (first ∙ rw (same_rank, same_key)) moved

-- an entry that was added leaves the list in order, and no entry is lost
module _ {X K : Type 0} (key : X → K) (rank : K → ℕ) (x : X) (used : ℕ) (xs ys : List X) (a : Inserts key rank x used xs ys) where
  pub added_in_order :
      ((j k : K) → rank j ≡ rank k → j ≡ k) → IsInOrder key rank (take used xs) → IsInOrder key rank (take (used + 1) ys)
  added_in_order apart up =
      subst (IsAscendingBy (λ e. rank (key e))) (sym a.listed)
      (insert_ascending (λ e. rank (key e)) x (take used xs) (λ h. a.fresh (holds_rank key rank apart (key x) h)) up)

  pub added_kept : (e : X) → Contains (take used xs) e → Contains (take (used + 1) ys) e
  added_kept e h =
      subst (λ (l : List X). Contains l e) (sym a.listed) (insert_contains (λ e. rank (key e)) x (take used xs) e h)

-- an entry above all others goes to the end, and its key is not held
module _ {X K : Type 0} (key : X → K) (rank : K → ℕ) (x : X) where
  insert_last : (xs : List X) → AllByRecursion (λ e. rank (key e) < rank (key x)) xs → insert (λ e. rank (key e)) x xs ≡ xs ++ x ∷ []
  insert_last [] below = refl
  insert_last (y ∷ ys) below =
      let le : rank (key y) ≤ rank (key x) = (let lt = below.0 in omega arith) in
      cond-false _ (x ∷ (y ∷ ys)) (y ∷ insert (λ e. rank (key e)) x ys) (le-ltb (rank (key x)) (rank (key y)) le)
      ∙ ap (λ (zs : List X). y ∷ zs) (insert_last ys below.1)

  above_fresh : (xs : List X) → AllByRecursion (λ e. rank (key e) < rank (key x)) xs → Holds key (key x) xs → ⊥
  above_fresh [] below h = elim h [ ]
  above_fresh (y ∷ ys) below (here e) = let same = ap rank e in let lt = below.0 in omega arith
  above_fresh (y ∷ ys) below (there h) = above_fresh ys below.1 h

  module _ (used : ℕ) (xs ys : List X) where
    written_last : Inserts key rank x used xs ys → used < length xs → AllByRecursion (λ e. rank (key e) < rank (key x)) (take used xs) → ys ≡ set xs used x
    written_last a room below =
        let front : take (used + 1) ys ≡ take used xs ++ x ∷ [] = a.listed ∙ insert_last (take used xs) below in
        sym (take-append-drop (used + 1) ys) ∙ rw (front, a.spare) (append_assoc (take used xs) (x ∷ []) (drop (used + 1) xs))
        ∙ sym (set_split xs used x room ∙ ap (λ (k : ℕ). take used xs ++ x ∷ drop k xs) (sym (add-one used)))

    pub added_last : (r : Result (Unit {0}) NotAdded) → Adds key rank x used xs ys r → Appends key rank x used xs ys r
    added_last (Ok u) a room below = (refl, written_last a room below)
    added_last (Err Held) a room below = absurd (above_fresh (take used xs) below a.0)
    added_last (Err Full) a room below = let full = a.1 in absurd (omega arith)
