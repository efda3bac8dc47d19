-- One bit of a byte, and of a table of bytes.
use Rattle.std.proofs.Common.{◌≡◌, ℕ, ◌+◌, ◌/◌, ◌%◌, ◌^◌, ◌<◌, ◌≤◌, Bool, true, false, ◌&&◌, eqb, ◌≢◌, ◌⊎◌, List, length, get_or, set, Decides, ap, ◌∙◌, inl, inr, arith, pow_pos, pow_mono}
use native.Mathlib.Nat.{div-eq_of_lt}
use lib.Bits.{bit_and, bit_or, bit_xor, and_mask}
use Rattle.std.proofs.lemmas.List.{get_or-set_same, get_or-set_other, get_or_past}
use Rattle.std.proofs.lemmas.Bool.Decides.{Decides-at}
use Rattle.std.proofs.lemmas.Bool.{eq-eqb, ne_eqb, cases_eq}
use Rattle.domain.specs.Masks.{In}
use Rattle.domain.specs.Requests.{bytes_for}
use Rattle.domain.specs.Tables.{holds_bit, in_range, TableGroup}
use Rattle.domain.specs.declared.limits.TheConstants.{MOST_POSITIONS}
use Rattle.domain.proofs.Bits.{in_or_not, in_left, in_right, in_either, in_single, single_in, in_lacking, lacking_in}

-- digits agree where one is 1 exactly when the other is
pub same_digit : {p a q b : ℕ} → (In p a → In q b) → (In q b → In p a) → a / 2 ^ p % 2 ≡ b / 2 ^ q % 2
same_digit {p} {a} {q} {b} to from = go (in_or_not p a) (in_or_not q b)
  where
    go : In p a ⊎ (In p a → ⊥) → In q b ⊎ (In q b → ⊥) → a / 2 ^ p % 2 ≡ b / 2 ^ q % 2
    go (inl i) (inl j) = omega (arith, i.digit, j.digit)
    go (inl i) (inr n) = absurd (n (to i))
    go (inr n) (inl j) = absurd (n (from j))
    go (inr n) (inr m) =
        let e : a / 2 ^ p % 2 ≢ 1 = λ d. n (record { digit = d }) in
        let f : b / 2 ^ q % 2 ≢ 1 = λ d. m (record { digit = d }) in
        omega (arith, e, f)

pub set_at : (b p : ℕ) → eqb (bit_or b (2 ^ p) / 2 ^ p % 2) 1 ≡ true
set_at b p = eq-eqb _ 1 (in_right b (in_single p)).digit

pub set_other : (b p k : ℕ) → k ≢ p → bit_or b (2 ^ p) / 2 ^ k % 2 ≡ b / 2 ^ k % 2
set_other b p k ne = same_digit (λ i. go (in_either b (2 ^ p) i)) (λ i. in_left (2 ^ p) i)
  where
    go : In k b ⊎ In k (2 ^ p) → In k b
    go (inl i) = i
    go (inr i) = absurd (ne (single_in i))

pub cleared_at : (b p : ℕ) → eqb (bit_xor b (bit_and b (2 ^ p)) / 2 ^ p % 2) 1 ≡ false
cleared_at b p = ne_eqb _ 1 (λ e. (lacking_in b (2 ^ p) (record { digit = e })).1 (in_single p))

pub cleared_other : (b p k : ℕ) → k ≢ p → bit_xor b (bit_and b (2 ^ p)) / 2 ^ k % 2 ≡ b / 2 ^ k % 2
cleared_other b p k ne = same_digit (λ i. (lacking_in b (2 ^ p) i).0) (λ i. in_lacking i (λ j. ne (single_in j)))

-- a byte's lowest digit, as `& 1` gives it
pub low_digit : (m : ℕ) → eqb (bit_and m 1) 1 ≡ eqb (m % 2) 1
low_digit m = ap (λ d. eqb d 1) (and_mask m 1)

-- past its end a table holds nothing
pub past_bit : (t : List ℕ) (g : ℕ) → length t ≤ g / 8 → holds_bit t g ≡ false
unfolding holds_bit
past_bit t g h = rw (get_or_past t (g / 8) 0 h) (ne_eqb _ 1 (omega (arith, div-eq_of_lt {n = 0} (pow_pos (g % 8)))))

-- one byte written: the bit that it was written for, and all others
pub put_at : (t : List ℕ) (g v : ℕ) (on : Bool) → g / 8 < length t → eqb (v / 2 ^ (g % 8) % 2) 1 ≡ on → holds_bit (set t (g / 8) v) g ≡ on
unfolding holds_bit
put_at t g v on h e = rw (get_or-set_same t (g / 8) v 0 h) e

pub put_others : (t : List ℕ) (g v : ℕ) → g / 8 < length t → ((k : ℕ) → k ≢ g % 8 → v / 2 ^ k % 2 ≡ get_or t (g / 8) 0 / 2 ^ k % 2) → (h : ℕ) → h ≢ g → holds_bit (set t (g / 8) v) h ≡ holds_bit t h
unfolding holds_bit
put_others t g v inside same h ne = go (cases_eq (h / 8) (g / 8))
  where
    go : (h / 8 ≡ g / 8) ⊎ (h / 8 ≡ g / 8 → ⊥) → eqb (get_or (set t (g / 8) v) (h / 8) 0 / 2 ^ (h % 8) % 2) 1 ≡ eqb (get_or t (h / 8) 0 / 2 ^ (h % 8) % 2) 1
    go (inl e) = rw (e, get_or-set_same t (g / 8) v 0 inside) (ap (λ d. eqb d 1) (same (h % 8) (omega arith)))
    go (inr n) = rw (get_or-set_other t (g / 8) (h / 8) v 0 n)

-- the turn of a loop that writes bit after bit, from the largest mask downwards: below k the table is as it was
pub record Written (P : ℕ → Type 0) (old now : List ℕ) (k top : ℕ) : Type 0 where
  pub kept : (g : ℕ) → g < k → holds_bit now g ≡ holds_bit old g
  pub done : (g : ℕ) → k ≤ g → g < top → Decides (holds_bit now g) (P g)

pub written_more :
    (P : ℕ → Type 0) (old s t : List ℕ) (k j top : ℕ) (on : Bool) → k ≡ j + 1 → Written P old s k top
    → Decides on (P j) → holds_bit t j ≡ on → ((h : ℕ) → h ≢ j → holds_bit t h ≡ holds_bit s h)
    → Written P old t j top
written_more P old s t k j top on next before here at others =
    record {
      kept = λ g h. let ne : g ≢ j = omega arith in others g ne ∙ before.kept g (omega arith);
      done = λ g h below. go g h below (cases_eq g j);
    }
  where
    go : (g : ℕ) → j ≤ g → g < top → (g ≡ j) ⊎ (g ≡ j → ⊥) → Decides (holds_bit t g) (P g)
    go g h below (inl e) = rw e (Decides-at (holds_bit t j) on at here)
    go g h below (inr ne) =
        let ne : g ≢ j = ne in
        Decides-at (holds_bit t g) (holds_bit s g) (others g ne) (before.done g (omega (arith, next, ne)) below)

-- the same from the smallest mask upwards: from k on the table is as it was
pub record WrittenUp (P : ℕ → Type 0) (old now : List ℕ) (k : ℕ) : Type 0 where
  pub kept : (g : ℕ) → k ≤ g → holds_bit now g ≡ holds_bit old g
  pub done : (g : ℕ) → 0 < g → g < k → Decides (holds_bit now g) (P g)

pub written_up_more :
    (P : ℕ → Type 0) (old s t : List ℕ) (k : ℕ) (on : Bool) → WrittenUp P old s k
    → Decides on (P k) → holds_bit t k ≡ on → ((h : ℕ) → h ≢ k → holds_bit t h ≡ holds_bit s h)
    → WrittenUp P old t (k + 1)
written_up_more P old s t k on before here at others =
    record {
      kept = λ g h. let ne : g ≢ k = omega arith in others g ne ∙ before.kept g (omega arith);
      done = λ g some h. go g some h (cases_eq g k);
    }
  where
    go : (g : ℕ) → 0 < g → g < k + 1 → (g ≡ k) ⊎ (g ≡ k → ⊥) → Decides (holds_bit t g) (P g)
    go g some h (inl e) = rw e (Decides-at (holds_bit t k) on at here)
    go g some h (inr ne) = Decides-at (holds_bit t g) (holds_bit s g) (others g ne) (before.done g some (omega (arith, ne)))

-- a mask of so few positions has its bit in the table
pub room_for : (n g k : ℕ) → n ≤ MOST_POSITIONS → g < 2 ^ n → bytes_for n ≤ k → g / 8 < k
room_for n g k few below room = let h : n ≤ 12 = few in omega (arith, pow_mono h)

-- a mask whose bit two tables share is a group of the one where it is one of the other
pub same_groups : (n : ℕ) (s t : List ℕ) (g : ℕ) → holds_bit t g ≡ holds_bit s g → TableGroup n s g → TableGroup n t g
same_groups n s t g e k = record { told = ap (λ b. in_range n g && b) e ∙ k.told }
