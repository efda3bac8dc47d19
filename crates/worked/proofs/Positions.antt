-- Masks read as sets of positions, and tests over positions.
use Rattle.std.proofs.Common.{ℕ, zero, suc, ◌-◌, ◌/◌, ◌%◌, ◌^◌, ◌<◌, Bool, true, false, not, ◌&&◌, ◌||◌, eqb, ltb, ◌⊎◌, List, [], ◌∷◌, sym, refl, subst, inl, inr, arith}
use native.Mathlib.Decide.{ℕ_discrete}
use lib.Bits.{bit_and, bit_or}
use Rattle.std.proofs.lemmas.Bool.{or_cases, or_left, or_right, and_parts, and_from, eqb-true, eq-eqb, ltb-true, lt-ltb, both_ways, not-true, not_from_false, cases_Bool}
use Rattle.domain.proofs.Bits.{none_in, in_left, in_right, in_either, in_both, in_first, in_second, in_lacking, lacking_in, in_all, all_in, within_and, and_within, meets_and, and_meets}
use Rattle.domain.proofs.Lists.{Listed, here, there}
use Rattle.domain.specs.Masks.{In, Within, Meets, is_within, without}
use Rattle.domain.specs.Requests.{held_by}
use Rattle.worked.proofs.Gathering.{Lists, Says, says_not}

-- ---- tests

unfoldable pub has : ℕ → ℕ → Bool
has p m = eqb (m / 2 ^ p % 2) 1

pub says_has : (p m : ℕ) → Says (has p m) (In p m)
unfolding has
says_has p m = record { yes = λ e. record { digit = eqb-true (m / 2 ^ p % 2) 1 e }; no = λ i. eq-eqb (m / 2 ^ p % 2) 1 i.digit }

unfoldable pub touches : ℕ → ℕ → Bool
touches a b = ltb 0 (bit_and a b)

pub says_touches : (a b : ℕ) → Says (touches a b) (Meets a b)
unfolding touches
says_touches a b = record { yes = λ e. and_meets a b (ltb-true 0 (bit_and a b) e); no = λ m. lt-ltb 0 (bit_and a b) (meets_and m) }

pub says_contained : (a b : ℕ) → Says (is_within a b) (Within a b)
says_contained a b = record { yes = λ e. and_within a b (eqb-true (bit_and a b) a e); no = λ w. eq-eqb (bit_and a b) a (within_and w) }

pub says_both : {a b : Bool} {P Q : Type 0} → Says a P → Says b Q → Says (a && b) (P × Q)
says_both {a} {b} s t =
    record { yes = λ e. let r = and_parts a b e in (s.yes r.0, t.yes r.1); no = λ r. and_from a b (s.no r.0) (t.no r.1) }

pub says_either : {a b : Bool} {P Q : Type 0} → Says a P → Says b Q → Says (a || b) (P ⊎ Q)
says_either {a} {b} s t =
    record {
      yes = λ e. elim (or_cases a b e) [ inl u ↦ inl (s.yes u) | inr u ↦ inr (t.yes u) ];
      no = λ r. elim r [ inl p ↦ or_left a b (s.no p) | inr q ↦ or_right a b (t.no q) ];
    }

pub says_none : {a : Bool} {P : Type 0} → Says a P → Says (not a) (P → ⊥)
says_none {a} s =
    record {
      yes = λ e. says_not s (not-true a e);
      no = λ n. elim (cases_Bool a) [ inl t ↦ absurd (n (s.yes t)) | inr f ↦ not_from_false a f ];
    }

pub says_as : {a : Bool} {P Q : Type 0} → (P → Q) → (Q → P) → Says a P → Says a Q
says_as f b s = record { yes = λ e. f (s.yes e); no = λ q. s.no (b q) }

-- ---- some position below n, and each

unfoldable pub some : ℕ → (ℕ → Bool) → Bool
some zero test = false
some (suc n) test = test n || some n test

pub says_some : {P : ℕ → Type 0} {test : ℕ → Bool} (n : ℕ) → ((p : ℕ) → Says (test p) (P p)) → Says (some n test) ((p : ℕ) × (p < n) × P p)
unfolding some
says_some zero s = record { yes = λ e. absurd (both_ways false refl e); no = λ r. absurd (omega (arith, r.1)) }
says_some {P} {test} (suc n) s =
    says_as
    (λ r. elim r [ inl p ↦ (n, omega arith, p) | inr q ↦ (q.0, omega (arith, q.1), q.2) ])
    (λ r. elim (ℕ_discrete r.0 n) [ yes e ↦ inl (subst P e r.2) | no ne ↦ inr (r.0, omega (arith, r.1), r.2) ])
    (says_either (s n) (says_some n s))

unfoldable pub each : ℕ → (ℕ → Bool) → Bool
each zero test = true
each (suc n) test = test n && each n test

pub says_each : {P : ℕ → Type 0} {test : ℕ → Bool} (n : ℕ) → ((p : ℕ) → Says (test p) (P p)) → Says (each n test) ((p : ℕ) → p < n → P p)
unfolding each
says_each zero s = record { yes = λ e p h. absurd (omega arith); no = λ f. refl }
says_each {P} {test} (suc n) s =
    says_as
    (λ r p h. elim (ℕ_discrete p n) [ yes e ↦ subst P (sym e) r.0 | no ne ↦ r.1 p (omega arith) ])
    (λ f. (f n (omega arith), λ p h. f p (omega arith)))
    (says_both (s n) (says_each n s))

-- ---- masks

-- m holds exactly the positions of P
pub record IsMaskOf (P : ℕ → Type 0) (m : ℕ) : Type 0 where
  pub only : {p : ℕ} → In p m → P p
  pub all : {p : ℕ} → P p → In p m

pub marks_self : (m : ℕ) → IsMaskOf (λ p. In p m) m
marks_self m = record { only = λ i. i; all = λ i. i }

pub marks_as : {P Q : ℕ → Type 0} {m : ℕ} → ((p : ℕ) → P p → Q p) → ((p : ℕ) → Q p → P p) → IsMaskOf P m → IsMaskOf Q m
marks_as f b k = record { only = λ {p} i. f p (k.only i); all = λ {p} q. k.all (b p q) }

pub marks_none : IsMaskOf (λ p. ⊥) 0
marks_none = record { only = λ i. none_in i; all = λ e. absurd e }

pub marks_below : (n : ℕ) → IsMaskOf (λ p. p < n) (2 ^ n - 1)
marks_below n = record { only = λ {p} i. all_in p n i; all = λ {p} h. in_all p n h }

pub marks_or : {P Q : ℕ → Type 0} {a b : ℕ} → IsMaskOf P a → IsMaskOf Q b → IsMaskOf (λ p. P p ⊎ Q p) (bit_or a b)
marks_or {a = a} {b = b} k l =
    record {
      only = λ i. elim (in_either a b i) [ inl j ↦ inl (k.only j) | inr j ↦ inr (l.only j) ];
      all = λ s. elim s [ inl p ↦ in_left b (k.all p) | inr q ↦ in_right a (l.all q) ];
    }

pub marks_and : {P Q : ℕ → Type 0} {a b : ℕ} → IsMaskOf P a → IsMaskOf Q b → IsMaskOf (λ p. P p × Q p) (bit_and a b)
marks_and {a = a} {b = b} k l =
    record { only = λ i. (k.only (in_first a b i), l.only (in_second a b i)); all = λ r. in_both (k.all r.0) (l.all r.1) }

pub marks_without : {P Q : ℕ → Type 0} {a b : ℕ} → IsMaskOf P a → IsMaskOf Q b → IsMaskOf (λ p. P p × (Q p → ⊥)) (without a b)
marks_without {a = a} {b = b} k l =
    record {
      only = λ i. let r = lacking_in a b i in (k.only r.0, λ q. r.1 (l.all q));
      all = λ r. in_lacking (k.all r.0) (λ i. r.1 (l.only i));
    }

-- a mask that counts only where a test fails
abbrev pub unless : Bool → ℕ → ℕ
unless true m = 0
unless false m = m

pub marks_unless : {P : ℕ → Type 0} {Q : Type 0} {b : Bool} {m : ℕ} → Says b Q → IsMaskOf P m → IsMaskOf (λ p. (Q → ⊥) × P p) (unless b m)
marks_unless {b = true} s k = record { only = λ i. absurd (none_in i); all = λ r. absurd (r.0 (s.yes refl)) }
marks_unless {b = false} s k = record { only = λ i. (λ q. says_not s refl q, k.only i); all = λ r. k.all r.1 }

-- ---- the positions that the groups of a list hold

-- some group of P holds p
pub record Held (P : ℕ → Type 0) (p : ℕ) : Type 0 where
  pub group : ℕ
  pub told : P group
  pub holds : In p group

pub marks_held : {P : ℕ → Type 0} {gs : List ℕ} → Lists P gs → IsMaskOf (Held P) (held_by gs)
marks_held {P} {gs} lp =
    record {
      only = λ i. only gs (λ g l. lp.only l) i;
      all = λ h. all (lp.all h.told) h.holds;
    }
  where
    only : {p : ℕ} (gs : List ℕ) → ((g : ℕ) → Listed g gs → P g) → In p (held_by gs) → Held P p
    only [] f i = absurd (none_in i)
    only (g ∷ gs) f i =
        elim (in_either g (held_by gs) i) [
          | inl j ↦ record { group = g; told = f g here; holds = j }
          | inr j ↦ only gs (λ h l. f h (there l)) j
        ]

    all : {p g : ℕ} {gs : List ℕ} → Listed g gs → In p g → In p (held_by gs)
    all (here {gs = hs}) i = in_left (held_by hs) i
    all (there {h = h} l) i = in_right h (all l i)
