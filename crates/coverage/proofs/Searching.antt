-- Decisions put together, and searches for a number below a bound.
use Rattle.std.proofs.Common.{ℕ, zero, suc, ◌<◌, true, false, ◌⊎◌, Decides, refl, subst, inl, inr, arith}
use Rattle.std.proofs.lemmas.Bool.{false≢true}
use native.Mathlib.Decide.{dec_lt, ℕ_discrete}
use lib.Bits.{bit_and, bit_or}
use Rattle.domain.specs.Masks.{In, Within, Meets}
use Rattle.domain.proofs.Bits.{in_or_not, in_left, in_right, within_and, and_within, meets_and, and_meets}

-- ---- decisions

pub dec_not : {P : Type 0} → Dec P → Dec (P → ⊥)
dec_not (yes p) = no (λ n. n p)
dec_not (no n) = yes n

pub dec_both : {P Q : Type 0} → Dec P → Dec Q → Dec (P × Q)
dec_both (no n) e = no (λ r. n r.0)
dec_both (yes p) (no n) = no (λ r. n r.1)
dec_both (yes p) (yes q) = yes (p, q)

pub dec_either : {P Q : Type 0} → Dec P → Dec Q → Dec (P ⊎ Q)
dec_either (yes p) e = yes (inl p)
dec_either (no n) (yes q) = yes (inr q)
dec_either (no n) (no m) = no (λ s. elim s [ inl p ↦ n p | inr q ↦ m q ])

pub dec_to : {P Q : Type 0} → Dec P → Dec Q → Dec (P → Q)
dec_to (no n) e = yes (λ p. absurd (n p))
dec_to (yes p) (yes q) = yes (λ r. q)
dec_to (yes p) (no n) = no (λ f. n (f p))

pub dec_stable : {P : Type 0} → Dec P → ((P → ⊥) → ⊥) → P
dec_stable (yes p) f = p
dec_stable (no n) f = absurd (f n)

-- what a test answered

pub decides_yes : {P : Type 0} → P → Decides true P
decides_yes x = (λ e. x, λ y. refl)

pub decides_no : {P : Type 0} → (P → ⊥) → Decides false P
decides_no n = (λ e. absurd (false≢true e), λ x. absurd (n x))

-- ---- masks

pub dec_in : (p m : ℕ) → Dec (In p m)
dec_in p m = elim (in_or_not p m) [ inl i ↦ yes i | inr n ↦ no n ]

pub dec_within : (a b : ℕ) → Dec (Within a b)
dec_within a b =
    elim (ℕ_discrete (bit_and a b) a) [ yes e ↦ yes (and_within a b e) | no n ↦ no (λ w. n (within_and w)) ]

pub dec_meets : (a b : ℕ) → Dec (Meets a b)
dec_meets a b =
    elim (dec_lt 0 (bit_and a b)) [ yes h ↦ yes (and_meets a b h) | no n ↦ no (λ m. n (meets_and m)) ]

pub in_sum : {p : ℕ} (a b : ℕ) → In p a ⊎ In p b → In p (bit_or a b)
in_sum a b (inl i) = in_left b i
in_sum a b (inr i) = in_right a i

-- ---- the least number of which a test holds

pub record Least (P : ℕ → Type 0) : Type 0 where
  pub at : ℕ
  pub holds : P at
  pub first : (k : ℕ) → k < at → P k → ⊥

module _ {P : ℕ → Type 0} (dec : (k : ℕ) → Dec (P k)) where
  scan : (n : ℕ) → Least P ⊎ ((k : ℕ) → k < n → P k → ⊥)
  scan zero = inr (λ k h p. omega arith)
  scan (suc n) =
      elim (scan n) [
        | inl l ↦ inl l
        | inr none ↦
            elim (dec n) [
              | yes p ↦ inl (record { at = n; holds = p; first = none })
              | no ¬p ↦
                  inr (λ k h p. elim (ℕ_discrete k n) [ yes e ↦ ¬p (subst P e p) | no ne ↦ none k (omega arith) p ])
            ]
      ]

  pub least : (n : ℕ) → P n → Least P
  least n p = elim (scan (suc n)) [ inl l ↦ l | inr none ↦ absurd (none n (omega arith) p) ]

  -- ---- some number, where none that serves is n or more

  pub dec_some : (n : ℕ) → ((k : ℕ) → P k → k < n) → Dec ((k : ℕ) × P k)
  dec_some n below =
      elim (scan n)
      [ inl l ↦ yes (l.at, l.holds) | inr none ↦ no (λ r. none r.0 (below r.0 r.1) r.1) ]

-- each number of A, where none of A is n or more
pub dec_each : {A P : ℕ → Type 0} → ((k : ℕ) → Dec (A k)) → ((k : ℕ) → Dec (P k)) → (n : ℕ) → ((k : ℕ) → A k → k < n) → Dec ((k : ℕ) → A k → P k)
dec_each da dp n below =
    elim (dec_some (λ k. dec_both (da k) (dec_not (dp k))) n (λ k h. below k h.0)) [
      | yes r ↦ no (λ all. r.1.1 (all r.0 r.1.0))
      | no none ↦ yes (λ k a. dec_stable (dp k) (λ m. none (k, (a, m))))
    ]
