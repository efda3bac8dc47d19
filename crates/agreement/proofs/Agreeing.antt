-- Keepers that tell alike descriptions answer alike, and go on telling alike descriptions.
use Rattle.std.proofs.Common.{◌≡◌, ℕ, ◌≤◌, Bool, true, false, ◌⊎◌, Some, None, Ok, Err, Decides, Option, Result, sym, refl, ap, ◌∙◌, subst, inl, inr, arith}
use Rattle.coverage.proofs.CoreLeast.{core_fits}
use Rattle.coverage.proofs.Cover.{alike_turned, alike_trans}
use Rattle.domain.specs.Coverage.{Alike, CoreFits}
use Rattle.domain.specs.Told.{Told}
use Rattle.domain.specs.declared.refusal.Refusal.{Refusal}
use Rattle.domain.specs.declared.refusal.Refusal.TheVariants.{Capacity}
use Rattle.keeper.specs.Calls.{Changes, Answers, fault_of}
use Rattle.keeper.specs.declared.fault.KeeperFault.{KeeperFault}

alike_at : {d e e' : Told} → e' ≡ e → Alike d e → Alike d e'
alike_at {d} p h = subst (λ (x : Told). Alike d x) (sym p) h

pub alike_ends : {d d' e e' : Told} → d' ≡ d → e' ≡ e → Alike d e → Alike d' e'
alike_ends p q h = alike_turned (alike_at p (alike_turned (alike_at q h)))

pub fits_more : {G : ℕ → Type 0} {j k : ℕ} → j ≤ k → CoreFits G j → CoreFits G k
fits_more h f = record { groups = f.groups; short = (let s = f.short in omega arith); holds = f.holds }

-- two results of calls that are refused alike and give alike descriptions: they agree, unless the
-- smaller capacity refuses
module _ (small large : ℕ) (room : small ≤ large) (Rule Rule' : Told → Type 0)
    (given : (e e' : Told) → Rule e → Rule' e' → Alike e e') (d d' : Told) (alike : Alike d d') where
  pub changes_agree : (o : Option Refusal) (after after' : Told) (r r' : Result (Unit {0}) KeeperFault)
      → Changes o small Rule Alike d after r → Changes o large Rule' Alike d' after' r'
      → ((r ≡ r') × Alike after after') ⊎ ((r ≡ Err (fault_of Capacity)) × (after ≡ d))
  changes_agree (Some e) after after' r r' h h' = inl (h.0 ∙ sym h'.0, alike_ends h.1 h'.1 alike)
  changes_agree None after after' (Ok u) (Ok u') h h' =
      inl (refl, alike_trans (alike_turned h.3) (alike_trans (given h.0 h'.0 h.1 h'.1) h'.3))
  changes_agree None after after' (Ok u) (Err f) h h' =
      absurd (h'.2.2 (fits_more room (core_fits (given h.0 h'.2.0 h.1 h'.2.1) h.2)))
  changes_agree None after after' (Err f) (Ok u) h h' = inr (ap (λ (x : KeeperFault). Err x) h.0, h.1)
  changes_agree None after after' (Err f) (Err f') h h' =
      inl (ap (λ (x : KeeperFault). Err x) (h.0 ∙ sym h'.0), alike_ends h.1 h'.1 alike)

-- at one capacity they agree
pub changes_same : (capacity : ℕ) (Rule Rule' : Told → Type 0) → ((e e' : Told) → Rule e → Rule' e' → Alike e e')
    → (d d' : Told) → Alike d d' → (o : Option Refusal) (after after' : Told) (r r' : Result (Unit {0}) KeeperFault)
    → Changes o capacity Rule Alike d after r → Changes o capacity Rule' Alike d' after' r' → (r ≡ r') × Alike after after'
changes_same k Rule Rule' given d d' alike o after after' r r' h h' =
    elim (changes_agree k k (omega arith) Rule Rule' given d d' alike o after after' r r' h h') [
      | inl same ↦ same
      | inr low ↦
          elim (changes_agree k k (omega arith) Rule' Rule (λ e e' u v. alike_turned (given e' e v u)) d' d (alike_turned alike) o after' after r' r h' h) [
            | inl same ↦ (sym same.0, alike_turned same.1)
            | inr low' ↦ (low.0 ∙ sym low'.0, alike_ends low.1 low'.1 alike)
          ]
    ]

-- a question with the same tests and the same truth has one answer
decides_one : (b b' : Bool) (P P' : Type 0) → (P → P') → (P' → P) → Decides b P → Decides b' P' → b ≡ b'
decides_one true true P P' to from h h' = refl
decides_one true false P P' to from h h' = sym (h'.1 (to (h.0 refl)))
decides_one false true P P' to from h h' = h.1 (from (h'.0 refl))
decides_one false false P P' to from h h' = refl

pub answers_agree : (o : Option Refusal) (P P' : Type 0) → (P → P') → (P' → P) → (r r' : Result Bool KeeperFault)
    → Answers o P r → Answers o P' r' → r ≡ r'
answers_agree (Some e) P P' to from r r' h h' = h ∙ sym h'
answers_agree None P P' to from (Ok b) (Ok b') h h' = ap (λ (x : Bool). Ok x) (decides_one b b' P P' to from h h')
answers_agree None P P' to from (Ok b) (Err f) h h' = absurd h'
answers_agree None P P' to from (Err f) r' h h' = absurd h
