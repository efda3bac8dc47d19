-- Two plays of one script, each with its own way of doing a step.
use Rattle.std.proofs.Common.{◌≡◌, ℕ, ◌+◌, Bool, ◌⊎◌, List, ◌∷◌, Ok, Err, Result, refl, ap, ◌∙◌, inl, inr}
use Rattle.domain.specs.Told.{Told}
use Rattle.keeper.specs.declared.fault.KeeperFault.{KeeperFault}
use Rattle.sheet.specs.Faults.{fault_at}
use Rattle.sheet.specs.declared.fault.RunnerFault.TheVariants.{Keeper}
use Rattle.sheet.specs.declared.fault.SheetFault.{SheetFault}
use Rattle.sheet.specs.declared.mark.StepMark.{StepMark}
use Rattle.sheet.specs.declared.steps.Step.{Step}
use Rattle.runner.specs.Playing.{Plays, ends, breaks, stops, goes, mark_of}
use Rattle.runner.specs.Running.{Script, finished, broken, follows}
use Rattle.runner.specs.Settings.{Transition}

-- two results are the same, and what is told after them is in the relation, or the first is a fault on which nothing is claimed
abbrev pub Agreed : (Told → Told → Type 0) → (KeeperFault → Type 0) → {R : Type 0} → Result R KeeperFault → Result R KeeperFault → Told → Told → Type 0
Agreed Like Low r r' e e' = ((r ≡ r') × Like e e') ⊎ ((f : KeeperFault) × (r ≡ Err f) × Low f)

module _ (Does Does' : Step → Transition → Result Bool KeeperFault → Type 0) (Like : Told → Told → Type 0) (Low : KeeperFault → Type 0)
    (match : (step : Step) (t t' : Transition) (r r' : Result Bool KeeperFault) → Like t.before t'.before
    → Does step t r → Does' step t' r' → Agreed Like Low r r' t.after t'.after) where
  pub plays_match : (script : Script) (k : ℕ) (d d' e e' : Told) (ms ms' : List StepMark) (r r' : Result ℕ SheetFault)
      → Like d d' → ((f : KeeperFault) (g : SheetFault) → r ≡ Err g → g.cause ≡ Keeper f → Low f → ⊥)
      → Plays Does script k d ms r e → Plays Does' script k d' ms' r' e'
      → (ms ≡ ms') × (r ≡ r') × Like e e'
  plays_match finished k d d' e e' ms ms' r r' m enough ends ends = (refl, refl, m)
  plays_match (broken place f) k d d' e e' ms ms' r r' m enough breaks breaks = (refl, refl, m)
  plays_match (follows place step rest) k d d' e e' ms ms' r r' m enough (stops {f = f} h) (stops {f = f'} h') =
      elim (match step _ _ (Err f) (Err f') m h h') [
        | inl same ↦ let p : f ≡ f' = (let q = same.0 in cc) in (refl, ap (λ (x : KeeperFault). Err (fault_at (Keeper x) k place)) p, same.1)
        | inr low ↦ let p : f ≡ low.0 = (let q = low.1 in cc) in absurd (enough low.0 (fault_at (Keeper f) k place) refl (ap (λ (x : KeeperFault). Keeper x) p) low.2)
      ]
  plays_match (follows place step rest) k d d' e e' ms ms' r r' m enough (stops {f = f} h) (goes {b = b} h' p') =
      elim (match step _ _ (Err f) (Ok b) m h h') [
        | inl same ↦ absurd (let q = same.0 in cc)
        | inr low ↦ let p : f ≡ low.0 = (let q = low.1 in cc) in absurd (enough low.0 (fault_at (Keeper f) k place) refl (ap (λ (x : KeeperFault). Keeper x) p) low.2)
      ]
  plays_match (follows place step rest) k d d' e e' ms ms' r r' m enough (goes {b = b} h p) (stops {f = f} h') =
      elim (match step _ _ (Ok b) (Err f) m h h') [
        | inl same ↦ absurd (let q = same.0 in cc)
        | inr low ↦ absurd (let q = low.1 in cc)
      ]
  plays_match (follows place step rest) k d d' e e' ms ms' r r' m enough (goes {e = i} {b = b} {marks = us} h p) (goes {e = i'} {b = b'} {marks = vs} h' p') =
      elim (match step _ _ (Ok b) (Ok b') m h h') [
        | inl same ↦
            let c : b ≡ b' = (let q = same.0 in cc) in
            let more = plays_match rest (k + 1) i i' e e' us vs r r' same.1 enough p p' in
            (ap (λ (x : Bool). mark_of place step x ∷ us) c ∙ ap (λ (l : List StepMark). mark_of place step b' ∷ l) more.0, more.1, more.2)
        | inr low ↦ absurd (let q = low.1 in cc)
      ]
