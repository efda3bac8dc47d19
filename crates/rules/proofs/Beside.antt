-- The bits of a table that are no groups, while masks that are in range are written.
use Rattle.std.proofs.Common.{◌≡◌, ℕ, ◌^◌, ◌<◌, true, false, ◌≢◌, ◌⊎◌, List, Contains, sym, ap, ◌∙◌, inl, inr, arith}
use Rattle.std.proofs.lemmas.Bool.{cases_Bool}
use Rattle.domain.specs.Tables.{holds_bit}
use Rattle.rules.specs.Views.{SameBeside}

pub beside_same : {n : ℕ} {s t : List ℕ} → t ≡ s → SameBeside n s t
beside_same e =
    record { empty = ap (λ (t : List ℕ). holds_bit t 0) e; past = λ g h. ap (λ (t : List ℕ). holds_bit t g) e }

-- one mask more is written
pub beside_more : {n : ℕ} {old s t : List ℕ} (u : ℕ) → SameBeside n old s → 0 < u → u < 2 ^ n
    → ((h : ℕ) → h ≢ u → holds_bit t h ≡ holds_bit s h) → SameBeside n old t
beside_more {n} u before some below others =
    record {
      empty = let ne : 0 ≢ u = omega arith in others 0 ne ∙ before.empty;
      past = λ g h. let ne : g ≢ u = omega arith in others g ne ∙ before.past g h;
    }

-- the groups of a list are put beside those that were there
module _ (n : ℕ) (gs old new : List ℕ) (ranged : (g : ℕ) → Contains gs g → (0 < g) × (g < 2 ^ n))
    (grown : (g : ℕ) → holds_bit old g ≡ true → holds_bit new g ≡ true)
    (only : (g : ℕ) → holds_bit new g ≡ true → (holds_bit old g ≡ true) ⊎ Contains gs g) where
  not_put : (g : ℕ) → (Contains gs g → ⊥) → holds_bit new g ≡ holds_bit old g
  not_put g out = go (cases_Bool (holds_bit new g)) (cases_Bool (holds_bit old g))
    where
      go : (holds_bit new g ≡ true) ⊎ (holds_bit new g ≡ false) → (holds_bit old g ≡ true) ⊎ (holds_bit old g ≡ false)
          → holds_bit new g ≡ holds_bit old g
      go (inl e) k = elim (only g e) [ inl o ↦ e ∙ sym o | inr l ↦ absurd (out l) ]
      go (inr e) (inl o) = grown g o ∙ sym o
      go (inr e) (inr o) = e ∙ sym o

  pub beside_loaded : SameBeside n old new
  beside_loaded =
      record {
        empty = not_put 0 (λ l. let r = ranged 0 l in omega (arith, r.0));
        past = λ g h. not_put g (λ l. let r = ranged g l in omega (arith, r.1, h));
      }
