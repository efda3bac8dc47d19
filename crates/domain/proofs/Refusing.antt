-- What is known where no test refuses.
use Rattle.std.proofs.Common.{◌≡◌, ℕ, ◌^◌, ◌<◌, ◌≤◌, Bool, true, false, not, ◌&&◌, ◌||◌, eqb, ltb, ◌⊎◌, Some, None, Ok, Option, sym, refl, inl, inr}
use lib.Count.{ones}
use Rattle.std.proofs.lemmas.Bool.{or_parts, and_cases, and_parts, leb-false, ltb-false, eqb-true, not-false, both_ways}
use Rattle.std.proofs.lemmas.Option.{none-some}
use Rattle.domain.specs.Refusals.{pick, first_of}
use Rattle.domain.specs.Requests.{open_tests, bind_tests, bytes_for, ill_term, Gives}
use Rattle.domain.specs.declared.limits.TheConstants.{MOST_POSITIONS}
use Rattle.domain.specs.declared.refusal.Refusal.{Refusal}
use Rattle.domain.specs.declared.refusal.Refusal.TheVariants.{Count}
use Rattle.domain.specs.declared.term.Term.{Term}

-- a test that did not refuse, and those after it
pub passed : (b : Bool) (e : Refusal) (later : Option Refusal) → None ≡ pick b e later → (b ≡ false) × (None ≡ later)
passed true e later h = absurd (none-some e h)
passed false e later h = (refl, h)

-- a value that was given: no test refused, and what is said of values holds of it
pub gave : {A : Type 0} (o : Option Refusal) (x : A) (P : A → Type 0) → Gives o (Ok x) P → (o ≡ None) × P x
gave None x P h = (refl, h)
gave (Some e) x P h = absurd (let q = h in cc)

-- the number of positions is not refused where a value was given
pub counted_few : {A : Type 0} (n : ℕ) (k : A) (P : A → Type 0) → Gives (first_of (open_tests n)) (Ok k) P → (first_of (open_tests n) ≡ None) × (n ≤ MOST_POSITIONS) × P k
counted_few n k P h = let g = gave (first_of (open_tests n)) k P h in (g.0, few g.0, g.1)
  where
    few : first_of (open_tests n) ≡ None → n ≤ MOST_POSITIONS
    few e = ltb-false 12 n (or_parts (eqb n 0) (ltb 12 n) (passed (eqb n 0 || ltb 12 n) Count None (sym e)).0).1

-- a bare term of which nothing is wrong holds one position
pub bare_single : (t : Term) → ill_term t ≡ false → t.bare ≡ true → ones t.held ≡ 1
bare_single t ill bare = go (and_cases t.bare (not (eqb (ones t.held) 1 && eqb t.repeated 0)) (or_parts _ _ ill).1)
  where
    go : (t.bare ≡ false) ⊎ (not (eqb (ones t.held) 1 && eqb t.repeated 0) ≡ false) → ones t.held ≡ 1
    go (inl e) = absurd (both_ways _ e bare)
    go (inr e) = eqb-true _ 1 (and_parts _ _ (not-false _ e)).0

pub bind_allowed :
    (n x : ℕ) (t : Term) (k : ℕ) → None ≡ first_of (bind_tests n x t k)
    → (x < n) × ((t.held < 2 ^ n) × ((t.bare ≡ true → ones t.held ≡ 1) × (bytes_for n ≤ k)))
bind_allowed n x t k h =
    let a = passed _ _ _ h in
    let b = passed _ _ _ a.1 in
    let c = passed _ _ _ b.1 in
    let d = passed _ _ _ c.1 in
    let position = or_parts _ _ a.0 in
    let masks = or_parts _ _ position.1 in (
      leb-false n x position.0,
      (
        leb-false (2 ^ n) t.held masks.0,
        (bare_single t b.0, ltb-false k (bytes_for n) d.0),
      ),
    )
