-- What a lent table tells after an open, and after a change where it told a description: its tests are those
-- of the description, and what is made is lawful.
use Rattle.std.proofs.Common.{◌≡◌, ℕ, ◌<◌, ◌≤◌, Bool, true, false, ◌||◌, ◌++◌, eqb, ltb, List, length, Some, None, Ok, Err, Option, Result, sym, ap, ◌∙◌, subst, arith}
use Rattle.std.proofs.lemmas.Bool.{ne_eqb, eqb-false, le-ltb, ltb-false, or_parts, or_from}
use Rattle.domain.specs.Changes.{Makes, change_tests}
use Rattle.domain.specs.Opening.{New}
use Rattle.domain.specs.Refusals.{pick, first_of}
use Rattle.domain.specs.Requests.{Gives, open_tests, bytes_for}
use Rattle.domain.specs.Tables.{told_with}
use Rattle.domain.specs.Told.{Told, Lawful}
use Rattle.domain.specs.declared.change.Change.{Change}
use Rattle.domain.specs.declared.limits.TheConstants.{MOST_POSITIONS}
use Rattle.domain.specs.declared.outline.Outline.{Outline}
use Rattle.domain.specs.declared.refusal.Refusal.{Refusal}
use Rattle.domain.specs.declared.refusal.Refusal.TheVariants.{Count}
use Rattle.domain.proofs.ChangeLaws.{change_allowed, change_lawful}
use Rattle.domain.proofs.Opening.{new_lawful}
use Rattle.domain.proofs.Refusing.{passed, gave}

-- a description has no more and no fewer positions than a table may have
pub counted_told : (n : ℕ) (o : Option Refusal) → 0 < n → n ≤ MOST_POSITIONS → pick (eqb n 0 || ltb MOST_POSITIONS n) Count o ≡ o
counted_told n o some few =
    ap (λ (b : Bool). pick b Count o)
    (or_from (eqb n 0) (ltb MOST_POSITIONS n) (ne_eqb n 0 (λ e. omega arith)) (le-ltb MOST_POSITIONS n few))

-- what is said of a value, by what is said of it beside
pub gives_like : {A : Type 0} {P Q : A → Type 0} (o : Option Refusal) (r : Result A Refusal) → ((x : A) → P x → Q x) → Gives o r P → Gives o r Q
gives_like None (Ok x) f h = f x h
gives_like None (Err e) f h = h
gives_like (Some e) r f h = h

pub refusal_given : {A : Type 0} (o : Option Refusal) (e : Refusal) (P : A → Type 0) → Gives o (Err e) P → o ≡ Some e
refusal_given None e P h = absurd h
refusal_given (Some x) e P h = (let q = h in cc)

-- a refusal by the tests that come after the number of positions
pub refused_later : {A B : Type 0} (P : A → Type 0) (Q : B → Type 0) (b : Bool) (o : Option Refusal) (x : A) (e : Refusal) (r : Result B Refusal)
    → Gives (pick b Count None) (Ok x) P → o ≡ Some e → r ≡ Err e → Gives (pick b Count o) r Q
refused_later P Q true o x e r counted refused is = absurd (let q = counted in cc)
refused_later P Q false o x e r counted refused is = rw refused is

-- what a table tells that was opened is lawful
pub open_given : (n : ℕ) (later : Option Refusal) (o : Outline) (table : List ℕ)
    → Gives (pick (eqb n 0 || ltb MOST_POSITIONS n) Count later) (Ok o) (λ x. New n (told_with x table))
    → (pick (eqb n 0 || ltb MOST_POSITIONS n) Count later ≡ None) × New n (told_with o table) × Lawful (told_with o table)
open_given n later o table h =
    let g = gave _ o (λ x. New n (told_with x table)) h in
    let tests = or_parts (eqb n 0) (ltb MOST_POSITIONS n) (passed _ _ _ (sym g.0)).0 in
    (g.0, g.1, new_lawful (omega (arith, eqb-false n 0 tests.0)) (ltb-false MOST_POSITIONS n tests.1) g.1)

module _ (c : Change (List ℕ)) (o : Outline) (d : Told) (laid : List ℕ) (bytes : ℕ)
    (law : Lawful d) (positions : o.positions ≡ d.n) (long : length laid ≡ bytes) where
  given_tests : first_of (open_tests o.positions ++ change_tests o.positions c (length laid)) ≡ first_of (change_tests d.n c bytes)
  given_tests =
      counted_told o.positions (first_of (change_tests o.positions c (length laid))) (rw positions law.some_positions) (rw positions law.few_positions)
      ∙ ap (λ (n : ℕ). first_of (change_tests n c (length laid))) positions ∙ ap (λ (k : ℕ). first_of (change_tests d.n c k)) long

  pub change_given : (bytes_for d.n ≤ bytes → told_with o laid ≡ d) → (x : Outline) (table : List ℕ)
      → Gives (first_of (open_tests o.positions ++ change_tests o.positions c (length laid))) (Ok x) (λ y. Makes c (told_with o laid) (told_with y table))
      → (first_of (change_tests d.n c bytes) ≡ None) × Makes c d (told_with x table) × Lawful (told_with x table)
  change_given told x table h =
      let g = gave _ x (λ y. Makes c (told_with o laid) (told_with y table)) h in
      let none : first_of (change_tests d.n c bytes) ≡ None = sym given_tests ∙ g.0 in
      let allowed = change_allowed d.n c bytes (sym none) in
      let made : Makes c d (told_with x table) = subst (λ (d : Told). Makes c d (told_with x table)) (told allowed.1) g.1 in
      (none, made, change_lawful c d (told_with x table) allowed.0 law made)

  pub change_refused : (e : Refusal) (table : List ℕ)
      → Gives (first_of (open_tests o.positions ++ change_tests o.positions c (length laid))) (Err e) (λ y. Makes c (told_with o laid) (told_with y table))
      → first_of (change_tests d.n c bytes) ≡ Some e
  change_refused e table h = sym given_tests ∙ refusal_given _ e (λ y. Makes c (told_with o laid) (told_with y table)) h
