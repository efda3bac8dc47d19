-- A result whose error was mapped.
use Rattle.std.proofs.Common.{◌≡◌, Ok, Err, Result, sym, ◌∙◌}
use Rattle.std.specs.Prelude.{MatchResult, IsErrAnd}

module _ {T E D : Type 0} (m : Result T D) (P : E → D → Type 0) where
  pub was_ok : (r : Result T E) (x : T) → MatchResult r (λ y. m ≡ Ok y) (λ e. IsErrAnd m (P e)) → m ≡ Ok x → r ≡ Ok x
  was_ok (Ok y) x h e = (let q : ◌≡◌ {A = Result T D} (Ok y) (Ok x) = sym h ∙ e in cc)
  was_ok (Err f) x h e = absurd (rw e at h)

  pub was_err : (r : Result T E) (d : D) → MatchResult r (λ y. m ≡ Ok y) (λ e. IsErrAnd m (P e)) → m ≡ Err d → (e : E) × (r ≡ Err e) × P e d
  was_err (Ok y) d h e = absurd (let q : ◌≡◌ {A = Result T D} (Ok y) (Err d) = sym h ∙ e in cc)
  was_err (Err f) d h e = (f, cc, rw e at h)
