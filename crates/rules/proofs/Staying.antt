-- What a bind leaves of the free and of the linear mask.
use Rattle.std.proofs.Common.{ℕ, ◌^◌, true, not, ◌↔◌, refl}
use lib.Bits.{bit_and}
use Rattle.std.proofs.lemmas.Bool.Decides.{Decides-not}
use Rattle.domain.specs.Binding.{StaysFree, StaysLinear}
use Rattle.domain.specs.Masks.{In, Loses}
use Rattle.domain.specs.Told.{Told, Group}
use Rattle.domain.specs.declared.term.Term.{Term}
use Rattle.rules.specs.Reaching.{Reach}
use Rattle.rules.specs.Signs.{Seen}
use Rattle.rules.specs.declared.rule.sides.Signs.{Signs}
use Rattle.domain.proofs.Bits.{in_first, in_second, in_both}

module _ (d : Told) (x : ℕ) (t : Term) (s : Signs) (seen : Seen d x t s) (a b : ℕ)
    (near_x : Reach (Group d) (2 ^ x) a) (near_t : Reach (Group d) t.held b) where
  pub stays_free : (k r : ℕ) → Loses d.marks.free a (not s.term.free) k → Loses k b (not s.position.free) r
      → (p : ℕ) → In p r ↔ StaysFree d x t p
  stays_free k r first second p = (only, kept)
    where
      only : In p r → StaysFree d x t p
      only i =
          let v = second.only p i in
          let w = first.only p v.0 in
          record {
            was = w.0;
            far_from_x = λ n j. w.1 ((Decides-not _ seen.term_free).1 n) (near_x.all p j);
            far_from_t = λ n j. v.1 ((Decides-not _ seen.position_free).1 n) (near_t.all p j);
          }

      kept : StaysFree d x t p → In p r
      kept f =
          second.kept p
          (first.kept p f.was (λ e i. f.far_from_x ((Decides-not _ seen.term_free).0 e) (near_x.made p i)))
          (λ e i. f.far_from_t ((Decides-not _ seen.position_free).0 e) (near_t.made p i))

  pub stays_linear :
      (j k r : ℕ) → Loses d.marks.linear (bit_and a b) true j → Loses j a (not s.term.linear) k → Loses k b (not s.position.linear) r
      → (p : ℕ) → In p r ↔ StaysLinear d x t p
  stays_linear j k r zeroth first second p = (only, kept)
    where
      only : In p r → StaysLinear d x t p
      only i =
          let v = second.only p i in
          let w = first.only p v.0 in
          let z = zeroth.only p w.0 in
          record {
            was = z.0;
            far_from_both = λ m n. z.1 refl (in_both (near_x.all p m) (near_t.all p n));
            far_from_x = λ n m. w.1 ((Decides-not _ seen.term_linear).1 n) (near_x.all p m);
            far_from_t = λ n m. v.1 ((Decides-not _ seen.position_linear).1 n) (near_t.all p m);
          }

      kept : StaysLinear d x t p → In p r
      kept f =
          second.kept p
          (first.kept p
          (zeroth.kept p f.was (λ e i. f.far_from_both (near_x.made p (in_first a b i)) (near_t.made p (in_second a b i))))
          (λ e i. f.far_from_x ((Decides-not _ seen.term_linear).0 e) (near_x.made p i)))
          (λ e i. f.far_from_t ((Decides-not _ seen.position_linear).0 e) (near_t.made p i))
