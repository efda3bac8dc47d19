-- Whether a term is free or linear: what the tests on masks decide.
use Rattle.std.proofs.Common.{◌≡◌, ℕ, ◌^◌, ◌<◌, Bool, true, false, not, eqb, ◌≢◌, ◌⊎◌, Decides, sym, ◌∙◌, subst, inl, inr, length, refl, zero-add, arith}
use lib.Count.{ones}
use Rattle.std.specs.Bool.{MatchBool}
use Rattle.std.specs.List.{AllWithin, HoldsAt, range_with_len}
use Rattle.std.proofs.lemmas.List.FromFn.{length-range_with_len, get_or-range_with_len}
use Rattle.std.proofs.lemmas.Bool.{cases_Bool, not-true, not_from_false, eq-eqb, eqb-true, false≢true}
use Rattle.std.proofs.lemmas.Bool.Decides.{Decides-like, not_from_Decides}
use Rattle.domain.specs.Binding.{FreeTerm, Once, LinearTerm}
use Rattle.domain.specs.Groups.{IsGround, Share}
use Rattle.domain.specs.Masks.{In, Meets}
use Rattle.domain.specs.Told.{Told, Group, IsFree, IsLinear}
use Rattle.domain.specs.declared.term.Term.{Term}
use Rattle.rules.specs.Reaching.{Reach}
use Rattle.rules.proofs.Asking.{in_group, in_share, decides_ground}
use Rattle.domain.proofs.Bits.{in_single, single_in, one_position, in_below}

pub decides_free_term : (d : Told) (t : Term) (r : Bool) → t.bare ≡ true → ones t.held ≡ 1 → Decides r (Meets t.held d.marks.free) → Decides r (FreeTerm d t)
decides_free_term d t r bare single =
    Decides-like r (λ m. free m (one_position t.held single))
    (λ f. record { place = f.place; left = subst (In f.place) (sym f.only) (in_single f.place); right = f.free })
  where
    free : Meets t.held d.marks.free → (p : ℕ) × (t.held ≡ 2 ^ p) → FreeTerm d t
    free m s =
        let e : m.place ≡ s.0 = single_in (subst (In m.place) s.1 m.left) in
        record { bare = bare; place = s.0; only = s.1; free = subst (IsFree d) e m.right }

-- the positions beside p that p shares with
module _ (d : Told) (t : Term) (p near others : ℕ) {alone : ℕ} (is : alone ≡ 2 ^ p) (reach : Reach (Group d) alone near)
    (kept : (q : ℕ) → In q near → (In q alone → ⊥) → In q others)
    (only : (q : ℕ) → In q others → In q near × (In q alone → ⊥)) where
  near_p : Reach (Group d) (2 ^ p) near
  near_p = rw is at reach

  pub decides_once : (r : Bool) → IsLinear d p → (In p t.repeated → ⊥) → Decides r (Meets others t.held) → Decides (not r) (Once d t p)
  decides_once r linear single test = (
    λ e. record { linear = linear; single = single; apart = λ q i ne s. not_from_Decides r test (not-true r e) (shares q i ne s) },
    λ o. not_from_false r (none o (cases_Bool r)),
  )
    where
      shares : (q : ℕ) → In q t.held → q ≢ p → Share (Group d) p q → Meets others t.held
      shares q i ne s =
          record {
            place = q;
            left = kept q (near_p.all q (in_group (Group d) s.told s.left s.right)) (λ j. ne (single_in (rw is at j)));
            right = i;
          }

      none : Once d t p → (r ≡ true) ⊎ (r ≡ false) → r ≡ false
      none o (inr e) = e
      none o (inl e) =
          let m = test.0 e in
          let k = only m.place m.left in
          absurd (o.apart m.place m.right (λ q. k.1 (rw (is, q) (in_single p))) (in_share (Group d) (near_p.made m.place k.0)))

-- ground, or held once
abbrev pub Harmless : Told → Term → ℕ → Type 0
Harmless d t p = IsGround d.n (Group d) p ⊎ Once d t p

pub decides_ground_or : (d : Told) (t : Term) (p near : ℕ) → p < d.n → Reach (Group d) (2 ^ p) near → near ≡ 0 → Decides (eqb near 0) (Harmless d t p)
decides_ground_or d t p near h reach e =
    (λ b. inl ((decides_ground (Group d) d.n p near h reach).0 b), λ s. eq-eqb near 0 e)

pub decides_or_once : (d : Told) (t : Term) (p near : ℕ) (r : Bool) → p < d.n → Reach (Group d) (2 ^ p) near → (near ≡ 0 → ⊥) → Decides r (Once d t p) → Decides r (Harmless d t p)
decides_or_once d t p near r h reach ne test = Decides-like r inr (λ s. once s) test
  where
    once : Harmless d t p → Once d t p
    once (inl g) = absurd (ne (eqb-true near 0 ((decides_ground (Group d) d.n p near h reach).1 g)))
    once (inr o) = o

-- the positions of the term are each asked

abbrev pub LinearAt : Told → Term → ℕ → Type 0
LinearAt d t p = In p t.held → Harmless d t p

pub record NotLinearAt (d : Told) (t : Term) (p : ℕ) : Type 0 where
  pub held : In p t.held
  pub neither : Harmless d t p → ⊥

pub decides_linear :
    (d : Told) (t : Term) (n : ℕ) (r : Bool) → t.held < 2 ^ n
    → MatchBool r (AllWithin (LinearAt d t) (range_with_len 0 n) 0 (length (range_with_len 0 n)))
    ((k : ℕ) × (k < length (range_with_len 0 n)) × HoldsAt (NotLinearAt d t) (range_with_len 0 n) k)
    → Decides r (LinearTerm d t)
decides_linear d t n true small all = (λ e. record { each = λ p i. each p i (in_below n i small) }, λ l. refl)
  where
    each : (p : ℕ) → In p t.held → p < n → Harmless d t p
    each p i h =
        subst (LinearAt d t) (get_or-range_with_len 0 n p 0 h ∙ zero-add p)
        (all p 0 (omega arith) (omega (arith, length-range_with_len 0 n))) i
decides_linear d t n false small found =
    (λ e. absurd (false≢true e), λ l. let f = found.2 0 in absurd (f.neither (l.each _ f.held)))
