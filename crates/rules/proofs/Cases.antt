-- The test of each case decides whether u is made.
use Rattle.std.proofs.Common.{◌≡◌, ℕ, ◌<◌, Bool, false, ◌⊎◌, Decides, sym, ◌∙◌, inl, inr, arith}
use lib.Bits.{bit_or}
use Rattle.std.proofs.lemmas.Bool.{false≢true}
use Rattle.std.proofs.lemmas.Bool.Decides.{Decides-like}
use Rattle.domain.specs.Binding.{Made, NewGroup}
use Rattle.domain.specs.Binding.NewGroup.{rest, made}
use Rattle.domain.specs.Filling.{Hull, Filled, FilledBoth}
use Rattle.domain.specs.Groups.{Shared, Side, Paired, Closure, Extended}
use Rattle.domain.specs.Groups.Extended.{alone, joined}
use Rattle.domain.specs.Masks.{Meets}
use Rattle.domain.specs.Told.{Passes}
use Rattle.domain.specs.declared.case.Case.{Case}
use Rattle.domain.specs.declared.case.Case.TheVariants.{Free, BothLinear, TermLinear}
use Rattle.domain.proofs.Filling.{shared_pos}
use Rattle.domain.proofs.Hull.{Sub, closure_like, pair_swap, two_paired, paired_two, both_extended, extended_both, one_closed, closed_some, closed_one, hulls_closed, closed_hulls}
use Rattle.domain.proofs.Made.{made_meets_left, made_meets_right, shared_left}

shared_swap : {G : ℕ → Type 0} {a b : ℕ} → Sub (Shared G a b) (Shared G b a)
shared_swap g t = record { group = t.group; left = t.right; right = t.left }

extended_like : {A S T : ℕ → Type 0} → Sub S T → Sub (Extended A S) (Extended A T)
extended_like f g (alone a) = alone a
extended_like f g (joined p) =
    joined (record { left = p.left; right = p.right; in_left = p.in_left; in_right = closure_like f p.in_right; whole = p.whole })

-- the shared groups of a side do not depend on which mask comes first
paired_like : {C A S T : ℕ → Type 0} {u : ℕ} → Sub S T → Paired C (Extended A S) u → Paired C (Extended A T) u
paired_like f p =
    record { left = p.left; right = p.right; in_left = p.in_left; in_right = extended_like f p.right p.in_right; whole = p.whole }

module _ (G : ℕ → Type 0) (a b u : ℕ) where
  -- unions of groups that meet a, with one group that meets b or with unions of such
  pub decides_half :
      (h : ℕ) (r : Bool) → Hull (Side G a) u h → 0 < h → Decides r (Filled (Side G b) h u)
      → Decides r (Paired (Closure (Side G a)) (Extended (Side G b) (Shared G a b)) u)
  decides_half h r hull some d =
      Decides-like r (λ f. one_closed shared_pos hull some f) (λ p. closed_one shared_pos (shared_left G a b) hull p) d

  pub decides_closed :
      (h k : ℕ) (r : Bool) → Hull (Side G a) u h → Hull (Side G b) u k → 0 < h → 0 < k → Decides r (bit_or h k ≡ u)
      → Decides r (Paired (Closure (Side G a)) (Closure (Side G b)) u)
  decides_closed h k r hull other h_some k_some d =
      Decides-like r (λ e. hulls_closed hull other h_some k_some e) (λ p. closed_hulls hull other p) d

  -- with an empty hull there is no such union
  pub not_left : {C : ℕ → Type 0} (h : ℕ) → Hull (Side G a) u h → h ≡ 0 → Decides false (Paired (Closure (Side G a)) C u)
  not_left h hull e = (λ f. absurd (false≢true f), λ p. absurd (omega (arith, closed_some shared_pos hull p)))

  pub not_right : {C : ℕ → Type 0} (k : ℕ) → Hull (Side G b) u k → k ≡ 0 → Decides false (Paired C (Closure (Side G b)) u)
  not_right k hull e =
      (λ f. absurd (false≢true f), λ p. absurd (omega (arith, closed_some shared_pos hull (pair_swap p))))

  pub decides_free : (r : Bool) → Decides r (FilledBoth (Side G a) (Side G b) 0 u) → Decides r (Made G a b Free u)
  decides_free r d = Decides-like r (λ f. two_paired f) (λ m. paired_two m) d

  pub decides_both : (h : ℕ) (r : Bool) → Hull (Shared G a b) u h → Decides r (FilledBoth (Side G a) (Side G b) h u) → Decides r (Made G a b BothLinear u)
  decides_both h r hull d = Decides-like r (λ f. both_extended hull f) (λ m. extended_both hull m) d

  pub decides_term : (r : Bool) → Decides r (Paired (Closure (Side G b)) (Extended (Side G a) (Shared G b a)) u) → Decides r (Made G a b TermLinear u)
  decides_term r d =
      Decides-like r (λ p. pair_swap (paired_like shared_swap p)) (λ m. paired_like shared_swap (pair_swap m)) d

  pub decides_rest : (c : Case) (r : Bool) → (Meets u a → ⊥) → (Meets u b → ⊥) → Decides r (G u) → Decides r (NewGroup G a b c u)
  decides_rest c r left right d =
      Decides-like r (λ g. rest (record { group = g; left = left; right = right })) (λ n. go n) d
    where
      go : NewGroup G a b c u → G u
      go (rest k) = k.group
      go (made k) = absurd (left (made_meets_left G a b c k))

  -- a mask that meets one side alone is no new group
  pub not_new : (c : Case) → (Meets u a → Meets u b → ⊥) → Meets u a ⊎ Meets u b → Decides false (NewGroup G a b c u)
  not_new c never one = (λ f. absurd (false≢true f), λ n. absurd (go one n))
    where
      go : Meets u a ⊎ Meets u b → NewGroup G a b c u → ⊥
      go (inl i) (rest k) = k.left i
      go (inl i) (made k) = never i (made_meets_right G a b c k)
      go (inr m) (rest k) = k.right m
      go (inr m) (made k) = never (made_meets_left G a b c k) m

pub decides_passes : (test : ℕ → Bool) (g : ℕ) (r : Bool) → r ≡ test g → Decides r (Passes test g)
decides_passes test g r e = (λ t. record { told = sym e ∙ t }, λ m. e ∙ m.told)
