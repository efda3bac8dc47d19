-- What the bind rule asks of positions and terms can be decided for a description that keeps the rules.
use Rattle.std.proofs.Common.{ℕ, ◌^◌, ◌<◌, true, inl, inr}
use mathlib.Core.Bool.{Bool-discrete}
use native.Mathlib.Decide.{dec_lt, ℕ_discrete, map_dec}
use Rattle.domain.specs.Groups.{Share, IsGround, Near}
use Rattle.domain.specs.Told.{Told, Group, IsFree, IsLinear, Lawful}
use Rattle.domain.specs.Binding.{FreeTerm, Once, LinearTerm, Fits, StaysFree, StaysLinear}
use Rattle.domain.specs.declared.case.Case.{Case}
use Rattle.domain.specs.declared.case.Case.TheVariants.{Free, BothLinear, PositionLinear, TermLinear, Neither}
use Rattle.domain.specs.declared.term.Term.{Term}
use Rattle.coverage.proofs.Searching.{dec_not, dec_both, dec_either, dec_to, dec_some, dec_each, dec_in}
use Rattle.coverage.proofs.Collecting.{in_lt, power_lt}
use Rattle.coverage.proofs.DecidedGroups.{dec_shared}
use Rattle.coverage.proofs.CoreLeast.{dec_holding, dec_group}

-- ---- positions, where the groups are all below k

module _ {G : ℕ → Type 0} (dec : (g : ℕ) → Dec (G g)) (k : ℕ) (below : (g : ℕ) → G g → g < k) where
  pub dec_ground : (n p : ℕ) → Dec (IsGround n G p)
  dec_ground n p =
      map_dec (λ r. record { position = r.0; none = λ g t i. r.1 (g, (t, i)) })
      (λ u. (u.position, λ r. u.none r.0 r.1.0 r.1.1))
      (dec_both (dec_lt p n) (dec_not (dec_some (λ g. dec_both (dec g) (dec_in p g)) k (λ g r. below g r.0))))

  pub dec_share : (p q : ℕ) → Dec (Share G p q)
  dec_share p q =
      map_dec (λ r. record { group = r.0; told = r.1.told; left = r.1.left; right = r.1.right })
      (λ s. (s.group, record { told = s.told; left = s.left; right = s.right }))
      (dec_some (dec_holding dec p q) k (λ g h. below g h.told))

  dec_near : (a p : ℕ) → Dec (Near G a p)
  dec_near a p =
      map_dec (λ r. record { group = r.0; told = r.1.0; holds = r.1.1 }) (λ m. (m.group, (m.told, m.holds)))
      (dec_some (λ g. dec_both (dec_shared dec a a g) (dec_in p g)) k (λ g r. below g r.0.group))

-- ---- terms

dec_free : (d : Told) (p : ℕ) → Dec (IsFree d p)
dec_free d p = dec_in p d.marks.free

dec_linear : (d : Told) (p : ℕ) → Dec (IsLinear d p)
dec_linear d p = dec_in p d.marks.linear

dec_free_term : (d : Told) (t : Term) → Dec (FreeTerm d t)
dec_free_term d t =
    map_dec (λ r. record { bare = r.0; place = r.1.0; only = r.1.1.0; free = r.1.1.1 })
    (λ f. (f.bare, (f.place, (f.only, f.free))))
    (dec_both (Bool-discrete t.bare true)
    (dec_some (λ p. dec_both (ℕ_discrete t.held (2 ^ p)) (dec_free d p)) t.held (λ p r. power_lt r.0)))

module _ {d : Told} (l : Lawful d) where
  group_lt : (g : ℕ) → Group d g → g < 2 ^ d.n
  group_lt g k = (l.in_range g k).1

  dec_once : (t : Term) (p : ℕ) → Dec (Once d t p)
  dec_once t p =
      map_dec (λ r. record { linear = r.0; single = r.1.0; apart = r.1.1 }) (λ o. (o.linear, (o.single, o.apart)))
      (dec_both (dec_linear d p)
      (dec_both (dec_not (dec_in p t.repeated))
      (dec_each (λ q. dec_in q t.held)
      (λ q. dec_to (dec_not (ℕ_discrete q p)) (dec_not (dec_share (dec_group d) (2 ^ d.n) group_lt p q)))
      t.held
      (λ q i. in_lt i))))

  dec_linear_term : (t : Term) → Dec (LinearTerm d t)
  dec_linear_term t =
      map_dec (λ f. record { each = f }) (λ m. m.each)
      (dec_each (λ p. dec_in p t.held)
      (λ p. dec_either (dec_ground (dec_group d) (2 ^ d.n) group_lt d.n p) (dec_once t p))
      t.held
      (λ p i. in_lt i))

  -- ---- the case

  choose : (x : ℕ) (t : Term) → Dec (IsFree d x) → Dec (FreeTerm d t) → Dec (IsLinear d x) → Dec (LinearTerm d t) → (c : Case) × Fits d x t c
  choose x t (yes f) ft lp lt = (Free, inl f)
  choose x t (no n) (yes f) lp lt = (Free, inr f)
  choose x t (no n) (no m) (yes p) (yes q) = (BothLinear, (n, m, p, q))
  choose x t (no n) (no m) (yes p) (no q) = (PositionLinear, (n, m, p, q))
  choose x t (no n) (no m) (no p) (yes q) = (TermLinear, (n, m, p, q))
  choose x t (no n) (no m) (no p) (no q) = (Neither, (n, m, p, q))

  pub some_case : (x : ℕ) (t : Term) → (c : Case) × Fits d x t c
  some_case x t = choose x t (dec_free d x) (dec_free_term d t) (dec_linear d x) (dec_linear_term t)

  -- ---- the marks

  far : (a p : ℕ) → Dec (Near (Group d) a p → ⊥)
  far a p = dec_not (dec_near (dec_group d) (2 ^ d.n) group_lt a p)

  pub dec_stays_free : (x : ℕ) (t : Term) (p : ℕ) → Dec (StaysFree d x t p)
  dec_stays_free x t p =
      map_dec (λ r. record { was = r.0; far_from_x = r.1.0; far_from_t = r.1.1 })
      (λ s. (s.was, (s.far_from_x, s.far_from_t)))
      (dec_both (dec_free d p)
      (dec_both (dec_to (dec_not (dec_free_term d t)) (far (2 ^ x) p)) (dec_to (dec_not (dec_free d x)) (far t.held p))))

  pub dec_stays_linear : (x : ℕ) (t : Term) (p : ℕ) → Dec (StaysLinear d x t p)
  dec_stays_linear x t p =
      map_dec (λ r. record { was = r.0; far_from_both = r.1.0; far_from_x = r.1.1.0; far_from_t = r.1.1.1 })
      (λ s. (s.was, (s.far_from_both, (s.far_from_x, s.far_from_t))))
      (dec_both (dec_linear d p)
      (dec_both (dec_to (dec_near (dec_group d) (2 ^ d.n) group_lt (2 ^ x) p) (far t.held p))
      (dec_both (dec_to (dec_not (dec_linear_term t)) (far (2 ^ x) p)) (dec_to (dec_not (dec_linear d x)) (far t.held p)))))
