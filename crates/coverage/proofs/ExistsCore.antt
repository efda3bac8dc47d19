-- Whether a group is a core group can be decided, so the core has a list.
use Rattle.std.proofs.Common.{◌≡◌, ℕ, zero, suc, ◌+◌, ◌^◌, ◌<◌, List, subst, arith}
use native.Mathlib.Decide.{ℕ_discrete, map_dec}
use Rattle.domain.specs.Told.{Told, Group, Lawful}
use Rattle.domain.specs.Coverage.{Core, CoreList}
use Rattle.domain.proofs.Bits.{within_le}
use Rattle.coverage.specs.Walks.{CoveredInside, OpenPair}
use Rattle.coverage.proofs.Searching.{dec_not, dec_both, dec_some, dec_in, dec_within}
use Rattle.coverage.proofs.Collecting.{in_lt}
use Rattle.coverage.proofs.Counting.{CountedTo, count_start, count_skip, count_one, counted_list}
use Rattle.coverage.proofs.Pairs.{open_core, core_open}
use Rattle.coverage.proofs.CoreLeast.{dec_holding, dec_group}

module _ {G : ℕ → Type 0} (dec : (g : ℕ) → Dec (G g)) where
  dec_inside : (g p q : ℕ) → Dec (CoveredInside G g p q)
  dec_inside g p q =
      map_dec (λ r. record { group = r.0; holding = r.1.0; inside = r.1.1.0; smaller = r.1.1.1 })
      (λ i. (i.group, (i.holding, (i.inside, i.smaller))))
      (dec_some (λ h. dec_both (dec_holding dec p q h) (dec_both (dec_within h g) (dec_not (ℕ_discrete h g)))) (suc g)
      (λ h r. omega (arith, within_le r.1.0)))

  dec_open : (g p q : ℕ) → Dec (OpenPair G g p q)
  dec_open g p q =
      map_dec (λ r. record { left = r.0; right = r.1.0; uncovered = r.1.1 })
      (λ o. (o.left, (o.right, o.uncovered)))
      (dec_both (dec_in p g) (dec_both (dec_in q g) (dec_not (dec_inside g p q))))

  pub dec_core : (g : ℕ) → Dec (Core G g)
  dec_core g =
      map_dec (λ r. open_core r.0 r.1.1.1) (λ c. (c.told, (c.p, (c.q, core_open c))))
      (dec_both (dec g)
      (dec_some (λ p. dec_some (dec_open g p) g (λ q o. in_lt o.right)) g (λ p r. in_lt r.1.left)))

  -- the core groups up to n
  cores_to : (n : ℕ) → (k : ℕ) × CountedTo G (n + 1) k
  cores_to zero = (0, count_start)
  cores_to (suc n) =
      let r = cores_to n in
      let next : n + 1 + 1 ≡ suc n + 1 = omega arith in
      elim (dec_core (n + 1)) [
        | yes t ↦ (r.0 + 1, subst (λ m. CountedTo G m (r.0 + 1)) next (count_one t r.1))
        | no not ↦ (r.0, subst (λ m. CountedTo G m r.0) next (count_skip not r.1))
      ]

  pub core_counted : (n : ℕ) → ((g : ℕ) → Core G g → g < n) → (gs : List ℕ) × CoreList G gs
  core_counted n below =
      let r = cores_to n in (r.1.groups, counted_list (λ g c. omega (arith, below g c)) r.1)

pub core_listed : (d : Told) → Lawful d → (gs : List ℕ) × CoreList (Group d) gs
core_listed d l = core_counted (dec_group d) (2 ^ d.n) (λ g c. (l.in_range g c.told).1)
