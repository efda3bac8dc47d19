-- The kinds of groups that the bind rule speaks of can be decided, where the groups themselves can.
use Rattle.std.proofs.Common.{◌≡◌, ℕ, zero, suc, ◌<◌, inl, inr, arith}
use native.Mathlib.Decide.{ℕ_discrete, map_dec}
use lib.Bits.{bit_or}
use Rattle.domain.specs.Masks.{In, Within}
use Rattle.domain.specs.Groups.{Side, Shared, Apart, Paired, Closure, one, more, Extended, alone, joined}
use Rattle.domain.specs.Coverage.{Covers}
use Rattle.domain.specs.Binding.{Made, NewGroup, rest, made}
use Rattle.domain.specs.declared.case.Case.{Case}
use Rattle.domain.specs.declared.case.Case.TheVariants.{Free, BothLinear, PositionLinear, TermLinear, Neither}
use Rattle.domain.proofs.Bits.{in_left, in_right, within_le, union_within, same_mask}
use Rattle.domain.proofs.Hull.{Inside, closure_some, pair_left, pair_right}
use Rattle.coverage.proofs.Searching.{dec_not, dec_both, dec_either, dec_some, dec_each, dec_in, dec_within, dec_meets}
use Rattle.coverage.proofs.Collecting.{in_lt}
use Rattle.coverage.proofs.CoreLeast.{dec_holding}
use Rattle.coverage.proofs.BindCover.{closure_covers}

-- ---- pairs

dec_paired : {A B : ℕ → Type 0} → ((g : ℕ) → Dec (A g)) → ((g : ℕ) → Dec (B g)) → (u : ℕ) → Dec (Paired A B u)
dec_paired {A} {B} da db u =
    map_dec
    (λ r. record { left = r.0; right = r.1.0; in_left = r.1.1.0; in_right = r.1.1.1.0; whole = r.1.1.1.1 })
    (λ p. (p.left, (p.right, (p.in_left, (p.in_right, p.whole)))))
    (dec_some (λ a. dec_some (dec_two a) (suc u) (λ b r. omega (arith, within_le (pair_right (two a b r))))) (suc u)
    (λ a r. omega (arith, within_le (pair_left (two a r.0 r.1)))))
  where
    dec_two : (a b : ℕ) → Dec (A a × (B b × (bit_or a b ≡ u)))
    dec_two a b = dec_both (da a) (dec_both (db b) (ℕ_discrete (bit_or a b) u))

    two : (a b : ℕ) → A a × (B b × (bit_or a b ≡ u)) → Paired A B u
    two a b r = record { left = a; right = b; in_left = r.0; in_right = r.1.0; whole = r.1.1 }

-- ---- unions

-- some group of A lies inside u, and such groups hold all of u
record UnionOf (A : ℕ → Type 0) (u : ℕ) : Type 0 where
  some : Inside A u
  each : (p : ℕ) → In p u → Covers A u p p

closure_union : {A : ℕ → Type 0} {u : ℕ} → Closure A u → UnionOf A u
closure_union k = record { some = closure_some k; each = λ p i. closure_covers k i }

module _ {A : ℕ → Type 0} (dec : (g : ℕ) → Dec (A g)) where
  dec_covers : (w p q : ℕ) → Dec (Covers A w p q)
  dec_covers w p q =
      map_dec (λ r. let h = r.1.0 in record { group = r.0; told = h.told; left = h.left; right = h.right; inside = r.1.1 })
      (λ c. (c.group, (record { told = c.told; left = c.left; right = c.right }, c.inside)))
      (dec_some (λ g. dec_both (dec_holding dec p q g) (dec_within g w)) (suc w) (λ g r. omega (arith, within_le r.1)))

  dec_union : (u : ℕ) → Dec (UnionOf A u)
  dec_union u =
      map_dec (λ r. record { some = record { group = r.0.0; told = r.0.1.0; inside = r.0.1.1 }; each = r.1 })
      (λ n. ((n.some.group, (n.some.told, n.some.inside)), n.each))
      (dec_both (dec_some (λ g. dec_both (dec g) (dec_within g u)) (suc u) (λ g r. omega (arith, within_le r.1)))
      (dec_each (λ p. dec_in p u) (λ p. dec_covers u p p) u (λ p i. in_lt i)))

-- a union of groups inside u that holds the positions of u below k
record Gathered (A : ℕ → Type 0) (u k : ℕ) : Type 0 where
  mask : ℕ
  closed : Closure A mask
  inside : Within mask u
  holds : (p : ℕ) → p < k → In p u → In p mask

gather : {A : ℕ → Type 0} {u : ℕ} → UnionOf A u → (k : ℕ) → Gathered A u k
gather n zero =
    record { mask = n.some.group; closed = one n.some.told; inside = n.some.inside; holds = λ p h i. absurd (omega arith) }
gather {A} {u} n (suc k) =
    let r = gather n k in
    elim (dec_in k u) [
      | no out ↦
          record { mask = r.mask; closed = r.closed; inside = r.inside; holds = λ p h i. elim (ℕ_discrete p k) [ yes e ↦ absurd (out (rw e at i)) | no ne ↦ r.holds p (omega arith) i ] }
      | yes i ↦
          let c = n.each k i in
          record {
            mask = bit_or c.group r.mask;
            closed = more c.told r.closed;
            inside = union_within c.inside r.inside;
            holds =
                λ p h j.
                elim (ℕ_discrete p k) [
                  | yes e ↦ rw e (in_left r.mask c.left)
                  | no ne ↦ in_right c.group (r.holds p (omega arith) j)
                ];
          }
    ]

union_closure : {A : ℕ → Type 0} {u : ℕ} → UnionOf A u → Closure A u
union_closure {A} {u} n =
    let r = gather n u in
    rw (← same_mask r.inside (record { each = λ p i. r.holds p (in_lt i) i })) r.closed

dec_closure : {A : ℕ → Type 0} → ((g : ℕ) → Dec (A g)) → (u : ℕ) → Dec (Closure A u)
dec_closure dec u = map_dec union_closure closure_union (dec_union dec u)

dec_extended : {A S : ℕ → Type 0} → ((g : ℕ) → Dec (A g)) → ((g : ℕ) → Dec (S g)) → (u : ℕ) → Dec (Extended A S u)
dec_extended da ds u =
    map_dec (λ s. elim s [ inl a ↦ alone a | inr p ↦ joined p ]) (λ e. elim e [ alone a ↦ inl a | joined p ↦ inr p ])
    (dec_either (da u) (dec_paired da (dec_closure ds) u))

-- ---- the groups of a bind

module _ {G : ℕ → Type 0} (dec : (g : ℕ) → Dec (G g)) (a b : ℕ) where
  pub dec_shared : (g : ℕ) → Dec (Shared G a b g)
  dec_shared g =
      map_dec (λ r. record { group = r.0; left = r.1.0; right = r.1.1 }) (λ m. (m.group, (m.left, m.right)))
      (dec_both (dec g) (dec_both (dec_meets g a) (dec_meets g b)))

  dec_apart : (g : ℕ) → Dec (Apart G a b g)
  dec_apart g =
      map_dec (λ r. record { group = r.0; left = r.1.0; right = r.1.1 }) (λ m. (m.group, (m.left, m.right)))
      (dec_both (dec g) (dec_both (dec_not (dec_meets g a)) (dec_not (dec_meets g b))))

module _ {G : ℕ → Type 0} (dec : (g : ℕ) → Dec (G g)) (a b : ℕ) where
  dec_closed : (m u : ℕ) → Dec (Closure (Side G m) u)
  dec_closed m u = dec_closure (dec_shared dec m m) u

  dec_joined : (m u : ℕ) → Dec (Extended (Side G m) (Shared G a b) u)
  dec_joined m u = dec_extended (dec_shared dec m m) (dec_shared dec a b) u

  dec_made : (c : Case) (u : ℕ) → Dec (Made G a b c u)
  dec_made Free u = dec_paired (dec_shared dec a a) (dec_shared dec b b) u
  dec_made BothLinear u = dec_paired (dec_joined a) (dec_joined b) u
  dec_made PositionLinear u = dec_paired (dec_closed a) (dec_joined b) u
  dec_made TermLinear u = dec_paired (dec_joined a) (dec_closed b) u
  dec_made Neither u = dec_paired (dec_closed a) (dec_closed b) u

  pub dec_new_group : (c : Case) (u : ℕ) → Dec (NewGroup G a b c u)
  dec_new_group c u =
      map_dec (λ s. elim s [ inl r ↦ rest r | inr m ↦ made m ]) (λ n. elim n [ rest r ↦ inl r | made m ↦ inr m ])
      (dec_either (dec_apart dec a b u) (dec_made c u))
