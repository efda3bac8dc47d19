-- What the bind rule asks of positions and terms, tested.
use Rattle.std.proofs.Common.{◌≡◌, ℕ, ◌^◌, ◌<◌, true, ◌&&◌, ◌≢◌, ◌⊎◌, List, sym, subst, inl, inr}
use native.Mathlib.Decide.{ℕ_discrete}
use lib.Bits.{bit_and}
use lib.Count.{ones}
use Rattle.std.proofs.lemmas.Bool.{and_parts, and_from}
use Rattle.domain.proofs.Bits.{in_or_not, in_below, in_single, single_in, one_position}
use Rattle.domain.specs.Binding.{FreeTerm, Once, LinearTerm}
use Rattle.domain.specs.Masks.{In, Within, is_within}
use Rattle.domain.specs.Requests.{held_by}
use Rattle.domain.specs.Groups.{Share, IsGround}
use Rattle.domain.specs.Told.{Group}
use Rattle.domain.specs.declared.term.Term.{Term}
use Rattle.worked.proofs.BindGroups.{lists_told}
use Rattle.worked.proofs.Gathering.{Lists, Says, Which, lists_keep}
use Rattle.worked.proofs.Positions.{says_has, says_contained, says_both, says_either, says_none, says_as, says_each, IsMaskOf, marks_self, marks_and, Held, marks_held}
use Rattle.worked.proofs.States.{State, tell, sharing, free_term, once, linear_term}

pub marks_sharing : {P : ℕ → Type 0} {gs : List ℕ} → Lists P gs → (p : ℕ) → IsMaskOf (Held (Which P (In p))) (sharing gs p)
unfolding sharing
marks_sharing l p = marks_held (lists_keep (says_has p) l)

module _ (s : State) (t : Term) where
  pub says_free_term : (t.bare ≡ true → ones t.held ≡ 1) → Says (free_term s t) (FreeTerm (tell s) t)
  unfolding free_term
  says_free_term single = record { yes = to; no = from }
    where
      to : (t.bare && is_within t.held s.marks.free) ≡ true → FreeTerm (tell s) t
      to e =
          let r = and_parts t.bare (is_within t.held s.marks.free) e in
          let o = one_position t.held (single r.0) in
          record {
            bare = r.0;
            place = o.0;
            only = o.1;
            free = ((says_contained t.held s.marks.free).yes r.1).each o.0 (subst (In o.0) (sym o.1) (in_single o.0));
          }

      from : FreeTerm (tell s) t → (t.bare && is_within t.held s.marks.free) ≡ true
      from f =
          and_from t.bare (is_within t.held s.marks.free) f.bare
          ((says_contained t.held s.marks.free).no (record { each = λ p i. subst (λ q. In q s.marks.free) (sym (single_in (subst (In p) f.only i))) f.free }))

  says_once : (p : ℕ) → Says (once s t p) (Once (tell s) t p)
  unfolding once
  says_once p =
      says_as (λ r. record { linear = r.0; single = r.1.0; apart = apart r.1.1 }) (λ o. (o.linear, (o.single, alone o.apart)))
      (says_both (says_has p s.marks.linear) (says_both (says_none (says_has p t.repeated)) (says_contained (bit_and (sharing s.groups p) t.held) (2 ^ p))))
    where
      common : IsMaskOf (λ q. Held (Which (Group (tell s)) (In p)) q × In q t.held) (bit_and (sharing s.groups p) t.held)
      common = marks_and (marks_sharing (lists_told s) p) (marks_self t.held)

      apart : Within (bit_and (sharing s.groups p) t.held) (2 ^ p) → (q : ℕ) → In q t.held → q ≢ p → Share (Group (tell s)) p q → ⊥
      apart w q i ne k =
          ne (single_in (w.each q (common.all (record { group = k.group; told = record { told = k.told; holds = k.left }; holds = k.right }, i))))

      alone : ((q : ℕ) → In q t.held → q ≢ p → Share (Group (tell s)) p q → ⊥) → Within (bit_and (sharing s.groups p) t.held) (2 ^ p)
      alone f =
          record {
            each =
                λ q i.
                let r = common.only i in
                elim (ℕ_discrete q p) [
                  | yes e ↦ subst (λ m. In q (2 ^ m)) e (in_single q)
                  | no ne ↦ absurd (f q r.1 ne (record { group = r.0.group; told = r.0.told.told; left = r.0.told.holds; right = r.0.holds }))
                ];
          }

  pub says_linear_term : t.held < 2 ^ s.n → Says (linear_term s t) (LinearTerm (tell s) t)
  unfolding linear_term
  says_linear_term h =
      says_as (λ f. record { each = λ p i. to p i (f p (in_below s.n i h)) }) (λ l p b. from p b l)
      (says_each {P = λ p. (In p t.held → ⊥) ⊎ ((In p (held_by s.groups) → ⊥) ⊎ Once (tell s) t p)} s.n
      (λ p. says_either (says_none (says_has p t.held)) (says_either (says_none (says_has p (held_by s.groups))) (says_once p))))
    where
      marks : IsMaskOf (Held (Group (tell s))) (held_by s.groups)
      marks = marks_held (lists_told s)

      to : (p : ℕ) → In p t.held → (In p t.held → ⊥) ⊎ ((In p (held_by s.groups) → ⊥) ⊎ Once (tell s) t p) → IsGround s.n (Group (tell s)) p ⊎ Once (tell s) t p
      to p i (inl n) = absurd (n i)
      to p i (inr (inl n)) =
          inl (record { position = in_below s.n i h; none = λ g k j. n (marks.all (record { group = g; told = k; holds = j })) })
      to p i (inr (inr o)) = inr o

      from : (p : ℕ) → p < s.n → LinearTerm (tell s) t → (In p t.held → ⊥) ⊎ ((In p (held_by s.groups) → ⊥) ⊎ Once (tell s) t p)
      from p b l =
          elim (in_or_not p t.held) [
            | inr n ↦ inl n
            | inl i ↦
                inr
                (elim (l.each p i) [
                  | inl g ↦ inl (λ j. let k = marks.only j in g.none k.group k.told k.holds)
                  | inr o ↦ inr o
                ])
          ]
