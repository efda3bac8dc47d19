-- The groups of the bind rule, listed.
use Rattle.std.proofs.Common.{ℕ, List, inl, inr}
use Rattle.domain.specs.Binding.{Made, NewGroup, rest, made}
use Rattle.domain.specs.Groups.{Shared, Apart}
use Rattle.domain.specs.Masks.{Meets}
use Rattle.domain.specs.Told.{Group}
use Rattle.domain.specs.declared.case.Case.TheVariants.{Free, BothLinear, PositionLinear, TermLinear, Neither}
use Rattle.domain.specs.declared.case.Case.{Case}
use Rattle.worked.proofs.Gathering.{Lists, lists_as, says_member, lists_keep, lists_merged}
use Rattle.worked.proofs.Positions.{says_touches, says_both, says_none}
use Rattle.worked.proofs.States.{State, tell, made_of, side_groups, shared_groups, apart_groups, bound_groups}
use Rattle.worked.proofs.Unions.{lists_pairs, lists_closed, lists_extended}

pub lists_told : (s : State) → Lists (Group (tell s)) s.groups
lists_told s =
    record {
      only = λ {g} l. record { told = (says_member g s.groups).no l };
      all = λ {g} k. (says_member g s.groups).yes k.told;
    }

module _ {G : ℕ → Type 0} {gs : List ℕ} (l : Lists G gs) (a b : ℕ) where
  pub lists_shared : Lists (Shared G a b) (shared_groups gs a b)
  unfolding shared_groups
  lists_shared =
      lists_as (λ g w. record { group = w.told; left = w.holds.0; right = w.holds.1 })
      (λ g k. record { told = k.group; holds = (k.left, k.right) })
      (lists_keep {Q = λ g. Meets g a × Meets g b} (λ g. says_both (says_touches g a) (says_touches g b)) l)

  lists_apart : Lists (Apart G a b) (apart_groups gs a b)
  unfolding apart_groups
  lists_apart =
      lists_as (λ g w. record { group = w.told; left = w.holds.0; right = w.holds.1 })
      (λ g k. record { told = k.group; holds = (k.left, k.right) })
      (lists_keep {Q = λ g. (Meets g a → ⊥) × (Meets g b → ⊥)} (λ g. says_both (says_none (says_touches g a)) (says_none (says_touches g b))) l)

module _ {G : ℕ → Type 0} {gs : List ℕ} (l : Lists G gs) (a b : ℕ) where
  lists_made : (c : Case) → Lists (Made G a b c) (made_of c (side_groups gs a) (side_groups gs b) (shared_groups gs a b))
  lists_made Free = lists_pairs (lists_shared l a a) (lists_shared l b b)
  lists_made BothLinear = lists_pairs (lists_extended (lists_shared l a a) (lists_shared l a b)) (lists_extended (lists_shared l b b) (lists_shared l a b))
  lists_made PositionLinear = lists_pairs (lists_closed (lists_shared l a a)) (lists_extended (lists_shared l b b) (lists_shared l a b))
  lists_made TermLinear = lists_pairs (lists_extended (lists_shared l a a) (lists_shared l a b)) (lists_closed (lists_shared l b b))
  lists_made Neither = lists_pairs (lists_closed (lists_shared l a a)) (lists_closed (lists_shared l b b))

  pub lists_bound : (c : Case) → Lists (NewGroup G a b c) (bound_groups gs a b c)
  unfolding bound_groups
  lists_bound c =
      lists_as (λ g s. elim s [ inl m ↦ made m | inr r ↦ rest r ]) (λ g k. elim k [ rest r ↦ inr r | made m ↦ inl m ])
      (lists_merged (lists_made c) (lists_apart l a b))
