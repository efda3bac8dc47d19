-- The groups that a bind makes: what lies in them, and the test of each case.
use Rattle.std.proofs.Common.{ℕ, sym, subst, inl, inr}
use Rattle.domain.specs.Masks.{In, Meets}
use Rattle.domain.specs.Groups.{Side, Shared, Paired, Closure, Extended}
use Rattle.domain.specs.Groups.Closure.{one, more}
use Rattle.domain.specs.Groups.Extended.{alone, joined}
use Rattle.domain.specs.Binding.{Made, NewGroup}
use Rattle.domain.specs.Binding.NewGroup.{rest, made}
use Rattle.domain.specs.declared.case.Case.{Case}
use Rattle.domain.specs.declared.case.Case.TheVariants.{Free, BothLinear, PositionLinear, TermLinear, Neither}
use Rattle.domain.proofs.Bits.{in_either, within_self, meets_more}
use Rattle.domain.proofs.Hull.{Sub, Inside, inside_more, closure_some, pair_left, pair_right}

-- where a position of a united group comes from

pub record From (A : ℕ → Type 0) (p : ℕ) : Type 0 where
  pub group : ℕ
  pub told : A group
  pub holds : In p group

from_like : {A B : ℕ → Type 0} {p : ℕ} → Sub A B → From A p → From B p
from_like sub f = record { group = f.group; told = sub f.group f.told; holds = f.holds }

closure_from : {A : ℕ → Type 0} {u p : ℕ} → Closure A u → In p u → From A p
closure_from (one {g} a) i = record { group = g; told = a; holds = i }
closure_from (more {g} {h} a c) i =
    elim (in_either g h i) [ inl j ↦ record { group = g; told = a; holds = j } | inr j ↦ closure_from c j ]

pair_from :
    {A P Q : ℕ → Type 0} {u p : ℕ} → ((e : ℕ) → P e → In p e → From A p) → ((e : ℕ) → Q e → In p e → From A p)
    → Paired P Q u → In p u → From A p
pair_from {A} {P} {Q} {u} {p} l r q i =
    elim (in_either q.left q.right (subst (In p) (sym q.whole) i))
    [ inl j ↦ l q.left q.in_left j | inr j ↦ r q.right q.in_right j ]

extended_from :
    {A S G : ℕ → Type 0} {p : ℕ} → Sub A G → Sub S G → (e : ℕ) → Extended A S e → In p e → From G p
extended_from sub more_sub e (alone a) i = record { group = e; told = sub e a; holds = i }
extended_from sub more_sub e (joined q) i =
    pair_from (λ e a j. record { group = e; told = sub e a; holds = j }) (λ e c j. from_like more_sub (closure_from c j)) q i

extended_some : {A S : ℕ → Type 0} (e : ℕ) → Extended A S e → Inside A e
extended_some e (alone a) = record { group = e; told = a; inside = within_self e }
extended_some e (joined q) = record { group = q.left; told = q.in_left; inside = pair_left q }

module _ (G : ℕ → Type 0) (a b : ℕ) where
  -- the groups that are shared are of both sides
  pub shared_left : Sub (Shared G a b) (Side G a)
  shared_left g m = record { group = m.group; left = m.left; right = m.left }

  pub shared_right : Sub (Shared G a b) (Side G b)
  shared_right g m = record { group = m.group; left = m.right; right = m.right }

  side_sub : (c d : ℕ) → Sub (Shared G c d) G
  side_sub c d g m = m.group

  single_from : {A : ℕ → Type 0} {p : ℕ} → Sub A G → (e : ℕ) → A e → In p e → From G p
  single_from sub e m i = record { group = e; told = sub e m; holds = i }

  closed_from : {A : ℕ → Type 0} {p : ℕ} → Sub A G → (e : ℕ) → Closure A e → In p e → From G p
  closed_from sub e c i = from_like sub (closure_from c i)

  pub made_from : (c : Case) {u p : ℕ} → Made G a b c u → In p u → From G p
  made_from Free m i = pair_from (single_from (side_sub a a)) (single_from (side_sub b b)) m i
  made_from BothLinear m i = pair_from (extended_from (side_sub a a) (side_sub a b)) (extended_from (side_sub b b) (side_sub a b)) m i
  made_from PositionLinear m i = pair_from (closed_from (side_sub a a)) (extended_from (side_sub b b) (side_sub a b)) m i
  made_from TermLinear m i = pair_from (extended_from (side_sub a a) (side_sub a b)) (closed_from (side_sub b b)) m i
  made_from Neither m i = pair_from (closed_from (side_sub a a)) (closed_from (side_sub b b)) m i

  -- a group of each side lies in every group that is made
  pub made_left : (c : Case) {u : ℕ} → Made G a b c u → Inside (Side G a) u
  made_left Free m = record { group = m.left; told = m.in_left; inside = pair_left m }
  made_left BothLinear m = inside_more (extended_some m.left m.in_left) (pair_left m)
  made_left PositionLinear m = inside_more (closure_some m.in_left) (pair_left m)
  made_left TermLinear m = inside_more (extended_some m.left m.in_left) (pair_left m)
  made_left Neither m = inside_more (closure_some m.in_left) (pair_left m)

  pub made_right : (c : Case) {u : ℕ} → Made G a b c u → Inside (Side G b) u
  made_right Free m = record { group = m.right; told = m.in_right; inside = pair_right m }
  made_right BothLinear m = inside_more (extended_some m.right m.in_right) (pair_right m)
  made_right PositionLinear m = inside_more (extended_some m.right m.in_right) (pair_right m)
  made_right TermLinear m = inside_more (closure_some m.in_right) (pair_right m)
  made_right Neither m = inside_more (closure_some m.in_right) (pair_right m)

  pub made_meets_left : (c : Case) {u : ℕ} → Made G a b c u → Meets u a
  made_meets_left c m = let s = made_left c m in meets_more s.told.left s.inside

  pub made_meets_right : (c : Case) {u : ℕ} → Made G a b c u → Meets u b
  made_meets_right c m = let s = made_right c m in meets_more s.told.left s.inside

  pub new_from : (c : Case) {u p : ℕ} → NewGroup G a b c u → In p u → From G p
  new_from c (rest r) i = record { group = _; told = r.group; holds = i }
  new_from c (made m) i = made_from c m i
