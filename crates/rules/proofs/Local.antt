-- Whether a mask is made depends only on the groups inside it.
use Rattle.std.proofs.Common.{ℕ}
use Rattle.domain.specs.Masks.{Within}
use Rattle.domain.specs.Groups.{Shared, Paired, Closure, Extended}
use Rattle.domain.specs.Groups.Closure.{one, more}
use Rattle.domain.specs.Groups.Extended.{alone, joined}
use Rattle.domain.specs.Binding.{Made, NewGroup}
use Rattle.domain.specs.Binding.NewGroup.{rest, made}
use Rattle.domain.specs.declared.case.Case.{Case}
use Rattle.domain.specs.declared.case.Case.TheVariants.{Free, BothLinear, PositionLinear, TermLinear, Neither}
use Rattle.domain.proofs.Bits.{within_self, within_trans, within_left, within_right}
use Rattle.domain.proofs.Hull.{pair_left, pair_right}

-- A is part of B inside u
abbrev pub Local : ℕ → (ℕ → Type 0) → (ℕ → Type 0) → Type 0
Local u A B = (g : ℕ) → Within g u → A g → B g

closure_local : {A B : ℕ → Type 0} {u c : ℕ} → Local u A B → Within c u → Closure A c → Closure B c
closure_local f w (one {g} a) = one (f g w a)
closure_local f w (more {g} {h} a c) =
    more (f g (within_trans (within_left g h) w) a) (closure_local f (within_trans (within_right g h) w) c)

pair_local : {A B C D : ℕ → Type 0} {u : ℕ} → Local u A B → Local u C D → Local u (Paired A C) (Paired B D)
pair_local l r g w p =
    record {
      left = p.left;
      right = p.right;
      in_left = l p.left (within_trans (pair_left p) w) p.in_left;
      in_right = r p.right (within_trans (pair_right p) w) p.in_right;
      whole = p.whole;
    }

closed_local : {A B : ℕ → Type 0} {u : ℕ} → Local u A B → Local u (Closure A) (Closure B)
closed_local f g w c = closure_local f w c

extended_local : {A B S T : ℕ → Type 0} {u : ℕ} → Local u A B → Local u S T → Local u (Extended A S) (Extended B T)
extended_local f s g w (alone a) = alone (f g w a)
extended_local f s g w (joined p) = joined (pair_local f (closed_local s) g w p)

module _ (G H : ℕ → Type 0) (a b u : ℕ) (same : Local u G H) where
  shared_local : (c d : ℕ) → Local u (Shared G c d) (Shared H c d)
  shared_local c d g w m = record { group = same g w m.group; left = m.left; right = m.right }

  made_local : (c : Case) → Made G a b c u → Made H a b c u
  made_local Free m = pair_local (shared_local a a) (shared_local b b) u (within_self u) m
  made_local BothLinear m =
      pair_local (extended_local (shared_local a a) (shared_local a b)) (extended_local (shared_local b b) (shared_local a b)) u (within_self u) m
  made_local PositionLinear m =
      pair_local (closed_local (shared_local a a)) (extended_local (shared_local b b) (shared_local a b)) u (within_self u) m
  made_local TermLinear m =
      pair_local (extended_local (shared_local a a) (shared_local a b)) (closed_local (shared_local b b)) u (within_self u) m
  made_local Neither m = pair_local (closed_local (shared_local a a)) (closed_local (shared_local b b)) u (within_self u) m

  pub new_local : (c : Case) → NewGroup G a b c u → NewGroup H a b c u
  new_local c (rest r) =
      rest (record { group = same u (within_self u) r.group; left = r.left; right = r.right })
  new_local c (made m) = made (made_local c m)
