use Rattle.std.proofs.Common.{inl, inr, arith}
use Rattle.std.proofs.lemmas.Bool.Decides.{Decides-eqb}
use Rattle.rules.proofs.Cases.{decides_closed, not_left, not_right}
use Rattle.rules.proofs.groups.Groups.both_closed.Goals as goal

pub returns-then-left-eq0 : goal.returns-then-left-eq0
returns-then-left-eq0 c =
    elim c.then-left-eq0.either [
      | inl e ↦ not_left _ _ c.args.b _ _ c.hull-left.ensures e
      | inr e ↦ not_right _ c.args.a _ _ _ c.hull-right.ensures e.1
    ]

pub returns : goal.returns
returns c =
    decides_closed _ _ _ _ _ _ _ c.hull-left.ensures c.hull-right.ensures (omega arith) (omega arith) (Decides-eqb _ _)
