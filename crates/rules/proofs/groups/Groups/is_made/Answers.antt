use Rattle.rules.proofs.Cases.{decides_free, decides_both, decides_term}
use Rattle.rules.proofs.groups.Groups.is_made.Goals as goal

pub returns-in-Free : goal.returns-in-Free
returns-in-Free c = simp c.in-Free.is (decides_free _ _ _ _ _ c.filled_both.ensures)

pub returns-in-BothLinear : goal.returns-in-BothLinear
returns-in-BothLinear c =
    simp c.in-BothLinear.is (decides_both _ _ _ _ _ _ c.hull.ensures c.filled_both-in-BothLinear.ensures)

pub returns-in-PositionLinear : goal.returns-in-PositionLinear
returns-in-PositionLinear c = simp c.in-PositionLinear.is c.closed_with_one.ensures

pub returns-in-TermLinear : goal.returns-in-TermLinear
returns-in-TermLinear c =
    simp c.in-TermLinear.is (decides_term _ _ _ _ _ c.closed_with_one-in-TermLinear.ensures)

pub returns-in-Neither : goal.returns-in-Neither
returns-in-Neither c = simp c.in-Neither.is c.both_closed.ensures
