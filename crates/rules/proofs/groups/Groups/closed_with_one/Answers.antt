use Rattle.std.proofs.Common.{arith}
use Rattle.rules.proofs.Cases.{decides_half, not_left}
use Rattle.rules.proofs.groups.Groups.closed_with_one.Goals as goal

pub returns-then-united-eq0 : goal.returns-then-united-eq0
returns-then-united-eq0 c = not_left _ _ c.args.b _ _ c.hull-united.ensures c.if-united-eq0.true

pub returns : goal.returns
returns c = decides_half _ _ _ _ _ _ c.hull-united.ensures (omega arith) c.filled.ensures
