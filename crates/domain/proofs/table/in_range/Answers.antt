use Rattle.std.proofs.Common.{sym, lt_of_lt_of_le, arith, pow_mono}
use Rattle.std.proofs.lemmas.Nat.{one_shl}
use Rattle.std.proofs.lemmas.Bool.{lt-ltb}
use Rattle.domain.specs.Tables.{in_range}
use Rattle.domain.proofs.Laws.{range_in}
use Rattle.domain.proofs.table.in_range.Goals as goal

pub returns-then-g-eq0 : goal.returns-then-g-eq0
unfolding in_range
returns-then-g-eq0 c = rw c.if-g-eq0.true

pub returns-then-positions-ge16 : goal.returns-then-positions-ge16
returns-then-positions-ge16 c =
    sym (range_in _ _ (omega (arith, c.if-g-eq0.false)) (lt_of_lt_of_le c.ranges.g.fits (pow_mono c.if-positions-ge16.true)))

pub returns : goal.returns
unfolding in_range
returns c =
    rw (one_shl c.args.positions 16 c.if-positions-ge16.false, lt-ltb 0 c.args.g (omega (arith, c.if-g-eq0.false)))
