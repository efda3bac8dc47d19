use Rattle.std.proofs.Common.{rules}
use Rattle.coverage.proofs.Searching.{decides_yes, decides_no}
use Rattle.coverage.proofs.Pairs.{closed_more, closed_core, open_core}
use Rattle.coverage.proofs.groups.Groups.has_open_pair.Goals as goal

pub pairs-preserved : goal.pairs-preserved
pairs-preserved c =
    (c.loop-q.invariant.0, closed_more c.ranges.g.fits c.loop-q-test.false c.loop-q.invariant.1 c.pairs.invariant.1)

pub returns-after-pairs : goal.returns-after-pairs
returns-after-pairs c =
    rw c.pairs.invariant.0 (decides_no (closed_core c.ranges.g.fits c.pairs-test.false c.pairs.invariant.1))

pub returns-then-is_open : goal.returns-then-is_open
returns-then-is_open c =
    decides_yes (open_core (record { told = search rules }) (c.is_open.ensures.0 c.if-is_open.true))
