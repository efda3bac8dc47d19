use Rattle.domain.proofs.Loading.{loaded_more, loaded_put}
use Rattle.rules.proofs.rule.load.put_groups.Goals as goal

pub loop-g-preserved : goal.loop-g-preserved
loop-g-preserved c =
    loaded_more _ _ _ _ c.loop-g.g-index c.loop-g.auto.table c.loop-g-test.true c.loop-g.invariant
    c.put.ensures.at c.put.ensures.others c.put.ensures.past

pub returns-clause-put : goal.returns-clause-put
returns-clause-put c = loaded_put _ _ _ _ c.loop-g-test.false c.loop-g.invariant
