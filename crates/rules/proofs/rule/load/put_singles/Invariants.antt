use Rattle.domain.proofs.Opening.{Singles}
use Rattle.rules.proofs.rule.load.put_singles.Given as goal

abbrev pub invariant-loop-p : goal.invariant-loop-p
invariant-loop-p l = Singles l.table l.p
