use Rattle.domain.proofs.Loading.{Loaded}
use Rattle.rules.proofs.rule.load.put_groups.Given as goal

abbrev pub invariant-loop-g : goal.invariant-loop-g
invariant-loop-g l = Loaded l.groups l.initial.table l.table l.g-index
