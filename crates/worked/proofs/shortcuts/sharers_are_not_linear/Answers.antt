use Rattle.worked.proofs.Differing.{sharers_are_not_linear}
use Rattle.worked.proofs.shortcuts.sharers_are_not_linear.Goals as goal

pub returns : goal.returns
returns c = sharers_are_not_linear
