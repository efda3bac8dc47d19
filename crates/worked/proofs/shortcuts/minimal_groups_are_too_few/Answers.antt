use Rattle.worked.proofs.Minimals.{minimal_is_too_few}
use Rattle.worked.proofs.shortcuts.minimal_groups_are_too_few.Goals as goal

pub returns : goal.returns
returns c = minimal_is_too_few
