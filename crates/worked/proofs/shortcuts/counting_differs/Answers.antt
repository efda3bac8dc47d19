use Rattle.worked.proofs.Differing.{counting_differs}
use Rattle.worked.proofs.shortcuts.counting_differs.Goals as goal

pub returns : goal.returns
returns c = counting_differs
