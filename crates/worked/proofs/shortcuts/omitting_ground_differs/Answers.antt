use Rattle.worked.proofs.Differing.{omitting_ground_differs}
use Rattle.worked.proofs.shortcuts.omitting_ground_differs.Goals as goal

pub returns : goal.returns
returns c = omitting_ground_differs
