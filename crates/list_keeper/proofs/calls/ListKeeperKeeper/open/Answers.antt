use Rattle.std.proofs.Common.{refl, arith}
use Rattle.list_keeper.proofs.Keeping.{keeps_list}
use Rattle.list_keeper.proofs.calls.ListKeeperKeeper.open.Goals as goal

pub returns-clause-keeps : goal.returns-clause-keeps
returns-clause-keeps c = keeps_list _ _ refl (omega arith) c.open_list.ensures.untouched c.open_list.ensures.kept
