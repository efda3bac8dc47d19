use Rattle.std.proofs.Common.{refl, arith}
use Rattle.list_keeper.proofs.Keeping.{keeps_list}
use Rattle.list_keeper.proofs.calls.ListKeeperKeeper.change.Goals as goal

pub returns-clause-keeps : goal.returns-clause-keeps
returns-clause-keeps c = keeps_list _ _ refl (omega arith) c.change_list.ensures.untouched c.change_list.ensures.kept
