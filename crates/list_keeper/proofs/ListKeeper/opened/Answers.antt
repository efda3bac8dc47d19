use Rattle.std.proofs.Common.{rules}
use Rattle.list_keeper.proofs.Keeping.{held_kept}
use Rattle.list_keeper.proofs.ListKeeper.opened.Goals as goal

pub returns-clause-kept : goal.returns-clause-kept
returns-clause-kept c =
    let k = c.args.self.now in
    held_kept k.head k.list.now c.ok_or.result (search rules) k.kept
