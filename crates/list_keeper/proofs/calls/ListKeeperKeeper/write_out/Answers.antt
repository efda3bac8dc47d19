use Rattle.std.proofs.Common.{arith}
use Rattle.list_keeper.proofs.Writing.{written, too_short}
use Rattle.list_keeper.proofs.calls.ListKeeperKeeper.write_out.Goals as goal

pub returns : goal.returns
returns c =
    let k = c.args.self.now in
    let head = c.in_ok-head.head in
    let is = c.in_ok-head.ensures.head in
    written k.head head k.list.now is c.in_ok-head.ensures.kept c.args.list.now c.copy_to.new.list (omega (arith, c.if-list-head.false)) c.groups.result.now c.groups.ensures.groups
    c.copy_to.ensures

pub returns-then-list-head : goal.returns-then-list-head
returns-then-list-head c =
    let k = c.args.self.now in
    let head = c.in_ok-head.head in
    let is = c.in_ok-head.ensures.head in
    too_short k.head head k.list.now is c.in_ok-head.ensures.kept c.args.list.now (omega (arith, c.if-list-head.true)) _ c.into.ensures
