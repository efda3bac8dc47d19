use Rattle.std.proofs.Common.{◌<◌}
use Rattle.domain.proofs.Refusing.{gave}
use Rattle.list_keeper.proofs.Asking.{ground_answered}
use Rattle.list_keeper.proofs.calls.ListKeeperKeeper.is_ground.Goals as goal

pub returns : goal.returns
returns c =
    let k = c.args.self.now in
    let head = c.in_ok-head.head in
    let is = c.in_ok-head.ensures.head in
    let low = (gave _ _ (λ u. c.args.position < head.outline.positions) c.in_ok-check_position.ensures).1 in
    ground_answered k.head head k.list.now is c.in_ok-head.ensures.kept.lawful.some_positions c.args.position low c.groups.result.now c.groups.ensures.groups
    c.some_holds.result c.some_holds.ensures
