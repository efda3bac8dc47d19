use Rattle.std.proofs.Common.{◌<◌}
use Rattle.domain.proofs.Refusing.{gave}
use Rattle.list_keeper.proofs.Asking.{share_answered}
use Rattle.list_keeper.proofs.calls.ListKeeperKeeper.share.Goals as goal

pub returns : goal.returns
returns c =
    let k = c.args.self.now in
    let head = c.in_ok-head.head in
    let is = c.in_ok-head.ensures.head in
    let low = (gave _ _ (λ u. c.args.p < head.outline.positions) c.in_ok-check_position.ensures).1 in
    let high = (gave _ _ (λ u. c.args.q < head.outline.positions) c.in_ok-check_position-2.ensures).1 in
    share_answered k.head head k.list.now is c.in_ok-head.ensures.kept.lawful.some_positions c.args.p c.args.q low high c.groups.result.now c.groups.ensures.groups
    c.some_holds.result c.some_holds.ensures
