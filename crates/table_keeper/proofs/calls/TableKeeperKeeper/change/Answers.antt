use Rattle.std.proofs.Common.{length, refl}
use Rattle.domain.specs.Changes.{lent_change}
use Rattle.table_keeper.proofs.Gives.{change_made, change_keeps}
use Rattle.table_keeper.proofs.calls.TableKeeperKeeper.change.Goals as goal

pub returns : goal.returns
returns c =
    let d = c.in_ok-opened.field-0.now in
    let is = c.in_ok-opened.ensures.held in
    let change = lent_change c.args.change in
    let after = c.in_ok-after.after in
    let scratch = length c.args.scratch.now in
    record {
      changes = change_made _ d is change scratch after c.in_ok-after.ensures;
      keeps = change_keeps _ d is change scratch after c.in_ok-after.ensures;
      same_capacity = refl;
    }
