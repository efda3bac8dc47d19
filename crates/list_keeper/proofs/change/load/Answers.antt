use Rattle.std.proofs.Common.{◌≡◌, length, arith}
use Rattle.list_keeper.proofs.Changes.{loaded_told}
use Rattle.list_keeper.proofs.change.load.Goals as goal

pub returns : goal.returns
returns c = λ room.
    let same : length c.load_table.new.table ≡ length c.args.table.now = omega arith in
    loaded_told c.args.head c.args.list.now c.load_table.new.table c.requires (omega arith) (λ g h. c.load_table.ensures g (omega arith))
