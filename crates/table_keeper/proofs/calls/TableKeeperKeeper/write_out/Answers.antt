use Rattle.table_keeper.proofs.Writing.{writes_held}
use Rattle.table_keeper.proofs.calls.TableKeeperKeeper.write_out.Goals as goal

pub returns : goal.returns
returns c =
    writes_held _ c.in_ok-held.held.now c.in_ok-held.ensures.held c.outline-positions.result.positions c.table.result.now c.args.list.now c.write_core.new.list
    c.in_ok-count.count c.outline-positions.result.marks
    c.outline-positions.ensures.positions c.table.ensures.same c.outline-positions.ensures.marks c.write_core.auto.list
    c.in_ok-count.ensures
