use Rattle.std.proofs.Common.{length, sym}
use Rattle.domain.specs.Tables.{told_with}
use Rattle.rules.proofs.Lending.{open_given}
use Rattle.list_keeper.proofs.Changes.{opens_again, opens_stored}
use Rattle.list_keeper.specs.Tells.{told_by}
use Rattle.list_keeper.proofs.change.open_list.Goals as goal

pub store-requires : goal.store-requires
store-requires c =
    let made = open_given c.args.n _ c.in_ok-outline.outline c.open_table.new.table c.in_ok-outline.ensures.gives in
    record { lawful = made.2; kept = c.requires }

pub returns-clause-opens : goal.returns-clause-opens
returns-clause-opens c =
    let n = c.args.n in
    let m = c.in_ok-outline.outline in
    let made = open_given n _ m c.open_table.new.table c.in_ok-outline.ensures.gives in
    opens_stored n (length c.args.scratch.now) (told_with m c.open_table.new.table) made.1 made.0 (length c.args.list.now) c.args.head.now c.args.list.now
    (told_by c.store.new.head c.store.new.list) (sym c.if-is_some.ensures) c.store.result c.store.ensures.stores

pub returns-then-is_some-clause-opens : goal.returns-then-is_some-clause-opens
returns-then-is_some-clause-opens c =
    opens_again c.args.n (length c.args.scratch.now) (length c.args.list.now) c.args.head.now c.args.list.now c.requires (sym c.if-is_some.ensures) c.into.result c.into.ensures
