use Rattle.std.proofs.Common.{◌≡◌, length, Some, refl, arith}
use Rattle.domain.specs.Changes.{lent_change}
use Rattle.domain.specs.Tables.{told_with}
use Rattle.rules.proofs.Lending.{change_given}
use Rattle.list_keeper.proofs.Changes.{changes_stored}
use Rattle.list_keeper.specs.Tells.{tells, told_by}
use Rattle.list_keeper.proofs.change.change_list.Goals as goal

pub load-requires : goal.load-requires
load-requires c = c.requires c.in_ok-opened.opened (grind arith)

pub store-requires : goal.store-requires
store-requires c =
    let head = c.in_ok-opened.opened in
    let is : c.args.head.now ≡ Some head = grind arith in
    let kept = c.requires head is in
    let made =
    change_given (lent_change c.args.change) head.outline (tells head c.args.list.now) c.load.new.table (length c.args.scratch.now)
    kept.lawful refl (omega arith)
    c.load.ensures c.in_ok-left.left c.change_table.new.table c.in_ok-left.ensures.gives in
    record { lawful = made.2; kept = c.requires }

pub returns-clause-changes : goal.returns-clause-changes
returns-clause-changes c =
    let change = lent_change c.args.change in
    let head = c.in_ok-opened.opened in
    let list = c.args.list.now in
    let size = length c.args.scratch.now in
    let is : c.args.head.now ≡ Some head = grind arith in
    let kept = c.requires head is in
    let made =
    change_given change head.outline (tells head list) c.load.new.table size
    kept.lawful refl (omega arith)
    c.load.ensures c.in_ok-left.left c.change_table.new.table c.in_ok-left.ensures.gives in
    changes_stored change size (length list) c.args.head.now head list is kept.lawful.some_positions
    (told_by c.store.new.head c.store.new.list) c.store.result (told_with c.in_ok-left.left c.change_table.new.table) made.0 made.1 c.store.ensures.stores
