use Rattle.std.proofs.Common.{sym, length-take-le}
use Rattle.list_keeper.proofs.ListKeeper.groups.Goals as goal

pub slice_bounds-result-end : goal.slice_bounds-result-end
slice_bounds-result-end c =
    let k = c.args.self.now in
    sym (length-take-le c.args.head.count k.list.now (k.kept c.args.head c.requires).inside)

pub returns-clause-count : goal.returns-clause-count
returns-clause-count c =
    let k = c.args.self.now in
    length-take-le c.args.head.count k.list.now (k.kept c.args.head c.requires).inside
