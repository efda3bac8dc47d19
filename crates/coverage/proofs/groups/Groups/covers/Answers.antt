use Rattle.std.proofs.Common.{rules}
use Rattle.std.proofs.lemmas.Bool.Decides.{Decides-like}
use Rattle.coverage.specs.Walks.{Holding}
use Rattle.coverage.proofs.Submasks.{covers_some, some_covers}
use Rattle.domain.proofs.Descending.{any_decides}
use Rattle.domain.specs.Tables.{TableGroup}
use Rattle.coverage.proofs.groups.Groups.covers.Goals as goal

pub returns : goal.returns
returns c =
    let G = TableGroup c.args.self.now.positions c.args.self.now.table.now in
    Decides-like _ some_covers covers_some
    (any_decides {Q = Holding G c.args.p c.args.q} c.args.window c.any.ensures.ran c.of.ensures
    (λ x q k. search rules)
    (λ x q k. (search rules, search rules)))
