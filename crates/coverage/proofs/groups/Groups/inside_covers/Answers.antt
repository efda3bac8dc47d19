use Rattle.std.proofs.Common.{rules}
use Rattle.std.proofs.lemmas.Bool.Decides.{Decides-like}
use Rattle.coverage.proofs.Submasks.{Smaller, inside_some, some_inside}
use Rattle.domain.proofs.Descending.{any_decides}
use Rattle.domain.specs.Tables.{TableGroup}
use Rattle.coverage.proofs.groups.Groups.inside_covers.Goals as goal

pub returns : goal.returns
returns c =
    let G = TableGroup c.args.self.now.positions c.args.self.now.table.now in
    Decides-like _ some_inside inside_some
    (any_decides {Q = Smaller G c.args.g c.args.p c.args.q} c.args.g c.any.ensures.ran c.of.ensures
    (λ x q k. record { other = search rules; holding = search rules })
    (λ x q k. (search rules, λ s. let other = s.other in let holding = s.holding in search rules)))
