use Rattle.std.proofs.Common.{rules}
use Rattle.domain.specs.Groups.{Side}
use Rattle.domain.specs.Tables.{TableGroup}
use Rattle.domain.proofs.Descending.{any_decides}
use Rattle.domain.proofs.Filling.{FilledBeside, decides_filled_both, shared_pos}
use Rattle.rules.proofs.groups.Groups.filled_both.Goals as goal

pub returns : goal.returns
returns c =
    let G = TableGroup c.args.self.positions c.args.self.table.now in
    let Q = FilledBeside (Side G c.args.a) (Side G c.args.b) c.args.base c.args.u in
    decides_filled_both _ shared_pos
    (any_decides {Q = Q} c.args.u c.any.ensures.ran c.of.ensures
    (λ x q k. record { told = search rules; rest = search rules })
    (λ x q k. (search rules, λ f. let told = f.told in let rest = f.rest in search rules)))
