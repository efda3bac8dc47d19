use Rattle.std.proofs.Common.{◌≡◌, false, sym, rules}
use Rattle.std.proofs.lemmas.Bool.{both_ways}
use lib.Bits.{bit_or}
use Rattle.domain.specs.Tables.{TableGroup, is_group}
use Rattle.domain.proofs.Descending.{any_decides}
use Rattle.domain.proofs.Forgetting.{decides_supplied, supplied_alone}
use Rattle.rules.proofs.groups.Groups.is_supplied.Goals as goal

pub returns-then-is_group : goal.returns-then-is_group
returns-then-is_group c =
    (λ e. supplied_alone _ _ _ (record { told = sym c.if-is_group.ensures }), λ s. c.if-is_group.true)

pub returns-else-is_group : goal.returns-else-is_group
returns-else-is_group c =
    let n = c.args.self.positions in
    let table = c.args.self.table.now in
    let m = c.args.mask in
    let u = c.args.u in
    decides_supplied (TableGroup n table) m u _ (λ g. both_ways _ (sym c.if-is_group.ensures) g.told)
    (any_decides {Q = λ s. TableGroup n table (bit_or u s)} m c.any.ensures.ran c.of.ensures
    (λ x q k. search rules)
    (λ x q k. (
      search rules,
      λ g. let none : false ≡ is_group n table (bit_or u x) = search rules in both_ways _ (sym none) g.told,
    )))
