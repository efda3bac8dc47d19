use Rattle.std.proofs.Common.{refl, rules}
use Rattle.std.proofs.lemmas.Bool.Decides.{not_from_Decides}
use lib.Bits.{bit_and, bit_or, bit_xor}
use Rattle.domain.specs.Filling.{Fills}
use Rattle.domain.specs.Groups.{Side}
use Rattle.domain.specs.Tables.{TableGroup}
use Rattle.domain.proofs.Descending.{any_decides}
use Rattle.domain.proofs.Filling.{decides_filled}
use Rattle.rules.proofs.groups.Groups.filled.Goals as goal

pub returns-else-fills : goal.returns-else-fills
returns-else-fills c =
    let A = Side (TableGroup c.args.self.positions c.args.self.table.now) c.args.a in
    let base = c.args.base in
    let u = c.args.u in
    let common = bit_and u base in
    decides_filled _ (not_from_Decides _ c.if-fills.ensures refl)
    (any_decides {Q = λ s. Fills A base u (bit_or (bit_xor u common) s)} common c.any.ensures.ran c.of.ensures
    (λ x q k. search rules)
    (λ x q k. (search rules, search rules)))
