use Rattle.std.proofs.Common.{refl}
use Rattle.std.proofs.lemmas.Bool.Decides.{Decides-like, not_from_Decides}
use Rattle.domain.specs.Tables.{TableGroup}
use Rattle.domain.proofs.Forgetting.{supplied_left, left_supplied, decides_renewed}
use Rattle.rules.proofs.groups.Groups.is_left.Goals as goal

pub returns-then-meets : goal.returns-then-meets
returns-then-meets c = decides_renewed _ _ _ (c.if-meets.ensures.0 refl)

pub returns : goal.returns
returns c =
    let G = TableGroup c.args.self.positions c.args.self.table.now in
    let apart = not_from_Decides _ c.if-meets.ensures refl in
    Decides-like _ (supplied_left G _ _ c.requires apart) (left_supplied G _ _ apart) c.is_supplied.ensures
