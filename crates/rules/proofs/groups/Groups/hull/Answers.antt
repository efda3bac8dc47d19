use Rattle.std.proofs.Common.{◌≡◌, rules, subst, sym}
use Rattle.std.proofs.lemmas.Iterator.Consumers.{YieldsList-from_first, fold_from_yields_List}
use Rattle.std.specs.List.{fold}
use Rattle.domain.specs.Filling.{Hull}
use Rattle.domain.specs.Groups.{Shared}
use Rattle.domain.specs.Subsets.{subsets_from}
use Rattle.domain.specs.Tables.{TableGroup, is_group}
use Rattle.domain.proofs.Filling.{united, united_step, hull_of}
use Rattle.rules.proofs.groups.Groups.hull.Goals as goal

pub returns : goal.returns
returns c =
    let n = c.args.self.positions in
    let table = c.args.self.table.now in
    let test = is_group n table in
    let a = c.args.a in
    let b = c.args.b in
    let u = c.args.u in
    let whole : c.fold.result ≡ fold (united test a b) 0 (subsets_from u u) =
    fold_from_yields_List _ (united test a b) 0 c.fold.result c.fold.ensures.ran
    (YieldsList-from_first (λ x. x) (λ s. s) (subsets_from u u) c.of.ensures)
    (λ m s r q k. (search rules, united_step test a b m s r (λ hit. search rules) (λ miss. search rules))) in
    subst (Hull (Shared (TableGroup n table) a b) u) (sym whole) (hull_of test a b u)
