use Rattle.std.proofs.Common.{◌≡◌, List, ℕ, length, sym, ap, subst, arith, rules}
use Rattle.std.proofs.lemmas.Option.{same_Some}
use Rattle.std.proofs.lemmas.Result.{err_from_is_err_and}
use Rattle.std.specs.Option.{ForSome}
use Rattle.coverage.proofs.ListedCores.{fills_inside}
use Rattle.domain.proofs.Mapped.{was_err}
use Rattle.list_keeper.proofs.Keeping.{wrote, refused, stored}
use Rattle.list_keeper.specs.Keeping.{Kept}
use Rattle.list_keeper.specs.Tells.{told_by}
use Rattle.list_keeper.specs.declared.head.Head.{Head}
use Rattle.list_keeper.proofs.store.store.Goals as goal

pub returns-in_err-count : goal.returns-in_err-count
returns-in_err-count c =
    let m = c.args.outline in
    let failed = was_err c.map_err.result _ c.write_core.result c.in_err-count.field-0.0 c.map_err.ensures.cases c.in_err-count.was in
    let fault = err_from_is_err_and c.from_residual.result c.from_residual.ensures.1 in
    let r = refused m c.args.table.now c.args.list.now c.write_core.new.list failed.0 c.requires.lawful.some_positions c.requires.lawful.few_positions
    (rw failed.1 at c.write_core.ensures) in
    record {
      kept = subst (λ (l : List ℕ). ForSome c.args.head.now (λ h. Kept h l)) (sym r.1) c.requires.kept;
      untouched = λ _. r.1;
      stores = rw fault.1 (search (rules, fault.2, failed.2), ap (λ (l : List ℕ). told_by c.args.head.now l) r.1, r.2);
    }

pub clear-requires : goal.clear-requires
clear-requires c =
    let m = c.args.outline in
    let w = wrote m c.args.table.now _ c.write_core.result c.map_err.ensures.cases c.in_ok-count.was (c.write_core.ensures) in
    let same : length c.write_core.new.list ≡ length c.args.list.now = omega arith in
    omega (arith, fills_inside c.args.list.now c.write_core.new.list c.in_ok-count.count w same)

pub returns : goal.returns
returns c =
    let m = c.args.outline in
    let w = wrote m c.args.table.now _ c.write_core.result c.map_err.ensures.cases c.in_ok-count.was (c.write_core.ensures) in
    let same : length c.write_core.new.list ≡ length c.args.list.now = omega arith in
    let long : length c.clear.new.list ≡ length c.args.list.now = omega arith in
    let s = stored m c.args.table.now c.args.list.now c.write_core.new.list c.clear.new.list c.in_ok-count.count c.requires.lawful w same long c.clear.ensures.front c.clear.ensures.zero in
    record {
      kept = λ h is. subst (λ (x : Head). Kept x c.clear.new.list) (same_Some _ h is) s.0;
      untouched = λ is. absurd (cc);
      stores = s.1 (told_by c.args.head.now c.args.list.now);
    }
