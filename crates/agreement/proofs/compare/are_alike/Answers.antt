use Rattle.std.proofs.Common.{Err, ap, ◌∙◌, rules}
use Rattle.std.proofs.lemmas.Result.{err_from_is_err_and}
use Rattle.keeper.specs.declared.fault.KeeperFault.{KeeperFault}
use Rattle.agreement.proofs.Comparisons.{compared_first, compared_second, compared_apart, compared_by}
use Rattle.agreement.proofs.Given.{means_alike}
use Rattle.agreement.proofs.ToldApart.{not_told_apart}
use Rattle.agreement.proofs.compare.are_alike.Goals as goal

pub returns-in_err-one : goal.returns-in_err-one
returns-in_err-one g c =
    let p = err_from_is_err_and c.from_residual.result c.from_residual.ensures.1 in
    let x = compared_first _ _ _ _ _ c.in_err-one.field-0.0 c.from_residual.result c.in_err-one.ensures (p.1 ∙ ap (λ (x : KeeperFault). Err x) p.2) in
    record {
      compared = x;
      means = λ e. means_alike _ _ _ _ _ _ _ _ x;
      not_told_apart = λ e. not_told_apart _ _ _;
    }

pub returns-in_err-two : goal.returns-in_err-two
returns-in_err-two g c =
    let p = err_from_is_err_and c.from_residual-in_err-two.result c.from_residual-in_err-two.ensures.1 in
    let x = compared_second _ _ _ _ _ _ c.in_ok-one.one c.in_err-two.field-0.0 c.from_residual-in_err-two.result
    c.in_ok-one.ensures c.in_err-two.ensures (p.1 ∙ ap (λ (x : KeeperFault). Err x) p.2) in
    record {
      compared = x;
      means = λ e. means_alike _ _ _ _ _ _ _ _ x;
      not_told_apart = λ e. not_told_apart _ _ _;
    }

pub returns-then-eq : goal.returns-then-eq
returns-then-eq g c =
    let x = compared_by _ _ _ _ _ _ c.in_ok-one.one c.in_ok-two.two c.in_ok-one.ensures c.in_ok-two.ensures
    _ (search rules) (search rules) in
    record {
      compared = x;
      means = λ e. means_alike _ _ _ _ _ _ _ _ x;
      not_told_apart = λ e. not_told_apart _ _ _;
    }

pub returns-else-eq : goal.returns-else-eq
returns-else-eq g c =
    let x = compared_apart _ _ _ _ _ _ c.in_ok-one.one c.in_ok-two.two c.in_ok-one.ensures c.in_ok-two.ensures (search rules) in
    rw c.if-eq.false
    (record {
      compared = x;
      means = λ e. means_alike _ _ _ _ _ _ _ _ x;
      not_told_apart = λ e. not_told_apart _ _ _;
    })
