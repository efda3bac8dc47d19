use Rattle.std.proofs.Common.{◌≡◌, length, Some, Err, sym, refl, rules, arith}
use Rattle.domain.specs.Changes.{lent_change, change_tests}
use Rattle.domain.specs.Refusals.{first_of}
use Rattle.domain.proofs.ChangeLaws.{change_allowed}
use Rattle.rules.proofs.Lending.{change_given, change_refused}
use Rattle.description.specs.Descriptions.{told}
use Rattle.description.proofs.Description.changed.Goals as goal

pub taken-requires : goal.taken-requires
taken-requires c =
    let d = c.args.self.now in
    let size = length c.args.scratch.now in
    let change = lent_change c.args.change in
    let made =
    change_given change d.outline (told d) c.lay.new.scratch size d.lawful refl (omega arith)
    c.lay.ensures c.in_ok-after.after c.change_table.new.table c.in_ok-after.ensures.gives in
    let allowed = change_allowed (told d).n change size (sym made.0) in
    record {
      room = omega (arith, allowed.1);
      lawful = made.2;
    }

pub returns-in_err-after : goal.returns-in_err-after
returns-in_err-after c =
    let d = c.args.self.now in
    let size = length c.args.scratch.now in
    let change = lent_change c.args.change in
    let e = c.in_err-after.field-0.0 in
    let refused : first_of (change_tests (told d).n change size) ≡ Some e =
    change_refused change d.outline (told d) c.lay.new.scratch size d.lawful refl (omega arith)
    e c.change_table.new.table c.in_err-after.ensures.gives in
    let is : c.from_residual.result ≡ Err e = search rules in
    rw refused is
