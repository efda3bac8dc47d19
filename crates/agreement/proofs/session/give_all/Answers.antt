use Rattle.std.proofs.Common.{◌≡◌, length, take, refl, ◌∙◌, arith, get_or-take}
use Rattle.std.proofs.lemmas.List.{length-take-le}
use Rattle.agreement.proofs.Holding.{held_none, held_more, held_lawful}
use Rattle.agreement.proofs.session.give_all.Goals as goal

pub loop-i-init : goal.loop-i-init
loop-i-init g c = (held_none c.args.list.now c.args.answers.now, refl)

pub loop-i-preserved : goal.loop-i-preserved
loop-i-preserved g c =
    let long : length (take c.min-number.result c.args.calls.now) ≡ c.min-number.result = length-take-le c.min-number.result c.args.calls.now (omega (arith, c.min-number.ensures)) in
    let given = rw (get_or-take c.min-number.result c.args.calls.now c.loop-i.i _ (omega (arith, long))) at c.give.ensures.called in (
      held_more _ _ _ c.args.calls.now c.loop-i.i _ _ _ _ c.loop-i.list c.give.new.list _ c.loop-i.answers _ c.give.result _ _
          c.loop-i.invariant.1 c.loop-i.auto.scratch c.loop-i.auto.list (omega (arith, long, c.min-number.ensures)) (omega (arith, long, c.min-number.ensures, c.loop-i.auto.answers))
          c.loop-i.invariant.0 given c.give.ensures.rest,
      c.give.ensures.same_capacity ∙ c.loop-i.invariant.1,
    )

pub returns : goal.returns
returns g c =
    let long : length (take c.min-number.result c.args.calls.now) ≡ c.min-number.result = length-take-le c.min-number.result c.args.calls.now (omega (arith, c.min-number.ensures)) in
    let ends : c.loop-i.i ≡ c.min-number.result = omega (arith, long, c.loop-i.auto.i-end, c.loop-i-test.false) in
    let held = rw ends at c.loop-i.invariant.0 in
    record {
      number = c.min-number.ensures;
      session = held;
      under_the_laws = held_lawful held;
      same_capacity = c.loop-i.invariant.1;
    }
