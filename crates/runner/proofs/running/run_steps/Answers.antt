use Rattle.std.proofs.Common.{◌≡◌, Ok, Err, refl, ◌∙◌, rules}
use Rattle.std.proofs.lemmas.Result.{err_from_is_err_and}
use Rattle.domain.proofs.Mapped.{was_ok, was_err}
use Rattle.roll.specs.Views.{slots}
use Rattle.sheet.specs.Faults.{fault_at}
use Rattle.runner.proofs.Marking.{marked_start}
use Rattle.runner.proofs.Runs.{same_setting, runs_start, runs_turn, runs_end}
use Rattle.runner.proofs.running.run_steps.Goals as goal

pub loop-cursor-init : goal.loop-cursor-init
loop-cursor-init g c =
    record {
      running = runs_start _ _ _ c.requires.short;
      same_capacity = refl;
      marked = marked_start _ c.requires.unused;
      long = refl;
      lent = refl;
    }

pub loop-cursor-preserved : goal.loop-cursor-preserved
loop-cursor-preserved g c =
    let took = was_ok c.map_err.result _ c.take_step.result c.in_ok-cursor.cursor c.map_err.ensures.cases c.in_ok-cursor.was in
    let ens = rw took at c.take_step.ensures in
    let kept = c.loop-cursor.invariant in
    record {
      running = runs_turn _ _ _ c.loop-cursor.cursor _ _ (slots c.loop-cursor.marks) _ kept.long c.loop-cursor-test.true
          (Ok c.in_ok-cursor.cursor) ens.onward ens.inside kept.running _
          (same_setting _ kept.same_capacity c.loop-cursor.auto.scratch c.loop-cursor.auto.groups) ens.turns;
      same_capacity = c.take_step.ensures.same_capacity ∙ kept.same_capacity;
      marked = ens.marked;
      long = c.take_step.ensures.long ∙ kept.long;
      lent = c.take_step.ensures.lent ∙ kept.lent;
    }

pub returns-in_err-cursor : goal.returns-in_err-cursor
returns-in_err-cursor g c =
    let p = err_from_is_err_and c.from_residual.result c.from_residual.ensures.1 in
    let took = was_err c.map_err.result _ c.take_step.result c.in_err-cursor.field-0.0 c.map_err.ensures.cases c.in_err-cursor.was in
    let ens = rw took.1 at c.take_step.ensures in
    let kept = c.loop-cursor.invariant in
    let placed : c.in_err-cursor.field-0.0 ≡ fault_at took.0 c.loop-cursor.cursor.step c.loop-cursor.cursor.at = search (rules, took.2) in
    record {
      ran = rw (p.1, p.2, placed)
          (runs_turn _ _ _ c.loop-cursor.cursor _ _ (slots c.loop-cursor.marks) _ kept.long c.loop-cursor-test.true
          (Err took.0) tt tt kept.running _
          (same_setting _ kept.same_capacity c.loop-cursor.auto.scratch c.loop-cursor.auto.groups) ens.turns);
      long = c.take_step.ensures.long ∙ kept.long;
      lent = c.take_step.ensures.lent ∙ kept.lent;
      same_capacity = c.take_step.ensures.same_capacity ∙ kept.same_capacity;
    }

pub returns : goal.returns
returns g c =
    let kept = c.loop-cursor.invariant in
    record {
      ran = rw c.outcome.ensures
          (runs_end _ _ _ c.loop-cursor.cursor _ (slots c.loop-cursor.marks) kept.running c.loop-cursor-test.false);
      long = kept.long;
      lent = kept.lent;
      same_capacity = kept.same_capacity;
    }
