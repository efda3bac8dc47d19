-- The marks that the runner has put into its roll.
use Rattle.std.proofs.Common.{◌≡◌, ℕ, ◌+◌, ◌<◌, length, take, set, sym, ap, ◌∙◌, subst, arith}
use Rattle.std.specs.List.{AllByRecursion}
use Rattle.std.proofs.ByRecursion.{All-push, All-weaker}
use Rattle.std.proofs.lemmas.List.{take_more_set}
use Rattle.roll.specs.Views.{in_use, slots, used_in}
use Rattle.roll.specs.declared.entries.Roll.{Roll}
use Rattle.sheet.specs.declared.mark.StepMark.{StepMark}
use Rattle.runner.specs.Turning.{Marked}
use Rattle.runner.specs.declared.state.State.TheVariants.{New}
use Rattle.runner.specs.declared.turn.Cursor.{Cursor}

-- no mark is in use before the first step
pub marked_start : (marks : Roll StepMark) → used_in marks ≡ 0 → Marked (record { state = New; at = 0; step = 0 }) marks
marked_start marks none =
    record { counted = none; before = subst (λ (k : ℕ). AllByRecursion (λ (m : StepMark). m.place < 0) (take k (slots marks))) (sym none) tt }

-- one more mark, of the step at the cursor
pub marked_more : (c c' : Cursor) (marks marks' : Roll StepMark) (m : StepMark)
    → Marked c marks → used_in marks < length (slots marks) → m.place ≡ c.at → c.at < c'.at → c'.step ≡ c.step + 1
    → used_in marks' ≡ used_in marks + 1 → slots marks' ≡ set (slots marks) (used_in marks) m → Marked c' marks'
marked_more c c' marks marks' m w room at past step used written =
    record {
      counted = used ∙ ap (λ (k : ℕ). k + 1) w.counted ∙ sym step;
      before =
          subst (AllByRecursion (λ (n : StepMark). n.place < c'.at))
          (sym (take_more_set (slots marks) (used_in marks) m room) ∙ (λ i. take (sym used i) (sym written i)))
          (All-push (λ (n : StepMark). n.place < c'.at) (in_use marks) m
          (All-weaker (λ (n : StepMark). n.place < c.at) (λ (n : StepMark). n.place < c'.at) (λ n h. omega arith) (in_use marks) w.before) (omega arith));
    }
