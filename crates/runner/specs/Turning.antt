-- One turn of the runner.
use Rattle.std.specs.Prelude.{◌≡◌, ℕ, ◌+◌, ◌-◌, ◌<◌, Bool, true, false, List, length, Ok, Err, Result, slice_set}
use Rattle.std.specs.List.{AllByRecursion}
use Rattle.domain.specs.declared.refusal.Refusal.TheVariants.{Truncated, Room}
use Rattle.keeper.specs.declared.fault.KeeperFault.{KeeperFault}
use Rattle.roll.specs.Views.{in_use, used_in}
use Rattle.roll.specs.declared.entries.Roll.{Roll}
use Rattle.sheet.specs.Faults.{fault_at}
use Rattle.sheet.specs.declared.fault.RunnerFault.{RunnerFault}
use Rattle.sheet.specs.declared.fault.RunnerFault.TheVariants.{Reader, Runner, Keeper}
use Rattle.sheet.specs.declared.fault.SheetFault.{SheetFault}
use Rattle.sheet.specs.declared.mark.StepMark.{StepMark}
use Rattle.runner.specs.Playing.{mark_of}
use Rattle.runner.specs.Running.{lacks_room}
use Rattle.runner.specs.Serving.{Serves}
use Rattle.runner.specs.Settings.{Setting, Transition}
use Rattle.runner.specs.declared.next.Next.{Next}
use Rattle.runner.specs.declared.state.State.{State}
use Rattle.runner.specs.declared.state.State.TheVariants.{New, Opened, Ended}
use Rattle.runner.specs.declared.turn.Cursor.{Cursor}

-- the marks in use are as many as the steps before the cursor, and of earlier places
pub record Marked (c : Cursor) (marks : Roll StepMark) : Type 0 where
  pub counted : used_in marks ≡ c.step
  pub before : AllByRecursion (λ (m : StepMark). m.place < c.at) (in_use marks)

-- the cursor behind the next step
abbrev pub moved_to : Cursor → Next → Cursor
moved_to c next = record { state = next.state; at = next.end; step = c.step + 1 }

-- the keeper's answer is noted by a mark, or its fault stops the run
abbrev pub Notes : Cursor → Next → Result Bool KeeperFault → List StepMark → List StepMark → Result Cursor RunnerFault → Type 0
Notes c next (Ok b) marks marks' r =
    (r ≡ Ok (moved_to c next)) × (marks' ≡ slice_set marks c.step (mark_of c.at next.step b))
Notes c next (Err f) marks marks' r = (r ≡ Err (Keeper f)) × (marks' ≡ marks)

-- where there is no room, or there is
abbrev pub Hands : Bool → Setting → Cursor → Next → Transition → List StepMark → List StepMark → Result Cursor RunnerFault → Type 0
Hands true s c next t marks marks' r = (r ≡ Err (Runner Room)) × (t.after ≡ t.before) × (marks' ≡ marks)
Hands false s c next t marks marks' r =
    (answer : Result Bool KeeperFault) × Serves s next.step t answer × Notes c next answer marks marks' r

-- with a next step or without
abbrev pub Turns : Setting → Cursor → Result Next RunnerFault → Transition → List StepMark → List StepMark → Result Cursor RunnerFault → Type 0
Turns s c (Err f) t marks marks' r = (r ≡ Err f) × (t.after ≡ t.before) × (marks' ≡ marks)
Turns s c (Ok next) t marks marks' r =
    Hands (lacks_room (length marks - c.step) s.groups next.step) s c next t marks marks' r

-- the bytes are used up
abbrev pub outcome_in : State → ℕ → ℕ → Result ℕ SheetFault
outcome_in New step at = Err (fault_at (Reader (record { refusal = Truncated; place = at })) step at)
outcome_in Opened step at = Err (fault_at (Reader (record { refusal = Truncated; place = at })) step at)
outcome_in Ended step at = Ok step

abbrev pub outcome_of : Cursor → Result ℕ SheetFault
outcome_of c = outcome_in c.state c.step c.at
