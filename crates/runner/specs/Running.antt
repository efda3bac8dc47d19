-- The script of a sheet: which steps its bytes give.
use Rattle.std.specs.Prelude.{ℕ, zero, suc, ◌-◌, Bool, ◌||◌, if◌then◌else◌, List, length, Ok, Err, Result, ◌==◌, nat_lt}
use Rattle.domain.specs.declared.refusal.Refusal.TheVariants.{Truncated, Length, Room}
use Rattle.sheet.specs.Steps.{group_count}
use Rattle.sheet.specs.declared.fault.RunnerFault.{RunnerFault}
use Rattle.sheet.specs.declared.fault.RunnerFault.TheVariants.{Reader, Runner}
use Rattle.sheet.specs.declared.steps.Step.{Step}
use Rattle.sheet.specs.declared.steps.TheConstants.{LONGEST_SHEET}
use Rattle.runner.specs.Following.{next_at}
use Rattle.runner.specs.declared.next.Next.{Next}
use Rattle.runner.specs.declared.state.State.{State}
use Rattle.runner.specs.declared.state.State.TheVariants.{New, Opened, Ended}

-- What a sheet's bytes give, whatever the keeper: its steps with their places, up to the end
-- or to the first fault of the reader or the runner.
pub data Script : Type 0 where
  finished : Script
  broken : ℕ → RunnerFault → Script
  follows : ℕ → Step → Script → Script

-- the sheet's bytes are used up: an end record must have come
abbrev pub script_at_end : State → ℕ → Script
script_at_end New at = broken at (Reader (record { refusal = Truncated; place = at }))
script_at_end Opened at = broken at (Reader (record { refusal = Truncated; place = at }))
script_at_end Ended at = finished

-- with room for so many marks and so many groups, there is none for the step's mark or for its groups
abbrev pub lacks_room : (marks groups : ℕ) → Step → Bool
lacks_room marks groups s = marks == 0 || nat_lt groups (group_count s)

-- one step more, if there is room for it; `rest` goes on after it
abbrev pub turn : (ℕ → State → ℕ → Script) → ℕ → ℕ → Result Next RunnerFault → ℕ → Script
turn rest groups at (Err f) marks = broken at f
turn rest groups at (Ok next) marks =
    (if lacks_room marks groups next.step then broken at (Runner Room)
    else follows at next.step (rest (marks - 1) next.state next.end))

-- the script from a place on, with room for so many groups at a time and so many marks in all;
-- a record has four bytes or more, so that more turns than bytes are never wanted
unfoldable pub script_from : ℕ → List ℕ → (groups marks : ℕ) → State → ℕ → Script
script_from zero sheet groups marks state at = script_at_end state at
script_from (suc turns) sheet groups marks state at =
    (if nat_lt at (length sheet)
    then turn (script_from turns sheet groups) groups at (next_at sheet state at) marks
    else script_at_end state (length sheet))

-- the script of a whole sheet, if it is not too long
abbrev pub script_of : List ℕ → (groups marks : ℕ) → Script
script_of sheet groups marks =
    (if nat_lt LONGEST_SHEET (length sheet)
    then broken 0 (Reader (record { refusal = Length; place = 0 }))
    else script_from (suc (length sheet)) sheet groups marks New 0)
