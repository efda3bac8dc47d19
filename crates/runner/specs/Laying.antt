-- The records of a sheet, laid end to end, and what is read of them.
use Rattle.std.specs.Prelude.{◌≡◌, ℕ, ◌-◌, ◌<◌, ◌≤◌, true, List, [], ◌∷◌, length, Ok, Err}
use Rattle.domain.specs.declared.refusal.Refusal.TheVariants.{Length, Room}
use Rattle.sheet.specs.Steps.{group_count}
use Rattle.sheet.specs.declared.fault.RunnerFault.{RunnerFault}
use Rattle.sheet.specs.declared.fault.RunnerFault.TheVariants.{Reader, Runner}
use Rattle.sheet.specs.declared.steps.Step.{Step}
use Rattle.sheet.specs.declared.steps.TheConstants.{LONGEST_SHEET}
use Rattle.runner.specs.Following.{next_at}
use Rattle.runner.specs.Running.{Script, broken, follows, script_at_end, lacks_room, script_of}
use Rattle.runner.specs.declared.next.Next.{Next}
use Rattle.runner.specs.declared.state.State.{State}
use Rattle.runner.specs.declared.state.State.TheVariants.{New}

-- Laid sheet groups steps at state at' state': from `at` to at' lawful records lie end to end, of these steps at these
-- places; each may come where it lies, and so many groups hold its own.
pub data Laid (sheet : List ℕ) (groups : ℕ) : List (ℕ × Step) → ℕ → State → ℕ → State → Type 0 where
  nothing : {at : ℕ} {state : State} → Laid sheet groups [] at state at state
  another : {at at' : ℕ} {state state' : State} {next : Next} {steps : List (ℕ × Step)}
      → at < length sheet → next_at sheet state at ≡ Ok next → group_count next.step ≤ groups
      → Laid sheet groups steps next.end next.state at' state'
      → Laid sheet groups ((at, next.step) ∷ steps) at state at' state'

-- what comes where no lawful record lies, with room for so many marks more
pub data Halts (sheet : List ℕ) (groups marks at : ℕ) (state : State) : Script → Type 0 where
  -- the bytes are used up
  used : length sheet ≤ at → Halts sheet groups marks at state (script_at_end state (length sheet))
  -- the record there is none, or may not come there
  unlawful : {f : RunnerFault} → at < length sheet → next_at sheet state at ≡ Err f → Halts sheet groups marks at state (broken at f)
  -- its groups or its mark have no room
  full : {next : Next} → at < length sheet → next_at sheet state at ≡ Ok next → lacks_room marks groups next.step ≡ true
      → Halts sheet groups marks at state (broken at (Runner Room))

-- steps at their places, and then what comes behind them
abbrev pub steps_then : List (ℕ × Step) → Script → Script
steps_then [] last = last
steps_then (p ∷ ps) last = follows p.0 p.1 (steps_then ps last)

-- steps laid from the start of a sheet, for each of which there is a mark, up to where no lawful record lies
pub record LaidUpTo (sheet : List ℕ) (groups room : ℕ) (steps : List (ℕ × Step)) (last : Script) : Type 0 where
  pub at : ℕ
  pub state : State
  pub laid : Laid sheet groups steps 0 New at state
  pub marked : length steps ≤ room
  pub halts : Halts sheet groups (room - length steps) at state last

-- A sheet that is too long is refused whole. Of any other, records that lie end to end are read as their steps at their
-- places, and the first that is not lawful is the one refused; some steps are always laid so.
pub record ReadsLaid (sheet : List ℕ) (groups room : ℕ) : Type 0 where
  pub too_long : LONGEST_SHEET < length sheet
      → script_of sheet groups room ≡ broken 0 (Reader (record { refusal = Length; place = 0 }))
  pub read : length sheet ≤ LONGEST_SHEET
      → (steps : List (ℕ × Step)) (last : Script) → LaidUpTo sheet groups room steps last
      → script_of sheet groups room ≡ steps_then steps last
  pub some : (steps : List (ℕ × Step)) × (last : Script) × LaidUpTo sheet groups room steps last
