-- A script played: the marks that are written, the fault or the number of steps, and what is told in the end.
use Rattle.std.specs.Prelude.{◌≡◌, ℕ, ◌+◌, Bool, List, [], ◌∷◌, ◌++◌, length, drop, Ok, Err, Result}
use Rattle.domain.specs.Told.{Told}
use Rattle.keeper.specs.declared.fault.KeeperFault.{KeeperFault}
use Rattle.sheet.specs.Faults.{fault_at}
use Rattle.sheet.specs.Steps.{kind_of}
use Rattle.sheet.specs.declared.fault.RunnerFault.{RunnerFault}
use Rattle.sheet.specs.declared.fault.RunnerFault.TheVariants.{Keeper}
use Rattle.sheet.specs.declared.fault.SheetFault.{SheetFault}
use Rattle.sheet.specs.declared.mark.StepMark.{StepMark}
use Rattle.sheet.specs.declared.steps.Step.{Step}
use Rattle.runner.specs.Running.{Script, finished, broken, follows, script_of}
use Rattle.runner.specs.Serving.{Serves}
use Rattle.runner.specs.Settings.{Setting, Transition}

-- the mark of a step: its place, its kind and the answer
abbrev pub mark_of : ℕ → Step → Bool → StepMark
mark_of place s b = record { place = place; kind = kind_of s; answer = b }

-- Plays Does script k before marks r after: where each step does what `Does` says, the script, played from step k on
-- with `before` told, writes `marks`, ends in r and leaves `after` told.
pub data Plays (Does : Step → Transition → Result Bool KeeperFault → Type 0) : Script → ℕ → Told → List StepMark → Result ℕ SheetFault → Told → Type 0 where
  -- all steps are done
  ends : {k : ℕ} {d : Told} → Plays Does finished k d [] (Ok k) d
  -- the reader or the runner refuses the next step
  breaks : {place k : ℕ} {d : Told} {f : RunnerFault} → Plays Does (broken place f) k d [] (Err (fault_at f k place)) d
  -- the step is refused
  stops : {place k : ℕ} {step : Step} {rest : Script} {d e : Told} {f : KeeperFault}
      → Does step (record { before = d; after = e }) (Err f)
      → Plays Does (follows place step rest) k d [] (Err (fault_at (Keeper f) k place)) e
  -- it is answered, and the next one comes
  goes : {place k : ℕ} {step : Step} {rest : Script} {d e z : Told} {b : Bool} {marks : List StepMark} {r : Result ℕ SheetFault}
      → Does step (record { before = d; after = e }) (Ok b)
      → Plays Does rest (k + 1) e marks r z
      → Plays Does (follows place step rest) k d (mark_of place step b ∷ marks) r z

-- A whole run on a keeper: the marks of the steps that were done stand at the start of the list of marks, whose other
-- entries are as they were.
pub record Ran (s : Setting) (t : Transition) (marks marks' : List StepMark) (r : Result ℕ SheetFault) : Type 0 where
  pub written : List StepMark
  pub played : Plays (Serves s) (script_of s.sheet s.groups (length marks)) 0 t.before written r t.after
  pub marked : marks' ≡ written ++ drop (length written) marks
