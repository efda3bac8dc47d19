-- What a program makes of a sheet: its run, and what is printed of it.
use Rattle.std.specs.Prelude.{◌≡◌, ℕ, ◌+◌, List, length, take, IfSome, OnOk, Option, Result}
use Rattle.std.specs.Io.KnownBytes.{Appends}
use Rattle.domain.specs.Told.{Told}
use Rattle.domain.specs.declared.limits.TheConstants.{MOST_GROUPS, TABLE_BYTES}
use Rattle.runner.specs.Playing.{Ran}
use Rattle.transcript.specs.Transcripts.{transcript_of}
use Rattle.sheet.specs.declared.fault.SheetFault.{SheetFault}
use Rattle.sheet.specs.declared.mark.StepMark.{StepMark}
use Rattle.sheet.specs.declared.steps.TheConstants.{LONGEST_SHEET}
use Rattle.console.specs.declared.TheConstants.{MOST_MARKS}

-- the sheet's run, with room for the most marks and groups and enough scratch, and what is said of its transcript
pub record Prints (capacity : ℕ) (sheet : List ℕ) (before after : Told) (Says : List ℕ → Type 0) : Type 0 where
  pub marks : List StepMark
  pub marks' : List StepMark
  pub outcome : Result ℕ SheetFault
  pub room : length marks ≡ MOST_MARKS
  pub ran :
      Ran (record { capacity = capacity; scratch = TABLE_BYTES; sheet = sheet; groups = MOST_GROUPS })
      (record { before = before; after = after }) marks marks' outcome
  pub says : Says (transcript_of marks' outcome)

-- where it is known what a reader has left: all of it, or one byte more than a sheet can have
abbrev pub IsInput : Option (List ℕ) → List ℕ → Type 0
IsInput input sheet = IfSome input (λ bytes. sheet ≡ take (LONGEST_SHEET + 1) bytes)

-- The input could not be read: the keeper tells what it told, and nothing was written. Or it was read and run,
-- whatever came after; only where all of the transcript was written is the result no error.
pub data Served {E : Type 0} (capacity : ℕ) (before after : Told) (input output output' : Option (List ℕ)) (result : Result (Unit {0}) E) : Type 0 where
  unread : OnOk result ⊥ → after ≡ before → output' ≡ output → Served capacity before after input output output' result
  read : (sheet : List ℕ) → IsInput input sheet
      → Prints capacity sheet before after (λ text. OnOk result (Appends output output' text))
      → Served capacity before after input output output' result
