-- The head of a step's record: where the record lies on its sheet, and its kind.
use Rattle.std.specs.Prelude.{ℕ, List, length, Some, None, Ok, Option}
use Rattle.domain.specs.declared.refusal.Refusal.TheVariants.{Kind}
use Rattle.sheet.specs.Kinds.{step_kind}
use Rattle.sheet.specs.declared.kind.StepKind.{StepKind}
use Rattle.reader.specs.Reading.{Read, ◌>>=◌, fault}
use Rattle.reader.specs.Records.{record_at}
use Rattle.reader.specs.declared.record.Record.{Record}
use Rattle.reader.specs.declared.step.StepRecord.{StepRecord}

pub record Head : Type 0 where
  pub frame : Record
  pub kind : StepKind

-- a kind, or the fault of a record that has none for its place
abbrev pub known : {K : Type 0} → Record → Option K → Read K
known r (Some k) = Ok k
known r None = fault Kind r.place

-- the head at a place of a sheet, or the first fault
abbrev pub head_at : List ℕ → ℕ → Read Head
head_at sheet at =
    record_at sheet at (length sheet) >>= λ frame.
    known frame (step_kind frame.kind) >>= λ kind.
    Ok (record { frame = frame; kind = kind })

-- what a record that is read shows: its sheet and its head
abbrev pub sheet_of : StepRecord → List ℕ
sheet_of r = r.record.sheet.now

abbrev pub head_of : StepRecord → Head
head_of r = record { frame = r.record.frame; kind = r.kind }

-- the place behind the record
abbrev pub place_after : Head → ℕ
place_after h = h.frame.end
