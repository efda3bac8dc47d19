-- Which step comes at a place of a sheet, and whether it may come there.
use Rattle.std.specs.Prelude.{ℕ, List, Ok, Err, Result}
use Rattle.domain.specs.declared.refusal.Refusal.TheVariants.{Order}
use Rattle.reader.specs.Heads.{head_at}
use Rattle.reader.specs.Payloads.{step_of}
use Rattle.reader.specs.Reading.{◌>>=◌}
use Rattle.sheet.specs.declared.fault.ReaderFault.{ReaderFault}
use Rattle.sheet.specs.declared.fault.RunnerFault.{RunnerFault}
use Rattle.sheet.specs.declared.fault.RunnerFault.TheVariants.{Reader, Runner}
use Rattle.sheet.specs.declared.kind.StepKind.{StepKind}
use Rattle.sheet.specs.declared.kind.StepKind.TheVariants.{Open, Bind, Join, Forget, Ask, End}
use Rattle.runner.specs.declared.next.Next.{Next}
use Rattle.runner.specs.declared.state.State.{State}
use Rattle.runner.specs.declared.state.State.TheVariants.{New, Opened, Ended}

-- the state after a step: a sheet opens once and first, and nothing follows its end
abbrev pub move_of : State → StepKind → Result State RunnerFault
move_of New Open = Ok Opened
move_of New Bind = Err (Runner Order)
move_of New Join = Err (Runner Order)
move_of New Forget = Err (Runner Order)
move_of New Ask = Err (Runner Order)
move_of New End = Err (Runner Order)
move_of Opened Open = Err (Runner Order)
move_of Opened Bind = Ok Opened
move_of Opened Join = Ok Opened
move_of Opened Forget = Ok Opened
move_of Opened Ask = Ok Opened
move_of Opened End = Ok Ended
move_of Ended Open = Err (Runner Order)
move_of Ended Bind = Err (Runner Order)
move_of Ended Join = Err (Runner Order)
move_of Ended Forget = Err (Runner Order)
move_of Ended Ask = Err (Runner Order)
move_of Ended End = Err (Runner Order)

-- what is read, its fault as the runner's
abbrev pub reading_of : {A : Type 0} → Result A ReaderFault → Result A RunnerFault
reading_of (Ok a) = Ok a
reading_of (Err f) = Err (Reader f)

-- the record at a place: its head, its turn, then its payload
abbrev pub step_at : List ℕ → State → ℕ → Result Next RunnerFault
step_at sheet state at =
    reading_of (head_at sheet at) >>= λ head.
    move_of state head.kind >>= λ after.
    reading_of (step_of sheet head) >>= λ step.
    Ok (record { step = step; state = after; end = head.frame.end })

-- any byte after the end is refused before it is read
abbrev pub next_at : List ℕ → State → ℕ → Result Next RunnerFault
next_at sheet New at = step_at sheet New at
next_at sheet Opened at = step_at sheet Opened at
next_at sheet Ended at = Err (Runner Order)
