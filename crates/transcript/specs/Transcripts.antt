-- All that is printed of a run.
use Rattle.std.specs.Prelude.{ℕ, List, [], ◌∷◌, ◌++◌, take, Ok, Err, Result}
use Rattle.sheet.specs.Faults.{refused_of}
use Rattle.transcript.specs.Lines.{mark_line, refusal_line}
use Rattle.sheet.specs.declared.fault.SheetFault.{SheetFault}
use Rattle.sheet.specs.declared.mark.StepMark.{StepMark}

-- a line for each mark
abbrev pub lines_of : List StepMark → List ℕ
lines_of [] = []
lines_of (m ∷ ms) = mark_line m ++ lines_of ms

abbrev pub fault_lines : SheetFault → List ℕ
fault_lines f = refusal_line (refused_of f)

-- the marks of the steps that were done, then the refusal
abbrev pub transcript_of : List StepMark → Result ℕ SheetFault → List ℕ
transcript_of marks (Ok steps) = lines_of (take steps marks)
transcript_of marks (Err f) = lines_of (take f.step marks) ++ fault_lines f
