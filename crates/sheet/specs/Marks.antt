-- The marks of steps.
use Rattle.std.specs.Prelude.{ℕ, Bool, true, false}
use Rattle.sheet.specs.declared.mark.StepMark.{StepMark}
use Rattle.sheet.specs.declared.kind.StepKind.TheVariants.{End}

abbrev pub blank_mark : StepMark
blank_mark = record { place = 0; kind = End; answer = false }

-- the number of an answer: 1 for yes, 0 for no
abbrev pub answer_number : Bool → ℕ
answer_number true = 1
answer_number false = 0
