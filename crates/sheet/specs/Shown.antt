-- A mark, a refusal and a fault as text, byte by byte.
use Rattle.std.specs.Prelude.{ℕ, Bool, true, false, List, ◌++◌, codes, decimal}
use Rattle.domain.specs.Refusals.{layer_name}
use Rattle.sheet.specs.Faults.{refused_of}
use Rattle.sheet.specs.Kinds.{step_name}
use Rattle.sheet.specs.declared.fault.Refused.{Refused}
use Rattle.sheet.specs.declared.fault.SheetFault.{SheetFault}
use Rattle.sheet.specs.declared.mark.StepMark.{StepMark}

abbrev pub answer_name : Bool → List ℕ
answer_name true = codes "yes"
answer_name false = codes "no"

-- place, kind and answer
abbrev pub mark_text : StepMark → List ℕ
mark_text m = decimal m.place ++ (codes " " ++ (step_name m.kind ++ (codes " " ++ answer_name m.answer)))

-- number, place, step and layer
abbrev pub refused_text : Refused → List ℕ
refused_text r =
    codes "refused " ++ (decimal r.number
    ++ (codes " at " ++ (decimal r.place
    ++ (codes " step " ++ (decimal r.step
    ++ (codes " " ++ layer_name r.layer))))))

-- what is told of the fault
abbrev pub fault_text : SheetFault → List ℕ
fault_text f = refused_text (refused_of f)
