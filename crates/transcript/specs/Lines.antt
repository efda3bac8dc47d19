-- The printed lines, byte by byte.
use Rattle.std.specs.Prelude.{ℕ, List, [], ◌∷◌, ◌++◌}
use Rattle.sheet.specs.declared.fault.Refused.{Refused}
use Rattle.sheet.specs.declared.mark.StepMark.{StepMark}
use Rattle.sheet.specs.Shown.{mark_text, refused_text}

-- a line ends in byte 10
abbrev pub newline : List ℕ
newline = 10 ∷ []

-- place, kind and answer
abbrev pub mark_line : StepMark → List ℕ
mark_line m = mark_text m ++ newline

-- number, place, step and layer
abbrev pub refusal_line : Refused → List ℕ
refusal_line r = refused_text r ++ newline
