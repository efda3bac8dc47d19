-- The kinds of terms, each with its number.
use Rattle.std.specs.Prelude.{ℕ, [], ◌∷◌, Option}
use Rattle.sheet.specs.Kinds.{of_number}
use Rattle.reader.specs.declared.term.TermKind.{TermKind}
use Rattle.reader.specs.declared.term.TermKind.TheVariants.{Position, Constant, Compound}

abbrev pub term_number : TermKind → ℕ
term_number Position = 17
term_number Constant = 18
term_number Compound = 19

abbrev pub term_kind : ℕ → Option TermKind
term_kind n = of_number term_number (Position ∷ (Constant ∷ (Compound ∷ []))) n
