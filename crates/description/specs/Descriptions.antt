-- What a description tells.
use Rattle.std.specs.Prelude.{ℕ, List}
use Rattle.domain.specs.Tables.{told_with}
use Rattle.domain.specs.Told.{Told}
use Rattle.description.specs.declared.Description.{Description}

abbrev pub told : Description → Told
told d = told_with d.outline d.table

-- its table: with the rest of what is told it tells the same
abbrev pub table_of : Description → List ℕ
table_of d = d.table
