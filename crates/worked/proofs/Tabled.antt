-- Every row of the table, computed.
use Rattle.std.proofs.Common.{◌≡◌, refl}
use Rattle.worked.specs.Rows.{AllWorked}
use Rattle.worked.specs.Table.{table}
use Rattle.worked.proofs.Computed.{all_found, all_claimed, all_worked}
use Rattle.worked.proofs.Computing.{computing}

table_found : all_found table ≡ all_claimed table
unfolding computing
table_found = refl

pub table_worked : AllWorked table
table_worked = all_worked table table_found
