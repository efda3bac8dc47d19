use Rattle.worked.specs.Table.{table}
use Rattle.worked.proofs.Tabled.{table_worked}
use Rattle.worked.proofs.Written.{rows_written}
use Rattle.worked.proofs.examples.write_example.Goals as goal

pub returns : goal.returns
returns g c =
    record {
      right = table_worked;
      writes = c.write_out.ensures;
      rows = rows_written table table_worked _ _ _ _ c.write_out.result c.write_out.ensures;
    }
