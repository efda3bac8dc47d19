use Rattle.agreement.proofs.LeastLists.{write_out_least}
use Rattle.agreement.proofs.write_out.write_least.Goals as goal

pub returns : goal.returns
returns g c =
    record {
      writes = c.write_out.ensures;
      least = write_out_least _ _ _ _ c.write_out.result c.write_out.ensures;
    }
