-- A write-out is the least list that covers.
use Rattle.std.proofs.Common.{ℕ, List, Ok, Err, Result, sym, ◌∙◌}
use Rattle.coverage.proofs.CoreLeast.{core_held, core_same, dec_group}
use Rattle.coverage.proofs.Cover.{alike_turned, same_turned, same_trans, same_groups}
use Rattle.domain.specs.Coverage.{Alike, CoreList}
use Rattle.domain.specs.Told.{Told, Group}
use Rattle.keeper.specs.Calls.{Writes}
use Rattle.keeper.specs.declared.fault.KeeperFault.{KeeperFault}
use Rattle.keeper.specs.declared.write_out.WrittenOut.{WrittenOut}
use Rattle.agreement.proofs.ToldApart.{core_moved}
use Rattle.agreement.proofs.Reckoned.{reckoned_told}
use Rattle.agreement.specs.Laws.{LeastCover, WriteOutIsLeast}

-- the core list of a description covers what it covers, and every list that does so holds it
pub least_cover : (d : Told) (gs : List ℕ) → CoreList (Group d) gs → LeastCover d gs
least_cover d gs c =
    record {
      core = c;
      same = same_trans (same_groups c.only c.all) (core_same (dec_group d));
      least = λ hs s g l. core_held (same_turned s) (c.only g l);
    }

pub write_out_least : (capacity : ℕ) (t : Told) (list list' : List ℕ) (r : Result WrittenOut KeeperFault) → Writes t list list' r
    → WriteOutIsLeast capacity t list list' r
write_out_least k t list list' (Ok w) h =
    λ n cs d given reckoned.
    let alike : Alike d t = reckoned_told reckoned given in
    record {
      groups = h.2.0;
      count = h.2.2;
      at_start = h.2.4;
      marks = h.1 ∙ sym alike.marks;
      least = least_cover d h.2.0 (core_moved (alike_turned alike) h.2.1);
    }
write_out_least k t list list' (Err f) h = tt
