use Rattle.std.proofs.Common.{refl, replicate, rules}
use lib.ListN.{length-replicate}
use Rattle.console.specs.declared.TheConstants.{MOST_MARKS}
use Rattle.console.proofs.run_sheet.Goals as goal

pub returns : goal.returns
returns g c =
    record {
      most_marks = refl;
      prints = record {
        marks = replicate MOST_MARKS c.blank-marks.result;
        marks' = c.run-outcome.new.lists.marks.now;
        outcome = c.run-outcome.result;
        room = length-replicate MOST_MARKS c.blank-marks.result;
        ran = c.run-outcome.ensures.ran;
        says = search rules;
      };
      same_capacity = c.run-outcome.ensures.same_capacity;
    }
