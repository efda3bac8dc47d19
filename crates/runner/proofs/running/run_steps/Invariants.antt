use Rattle.std.proofs.Common.{◌≡◌, ◌-◌, length}
use Rattle.roll.specs.Views.{loan_of, slots}
use Rattle.runner.specs.Turning.{Marked}
use Rattle.runner.proofs.Runs.{Running}
use Rattle.runner.proofs.running.run_steps.Given as goal

abbrev pub invariant-loop-cursor : goal.invariant-loop-cursor
invariant-loop-cursor g l =
    record {
      running : Running (record { capacity = g.K.Keeper.capacity l.initial.keeper; scratch = length l.initial.scratch; sheet = l.sheet; groups = length l.initial.groups })
          (g.K.Keeper.told l.initial.keeper) (slots l.initial.marks) l.cursor (g.K.Keeper.told l.keeper) (slots l.marks);
      same_capacity : g.K.Keeper.capacity l.keeper ≡ g.K.Keeper.capacity l.initial.keeper;
      marked : Marked l.cursor l.marks;
      long : length (slots l.marks) ≡ length (slots l.initial.marks);
      lent : loan_of l.marks ≡ loan_of l.initial.marks;
    }

abbrev pub decreases-loop-cursor : goal.decreases-loop-cursor
decreases-loop-cursor g l = length l.sheet - l.cursor.at
