use Rattle.std.proofs.Common.{◌≡◌, length, take}
use Rattle.agreement.specs.Giving.{calls_of, Held}
use Rattle.agreement.proofs.session.give_all.Given as goal

abbrev pub invariant-loop-i : goal.invariant-loop-i
invariant-loop-i g l =
    Held (g.K.Keeper.capacity l.initial.keeper) (calls_of (length l.initial.scratch) (length l.initial.list) (take l.i l.calls)) l.i (g.K.Keeper.told l.initial.keeper) (g.K.Keeper.told l.keeper) l.initial.list l.list l.initial.answers l.answers
    × (g.K.Keeper.capacity l.keeper ≡ g.K.Keeper.capacity l.initial.keeper)
