-- All that is unfolded where a row is computed.
use Rattle.std.proofs.Common.{ℕ}
use lib.Count.{ones, ones_in}
use Rattle.worked.proofs.Gathering.{add, merged, keep}
use Rattle.worked.proofs.Positions.{has, touches, some, each}
use Rattle.worked.proofs.Running.{changed, called_on, state_after, answers_of}
use Rattle.worked.proofs.States.{singles, new_of, sharing, free_term, once, linear_term, shared_groups, apart_groups, bound_groups, stays_free, stays_linear, ground_of, bind_by, bind_of, join_of, stripped, forget_of, change_of, inside, is_core, core_of}
use Rattle.worked.proofs.Unions.{joins, pairs, closed, extended}

-- stands for the list of the line below; its value is of no use
unfoldable pub computing : ℕ
unfolding add merged keep has touches some each joins pairs closed extended singles new_of sharing free_term once linear_term shared_groups apart_groups bound_groups stays_free stays_linear ground_of bind_by bind_of join_of stripped forget_of change_of inside is_core core_of changed called_on state_after answers_of ones ones_in
computing = 0
