-- The byte is shifted and its lowest digit compared, as the definition has it.
use Rattle.std.proofs.Common.{sym, arith}
use Rattle.domain.specs.Tables.{holds_bit}
use Rattle.domain.proofs.Tables.{past_bit, low_digit}
use Rattle.domain.proofs.table.holds.Goals as goal

pub returns-in-Some : goal.returns-in-Some
unfolding holds_bit
returns-in-Some c = rw (c.in-Some.ensures.lookup.3.1 0, c.from.ensures) (low_digit _)

pub returns-in-None : goal.returns-in-None
returns-in-None c =
    sym (past_bit _ _ (omega (arith, c.from.ensures, c.in-None.ensures.lookup.3)))
