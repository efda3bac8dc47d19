use Rattle.rules.proofs.Lending.{open_given}
use Rattle.description.proofs.Description.new.Goals as goal

pub invariant_of-result : goal.invariant_of-result
invariant_of-result c =
    let made = open_given c.args.positions _ c.in_ok-outline.outline c.open_table.new.table c.in_ok-outline.ensures.gives in
    record { lawful = made.2 }
