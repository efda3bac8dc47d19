use Rattle.domain.proofs.Joining.{joined_of}
use Rattle.domain.specs.Changes.{lent_listing}
use Rattle.rules.proofs.Beside.{beside_loaded}
use Rattle.rules.proofs.bench.Bench.joined.Goals as goal

pub returns-clause-gives : goal.returns-clause-gives
returns-clause-gives c =
    let bench = c.args.self.now in
    joined_of bench.outline.positions bench.table.now c.put_groups.new.table bench.outline.marks
    (lent_listing c.args.other) bench.few bench.room c.requires
    c.put_groups.ensures.put c.put_groups.ensures.grown c.put_groups.ensures.only

pub returns-clause-beside : goal.returns-clause-beside
returns-clause-beside c =
    let bench = c.args.self.now in
    beside_loaded bench.outline.positions (lent_listing c.args.other).groups bench.table.now c.put_groups.new.table c.requires
    c.put_groups.ensures.grown c.put_groups.ensures.only
