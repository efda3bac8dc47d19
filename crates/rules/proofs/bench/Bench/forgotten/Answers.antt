use Rattle.domain.proofs.Forgetting.{forgotten_of}
use Rattle.rules.proofs.bench.Bench.forgotten.Goals as goal

pub returns-clause-gives : goal.returns-clause-gives
returns-clause-gives c =
    let bench = c.args.self.now in
    forgotten_of bench.outline.positions bench.table.now c.strip.new.self.table.now bench.outline.marks
    c.args.mask c.requires c.strip.ensures.made
