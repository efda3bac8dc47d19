use Rattle.domain.proofs.ChangeLaws.{change_lawful}
use Rattle.coverage.proofs.changes.change_keeps_rules.Goals as goal

pub returns : goal.returns
returns c = λ k d e ok l m. change_lawful k d e ok l m
