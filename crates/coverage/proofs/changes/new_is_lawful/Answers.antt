use Rattle.domain.proofs.Opening.{new_lawful}
use Rattle.coverage.proofs.changes.new_is_lawful.Goals as goal

pub returns : goal.returns
returns c = λ n e some few k. new_lawful some few k
