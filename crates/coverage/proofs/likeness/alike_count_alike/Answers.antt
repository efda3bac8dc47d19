use Rattle.coverage.proofs.Counting.{count_same}
use Rattle.coverage.proofs.likeness.alike_count_alike.Goals as goal

pub returns : goal.returns
returns c = λ d e j k a m n. count_same a.cover m n
