use Rattle.coverage.proofs.ChangeLaws.{one_new, one_made}
use Rattle.coverage.proofs.changes.results_are_unique.Goals as goal

pub returns : goal.returns
returns c = record {
  new = λ n e e' u v. one_new u v;
  change = λ k d e e' u v. one_made k d u v;
}
