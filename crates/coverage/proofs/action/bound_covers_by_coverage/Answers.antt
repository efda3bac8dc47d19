use Rattle.coverage.proofs.BindCover.{bind_cover_to, bind_cover_from}
use Rattle.coverage.proofs.Cover.{covers_more}
use Rattle.coverage.proofs.action.bound_covers_by_coverage.Goals as goal

pub returns : goal.returns
returns c = λ d e x t b w p q. (λ k. bind_cover_to (covers_more b.groups_only k), λ k. covers_more b.groups_made (bind_cover_from k))
