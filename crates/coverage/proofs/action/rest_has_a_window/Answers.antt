use Rattle.coverage.proofs.BindCover.{apart_window, window_apart}
use Rattle.coverage.proofs.action.rest_has_a_window.Goals as goal

pub returns : goal.returns
returns c = λ d a b w p q. (λ k. apart_window k, λ k. window_apart a b w k)
