use Rattle.std.proofs.Common.{◌<◌, ◌^◌, leb, sym}
use Rattle.std.proofs.lemmas.Bool.{lt-leb}
use Rattle.domain.specs.Told.{Group}
use Rattle.domain.proofs.Refusing.{passed, gave}
use Rattle.rules.proofs.Asking.{decides_share}
use Rattle.rules.specs.Reaching.{Reach}
use Rattle.description.specs.Descriptions.{told}
use Rattle.description.proofs.Description.share.Goals as goal

pub returns : goal.returns
returns c =
    let d = told c.args.self.now in
    let p = c.args.p in
    let q = c.args.q in
    let high = (gave _ _ (λ u. q < d.n) c.in_ok-check_position.ensures).1 in
    let g = gave _ c.in_ok-reached.reached (λ m. Reach (Group d) (2 ^ p) m) c.in_ok-reached.ensures in
    rw ((passed (leb d.n p) _ _ (sym g.0)).0, lt-leb d.n q high)
    (decides_share (Group d) p q c.in_ok-reached.reached c.has.result g.1 c.has.ensures)
