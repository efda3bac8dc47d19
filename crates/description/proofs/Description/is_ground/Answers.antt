use Rattle.std.proofs.Common.{◌^◌, sym}
use Rattle.std.proofs.lemmas.Bool.{leb-false}
use Rattle.domain.specs.Told.{Group}
use Rattle.domain.proofs.Refusing.{passed, gave}
use Rattle.rules.proofs.Asking.{decides_ground}
use Rattle.rules.specs.Reaching.{Reach}
use Rattle.description.specs.Descriptions.{told}
use Rattle.description.proofs.Description.is_ground.Goals as goal

pub returns : goal.returns
returns c =
    let d = told c.args.self.now in
    let p = c.args.p in
    let g = gave _ c.in_ok-reached.reached (λ m. Reach (Group d) (2 ^ p) m) c.in_ok-reached.ensures in
    rw g.0 (decides_ground (Group d) d.n p c.in_ok-reached.reached (leb-false d.n p (passed _ _ _ (sym g.0)).0) g.1)
