use Rattle.std.proofs.Common.{◌^◌, true, arith}
use lib.Bits.{bit_and}
use Rattle.domain.specs.Masks.{Loses}
use Rattle.domain.specs.Told.{Group}
use Rattle.domain.proofs.Deciding.{without_mask}
use Rattle.rules.specs.Reaching.{Reach}
use Rattle.rules.specs.Views.{told_by}
use Rattle.rules.proofs.Staying.{stays_free, stays_linear}
use Rattle.rules.proofs.rule.sides.AskedBind.kept.Goals as goal

pub returns : goal.returns
returns c =
    let d = told_by c.args.self.view in
    let x = c.args.self.position in
    let t = c.args.self.term in
    let a = c.reach-near_position.result in
    let b = c.reach-near_term.result in
    let low = c.args.self.bindable.position in
    let near : Reach (Group d) (2 ^ x) a = rw (c.single.ensures.inside (omega arith)) at c.reach-near_position.ensures in
    let apart : Loses d.marks.linear (bit_and a b) true c.without-apart.result = rw c.without-apart.ensures (without_mask d.marks.linear (bit_and a b)) in
    record {
      free = stays_free d x t c.args.signs c.requires.seen a b near c.reach-near_term.ensures _ _
          c.without_where-far_free.ensures c.without_where-free.ensures;
      linear = stays_linear d x t c.args.signs c.requires.seen a b near c.reach-near_term.ensures _ _ _
          apart c.without_where-far_linear.ensures c.without_where-linear.ensures;
    }
