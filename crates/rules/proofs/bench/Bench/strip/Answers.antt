use Rattle.std.proofs.Common.{◌≡◌, ◌*◌, ◌/◌, ◌%◌, ◌^◌, ◌<◌, length, sym, arith}
use Rattle.std.proofs.lemmas.Nat.{one_shl}
use Rattle.std.proofs.lemmas.Bool.Decides.{Decides-like}
use Rattle.domain.specs.Tables.{TableGroup}
use Rattle.domain.proofs.Forgetting.{left_local}
use Rattle.domain.proofs.Tables.{written_up_more, same_groups, room_for}
use Rattle.rules.proofs.Beside.{beside_more}
use Rattle.rules.proofs.bench.Bench.strip.Goals as goal

pub loop-u-preserved : goal.loop-u-preserved
loop-u-preserved c =
    let bench = c.args.self.now in
    let n = bench.outline.positions in
    let u = c.loop-u.u in
    let size : (1 * 2 ^ n) % 2 ^ 16 ≡ 2 ^ n = one_shl n 16 (omega arith) in
    let below : u < 2 ^ n = omega (arith, size, c.loop-u-test.true) in
    let inside : u / 8 < length c.loop-u.table = room_for n u _ bench.few below (omega arith) in
    let old = TableGroup n bench.table.now in
    let new = TableGroup n c.loop-u.table in (
      written_up_more _ _ _ _ u c.is_left-on.result c.loop-u.invariant.0
          (Decides-like _
          (left_local new old c.args.mask u (λ g h. same_groups _ _ _ g (sym (c.loop-u.invariant.0.kept g h))))
          (left_local old new c.args.mask u (λ g h. same_groups _ _ _ g (c.loop-u.invariant.0.kept g h)))
          c.is_left-on.ensures)
          (c.put.ensures.at inside) c.put.ensures.others,
      beside_more u c.loop-u.invariant.1 (omega (arith, c.loop-u.auto.u)) below c.put.ensures.others,
    )
