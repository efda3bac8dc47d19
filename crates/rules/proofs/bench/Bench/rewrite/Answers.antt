use Rattle.std.proofs.Common.{◌≡◌, ℕ, ◌-◌, ◌*◌, ◌/◌, ◌%◌, ◌^◌, ◌<◌, length, sym, arith}
use Rattle.std.proofs.lemmas.Nat.{one_shl}
use Rattle.std.proofs.lemmas.Bool.Decides.{Decides-like}
use Rattle.domain.specs.Masks.{Within}
use Rattle.domain.specs.Tables.{holds_bit, TableGroup}
use Rattle.domain.proofs.Bits.{within_le}
use Rattle.domain.proofs.Tables.{written_more, same_groups, room_for}
use Rattle.rules.proofs.Local.{new_local}
use Rattle.rules.proofs.Beside.{beside_more}
use Rattle.rules.proofs.bench.Bench.rewrite.Goals as goal

pub loop-u-preserved : goal.loop-u-preserved
loop-u-preserved c =
    let bench = c.args.self.now in
    let n = bench.outline.positions in
    let bind = c.args.bind in
    let u = c.loop-u.u - 1 in
    let size : (1 * 2 ^ n) % 2 ^ 16 ≡ 2 ^ n = one_shl n 16 (omega arith) in
    let below : u < 2 ^ n = omega (arith, size, c.loop-u.auto.u) in
    let inside : u / 8 < length c.loop-u.table = room_for n u _ bench.few below (omega arith) in
    let old = TableGroup n bench.table.now in
    let new = TableGroup n c.loop-u.table in
    let before : (g : ℕ) → Within g u → holds_bit c.loop-u.table g ≡ holds_bit bench.table.now g =
    λ g w. c.loop-u.invariant.0.kept g (omega (arith, within_le w, c.loop-u-test.true)) in (
      written_more _ _ _ _ c.loop-u.u u _ c.becomes_group-on.result (omega arith) c.loop-u.invariant.0
          (Decides-like _
          (λ m. new_local new old bind.own bind.held u (λ g w. same_groups _ _ _ g (sym (before g w))) bind.case m)
          (λ m. new_local old new bind.own bind.held u (λ g w. same_groups _ _ _ g (before g w)) bind.case m)
          c.becomes_group-on.ensures)
          (c.put.ensures.at inside) c.put.ensures.others,
      beside_more u c.loop-u.invariant.1 (omega (arith, c.loop-u-test.true)) below c.put.ensures.others,
    )
