use Rattle.std.proofs.Common.{ℕ, ◌≡◌, ◌↔◌, ap, ◌∙◌, arith}
use Rattle.domain.specs.Binding.{StaysFree, StaysLinear}
use Rattle.domain.specs.Groups.{IsGround}
use Rattle.domain.specs.Masks.{In}
use Rattle.domain.specs.Tables.{TableGroup, told_with}
use Rattle.rules.specs.Signs.{Seen}
use Rattle.rules.proofs.Binding.{bound_of, fits_of}
use Rattle.rules.proofs.bench.Bench.bound.Goals as goal

pub returns-clause-gives : goal.returns-clause-gives
returns-clause-gives c =
    let bench = c.args.self.now in
    let n = bench.outline.positions in
    let x = c.args.position in
    let t = c.args.term in
    let v = c.view.ensures in
    let d = told_with bench.outline bench.table.now in
    let seen : Seen d x t c.signs-signs.result = rw (← v.table, ← v.positions, ← v.marks) c.signs-signs.ensures in
    let free : (p : ℕ) → In p c.kept-free.result.free ↔ StaysFree d x t p = rw (← v.table, ← v.positions, ← v.marks) c.kept-free.ensures.free in
    let linear : (p : ℕ) → In p c.kept-free.result.linear ↔ StaysLinear d x t p = rw (← v.table, ← v.positions, ← v.marks) c.kept-free.ensures.linear in
    let same : c.view-2.result.groups.positions ≡ n = c.view-2.ensures.positions ∙ ap (λ o. o.positions) c.rewrite.ensures.kept in
    let ground : (p : ℕ) → In p c.ground_mask-ground.result ↔ IsGround n (TableGroup n c.rewrite.new.self.table.now) p =
    rw (← c.view-2.ensures.table, ← same) c.ground_mask-ground.ensures in
    bound_of n bench.table.now bench.outline.marks x t c.chosen.result c.rewrite.new.self.table.now
    c.kept-free.result.free c.kept-free.result.linear c.ground_mask-ground.result
    (fits_of d x t c.signs-signs.result c.chosen.result seen c.chosen.ensures)
    (rw (c.single.ensures.inside (omega arith)) at c.rewrite.ensures.made)
    free linear ground
