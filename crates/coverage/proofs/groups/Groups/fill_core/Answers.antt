use Rattle.std.proofs.Common.{◌≡◌, ◌<◌, length, refl, ap, ◌∙◌, arith, rules}
use Rattle.roll.specs.Rolls.{used_after}
use Rattle.roll.specs.Views.{slots}
use Rattle.std.proofs.lemmas.Bool.Decides.{not_from_Decides}
use Rattle.coverage.proofs.Counting.{core_below}
use Rattle.coverage.proofs.ListedCores.{list_start, list_skip, list_one, list_room, list_long, list_below, list_end, fills_over}
use Rattle.coverage.proofs.groups.Groups.fill_core.Goals as goal
use Rattle.coverage.proofs.groups.Groups.fill_core.Goals.{then-is_core, else-is_core}

pub loop-g-init : goal.loop-g-init
loop-g-init c = (
  rw c.over-roll.ensures.empty (list_start (slots c.over-roll.result)),
  refl,
)

pub loop-g-preserved : goal.loop-g-preserved
loop-g-preserved c =
    let inv = c.loop-g.invariant.0 in
    elim c.if-is_core.branch [
      | then-is_core w ↦
          let core = c.is_core.ensures.0 w.if-is_core.true in
          let room : c.loop-g.roll.used < length (slots c.over-roll.result) =
          omega (arith, list_room core inv c.requires.fits, ap length c.over-roll.ensures.same) in
          let long : length (slots c.loop-g.roll) ≡ length (slots c.over-roll.result) = list_long (omega arith) inv in
          let added = w.add.ensures.appended (omega (arith, long, room)) (list_below inv) in
          let used = w.add.ensures.counted ∙ ap (used_after c.loop-g.roll.used) added.0 in
          (rw (w.roll-is, used, added.1) (list_one room core inv), rw w.roll-is (w.add.ensures.lent ∙ c.loop-g.invariant.1))
      | else-is_core w ↦ (
        rw w.roll-is (list_skip (not_from_Decides _ c.is_core.ensures w.if-is_core.false) inv),
        rw w.roll-is c.loop-g.invariant.1,
      )
    ]

pub returns : goal.returns
returns c =
    let all =
    list_end
    (core_below c.args.self.now.positions c.args.self.now.table.now _ c.requires.few (omega (arith, c.loop-g-test.false)))
    c.loop-g.invariant.0 in
    fills_over c.over-roll.ensures.same (search rules) c.len.ensures all
