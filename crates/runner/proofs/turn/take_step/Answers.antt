use Rattle.std.proofs.Common.{◌≡◌, ◌+◌, ◌<◌, length, refl, ap, ◌∙◌, arith, length-set}
use Rattle.roll.specs.Rolls.{used_after}
use Rattle.roll.specs.Views.{slots, used_in}
use Rattle.runner.proofs.Marking.{marked_more}
use Rattle.runner.proofs.Runs.{turns_go}
use Rattle.runner.specs.Following.{next_at}
use Rattle.runner.proofs.turn.take_step.Goals as goal

pub returns : goal.returns
returns g c =
    let w = c.requires.marked in
    let room : used_in c.args.marks.now < length (slots c.args.marks.now) = omega (arith, c.len.ensures, c.capacity.ensures) in
    let added = c.add.ensures.appended room w.before in
    let used : used_in c.add.new.self ≡ used_in c.args.marks.now + 1 = c.add.ensures.counted ∙ ap (used_after (used_in c.args.marks.now)) added.0 in
    let next = c.in_ok-next.ensures in
    record {
      turns = turns_go _ c.args.cursor c.in_ok-next.next (next_at c.args.sheet.now c.args.cursor.state c.args.cursor.at)
          c.in_ok-answer.answer _ (slots c.args.marks.now) (slots c.add.new.self) (used_in c.args.marks.now) c.kind.result next.value
          room (let q = c.group_count.ensures in let l = c.if-group_count-groups.false in omega arith)
          c.in_ok-answer.ensures.serves w.counted c.kind.ensures added.1;
      onward = next.onward;
      inside = next.inside;
      marked = marked_more c.args.cursor _ c.args.marks.now c.add.new.self _ w room refl next.onward refl used added.1;
      long = ap length added.1 ∙ length-set (slots c.args.marks.now) (used_in c.args.marks.now) _;
      lent = c.add.ensures.lent;
      same_capacity = c.serve.ensures.same_capacity;
    }
