use Rattle.std.proofs.Common.{ap, ◌∙◌}
use Rattle.std.proofs.lemmas.Iterator.{YieldsList-from_slice, YieldsList-from_take}
use Rattle.std.proofs.lemmas.Iterator.Consumers.{YieldsList-end}
use Rattle.transcript.specs.Transcripts.{lines_of}
use Rattle.transcript.proofs.mark_lines.Goals as goal

pub returns : goal.returns
returns c =
    let all = YieldsList-end (YieldsList-from_take c.args.count (YieldsList-from_slice c.args.marks.now cc) cc) c.loop-mark.yielded _ c.loop-mark.yielded_by _ _ c.in-None.is c.next.ensures.steps in
    c.loop-mark.invariant ∙ ap lines_of all.0
