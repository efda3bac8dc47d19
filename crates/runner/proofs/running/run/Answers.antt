use Rattle.std.proofs.Common.{refl, rules}
use Rattle.runner.proofs.Laid.{reads_laid}
use Rattle.runner.proofs.Layers.{ran_occurs}
use Rattle.runner.proofs.Meanings.{ran_everywhere}
use Rattle.runner.proofs.Runs.{ran_over}
use Rattle.runner.proofs.Settled.{one_meaning, ran_as_meant}
use Rattle.sheet.specs.Faults.{alone}
use Rattle.runner.proofs.running.run.Goals as goal

pub returns-clause-same_everywhere : goal.returns-clause-same_everywhere
returns-clause-same_everywhere g c = ran_everywhere _ _ _ _ _ (ran_over c.over-marks.ensures.same (search rules) c.run_steps.ensures.ran)

pub returns-clause-one_meaning : goal.returns-clause-one_meaning
returns-clause-one_meaning g c = one_meaning _ _ _ _

pub returns-then-sheet-gt-LONGEST_SHEET-clause-one_meaning :
    goal.returns-then-sheet-gt-LONGEST_SHEET-clause-one_meaning
returns-then-sheet-gt-LONGEST_SHEET-clause-one_meaning g c = one_meaning _ _ _ _

pub returns-clause-as_meant : goal.returns-clause-as_meant
returns-clause-as_meant g c = ran_as_meant _ _ _ _ _ (ran_over c.over-marks.ensures.same (search rules) c.run_steps.ensures.ran)

pub returns-clause-reads_laid : goal.returns-clause-reads_laid
returns-clause-reads_laid g c = reads_laid _ _ _

pub returns-then-sheet-gt-LONGEST_SHEET-clause-reads_laid :
    goal.returns-then-sheet-gt-LONGEST_SHEET-clause-reads_laid
returns-then-sheet-gt-LONGEST_SHEET-clause-reads_laid g c = reads_laid _ _ _

pub returns-clause-layer : goal.returns-clause-layer
returns-clause-layer g c = ran_occurs _ _ _ _ _ c.run_steps.ensures.ran

pub returns-then-sheet-gt-LONGEST_SHEET-clause-layer :
    goal.returns-then-sheet-gt-LONGEST_SHEET-clause-layer
returns-then-sheet-gt-LONGEST_SHEET-clause-layer g c = rw c.at.ensures (alone refl)
