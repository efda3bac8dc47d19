use Rattle.std.proofs.Common.{◌+◌, ◌-◌, ◌*◌, ◌≤◌}
use Rattle.domain.specs.Terms.{constant_term}
use Rattle.reader.specs.Trees.{args_of, onto, tree_of}
use Rattle.reader.proofs.Arguments.{From}
use Rattle.reader.proofs.record.SheetRecord.+arguments_compound_nested.Given as goal

abbrev pub decreases-arguments : goal.decreases-arguments
decreases-arguments l = 3 * l.depth + 3

abbrev pub decreases-compound : goal.decreases-compound
decreases-compound l = 3 * l.depth + 1

abbrev pub decreases-nested : goal.decreases-nested
decreases-nested l = 3 * l.depth + 2

-- the terms that are left, read onto those before, make the whole
abbrev pub invariant-arguments-loop-at : goal.invariant-arguments-loop-at
invariant-arguments-loop-at l =
    (l.at ≤ l.self.frame.end)
    × From l.self.sheet.now (tree_of l.self.sheet.now l.depth) l.all l.at l.self.frame.end
    (onto constant_term (args_of l.self.sheet.now (tree_of l.self.sheet.now l.depth) l.self.frame))

abbrev pub decreases-arguments-loop-at : goal.decreases-arguments-loop-at
decreases-arguments-loop-at l = l.self.frame.end - l.at
