use Rattle.worked.proofs.Parts.{rule_of_parts}
use Rattle.worked.proofs.shortcuts.parts_make_the_rule.Goals as goal

pub returns : goal.returns
returns c = rule_of_parts
