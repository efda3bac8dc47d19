use Rattle.std.proofs.Common.{◌≡◌, ◌∙◌, rules}
use lib.Bits.{bit_or}
use Rattle.std.specs.List.{fold}
use Rattle.domain.proofs.Joining.{fold_held}
use Rattle.rules.proofs.rule.check.held_by.Goals as goal

pub returns : goal.returns
returns c =
    let from_left : c.fold.result ≡ fold (λ m h. bit_or m h) 0 c.args.groups.now = search rules in
    from_left ∙ fold_held 0 c.args.groups.now
