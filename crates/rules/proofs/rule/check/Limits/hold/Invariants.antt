use Rattle.std.proofs.Common.{◌≡◌, drop}
use Rattle.domain.specs.Requests.{ascend}
use Rattle.rules.proofs.rule.check.Limits.hold.Given as goal

abbrev pub invariant-loop-g : goal.invariant-loop-g
invariant-loop-g l = ascend l.self.positions l.last (drop l.g-index l.groups) ≡ ascend l.self.positions 0 l.groups
