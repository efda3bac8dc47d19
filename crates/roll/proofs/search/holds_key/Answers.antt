use Rattle.std.proofs.Common.{rules, ◌≡◌}
use Rattle.std.proofs.lemmas.Iterator.{cases_from_any, YieldsList-from_slice}
use borrow.Author.Tests.{tests}
use Rattle.roll.proofs.Rolls.{holds_decided}
use Rattle.roll.proofs.search.holds_key.Goals as goal

pub returns : goal.returns
returns g c =
    holds_decided g.T.Keyed.key c.args.key.now c.args.entries.now c.any.result
    (cases_from_any _ _ _ (λ x. g.T.Keyed.key x ≡ c.args.key.now) (λ x. g.T.Keyed.key x ≡ c.args.key.now → ⊥) c.any.ensures.ran
    (YieldsList-from_slice c.args.entries.now cc) (λ x q k. search (rules, tests)) (λ x q k. search (rules, tests)))
