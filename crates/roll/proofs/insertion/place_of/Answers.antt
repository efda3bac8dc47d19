use Rattle.std.proofs.Common.{rules, ◌≤◌, ◌<◌, refl, sym, ◌∙◌}
use Rattle.std.proofs.lemmas.Iterator.{IsFirst-from_position, YieldsList-from_slice, index_from_first}
use borrow.Author.Tests.{tests}
use Rattle.roll.specs.Rolls.{place}
use Rattle.roll.proofs.Rolls.{place_found, place_passed}
use Rattle.roll.proofs.insertion.place_of.Goals as goal

pub returns-clause-first : goal.returns-clause-first
returns-clause-first g c =
    c.unwrap_or.ensures
    ∙ sym (index_from_first (place (λ x. g.T.Key.Ranked.rank (g.T.Keyed.key x)) c.args.rank) _ _ refl
    (place_found (λ x. g.T.Key.Ranked.rank (g.T.Keyed.key x)) c.args.rank) (place_passed (λ x. g.T.Key.Ranked.rank (g.T.Keyed.key x)) c.args.rank) c.args.entries.now c.position.result
    (IsFirst-from_position _ _ _ (λ x. c.args.rank < g.T.Key.Ranked.rank (g.T.Keyed.key x)) (λ x. g.T.Key.Ranked.rank (g.T.Keyed.key x) ≤ c.args.rank) c.position.ensures.ran
    (YieldsList-from_slice c.args.entries.now cc) (λ x q k. search (rules, tests)) (λ x q k. search (rules, tests))))
