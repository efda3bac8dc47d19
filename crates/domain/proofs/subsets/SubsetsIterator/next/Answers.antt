use Rattle.std.proofs.Common.{◌≡◌, ◌-◌, ◌∷◌, [], sym, ◌∙◌, ap, length, rules, arith}
use lib.Bits.{bit_and}
use Rattle.domain.specs.Subsets.{subsets_from}
use Rattle.domain.proofs.Descending.{subsets_end, subsets_next}
use Rattle.domain.proofs.Walk.{next_within}
use Rattle.domain.proofs.subsets.SubsetsIterator.next.Goals as goal

pub returns-then-subset-eq0-clause-steps : goal.returns-then-subset-eq0-clause-steps
returns-then-subset-eq0-clause-steps c =
    let none : c.args.self.now ≡ [] =
    sym c.self.view_is ∙ ap (subsets_from c.self.inside.mask) c.if-subset-eq0.true ∙ subsets_end c.self.inside.mask in
    (none, none)

pub invariant_of-self : goal.invariant_of-self
invariant_of-self c = next_within c.self.inside.next c.self.inside.mask

pub returns-clause-steps : goal.returns-clause-steps
returns-clause-steps c =
    sym c.self.view_is ∙ subsets_next c.self.inside.mask c.self.inside.next c.self.invariant (omega (arith, c.if-subset-eq0.false))

pub returns-clause-goes : goal.returns-clause-goes
returns-clause-goes c =
    let e : length c.args.self.now ≡ length (c.self.inside.next ∷ subsets_from c.self.inside.mask (bit_and (c.self.inside.next - 1) c.self.inside.mask)) =
    ap length
    (sym c.self.view_is ∙ subsets_next c.self.inside.mask c.self.inside.next c.self.invariant (omega (arith, c.if-subset-eq0.false))) in
    search rules
