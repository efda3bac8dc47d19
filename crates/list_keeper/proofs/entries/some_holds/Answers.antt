use Rattle.std.proofs.Common.{ℕ, ◌<◌, Bool, true, false, List, length, get_or, Contains, Decides, MatchBool, arith, rules, tests}
use Rattle.std.specs.List.{HoldsAt, AllWithin}
use Rattle.std.proofs.lemmas.List.Elements.{Contains-get_or}
use Rattle.std.proofs.lemmas.Iterator.{cases_from_any, YieldsList-from_slice}
use Rattle.coverage.proofs.Searching.{decides_yes, decides_no}
use Rattle.domain.specs.Masks.{In}
use Rattle.domain.specs.Groups.{Share}
use Rattle.list_keeper.proofs.entries.some_holds.Goals as goal

-- some place has a group that holds both, or none has
from_places : (r : Bool) (gs : List ℕ) (p q : ℕ)
    → MatchBool r ((k : ℕ) × (k < length gs) × HoldsAt (λ g. In p g × In q g) gs k) (AllWithin (λ g. In p g × In q g → ⊥) gs 0 (length gs))
    → Decides r (Share (Contains gs) p q)
from_places true gs p q h =
    decides_yes (record { group = get_or gs h.0 0; told = Contains-get_or gs h.0 0 h.1; left = (h.2 0).0; right = (h.2 0).1 })
from_places false gs p q h =
    decides_no (λ s. let at = s.told in h at.0 s.group (omega arith) at.1 (rw at.2 (s.left, s.right)))

pub returns : goal.returns
returns c =
    let gs = c.args.groups.now in
    let p = c.args.p in
    let q = c.args.q in
    from_places _ gs p q
    (cases_from_any _ _ _ (λ g. In p g × In q g) (λ g. In p g × In q g → ⊥) c.any.ensures.ran (YieldsList-from_slice gs cc)
    (λ x f k. search (rules, tests)) (λ x f k. search (rules, tests)))
