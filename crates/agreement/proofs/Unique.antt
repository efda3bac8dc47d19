-- There is a reckoned description, and only one.
use Rattle.std.proofs.Common.{◌≡◌, ℕ, ◌⊎◌, List, [], ◌∷◌, Some, None, Option, sym, refl, ◌∙◌, subst, inl, inr}
use Rattle.std.proofs.lemmas.Option.{none-some}
use Rattle.coverage.proofs.ChangeLaws.{change_made, one_made, one_new}
use Rattle.coverage.proofs.ExistsFit.{fits_or_not}
use Rattle.coverage.proofs.ExistsSteps.{new_made}
use Rattle.domain.proofs.Opening.{new_lawful}
use Rattle.domain.specs.Changes.{Makes}
use Rattle.domain.specs.Coverage.{CoreFits}
use Rattle.domain.specs.Told.{Told, Group, Lawful}
use Rattle.domain.specs.declared.refusal.Refusal.{Refusal}
use Rattle.keeper.specs.Calls.{change_refusal}
use Rattle.agreement.proofs.Loans.{reckoned_with}
use Rattle.agreement.proofs.Rules.{reckons_lawful, made_lawful}
use Rattle.agreement.specs.Laws.{OneReckoned}
use Rattle.agreement.specs.Reckoning as reckoning
use Rattle.agreement.specs.Reckoning.{TakesEffect, refused, exceeds, makes, Reckons, ReckonsBy, ReckonsAll, Reckoned}
use Rattle.agreement.specs.Sessions.{Call}
use Rattle.agreement.specs.declared.call.KeeperCall.{KeeperCall}
use Rattle.agreement.specs.declared.call.KeeperCall.TheVariants.{Change, Ask, WriteOut}

-- a change has something reckoned of it, where its rule has a result that fits or does not
effect_some : (k : ℕ) (o : Option Refusal) (Rule : Told → Type 0) (d : Told)
    → (o ≡ None → (e : Told) × Rule e × (CoreFits (Group e) k ⊎ (CoreFits (Group e) k → ⊥))) → (e : Told) × TakesEffect k o Rule d e
effect_some k (Some r) Rule d made = (d, refused refl)
effect_some k None Rule d made =
    let m = made refl in
    elim m.2 [ inl fits ↦ (m.0, makes refl m.1 fits) | inr none ↦ (d, exceeds refl m.1 none) ]

effect_one : (k : ℕ) (o : Option Refusal) (Rule : Told → Type 0) (d e e' : Told) → ((u v : Told) → Rule u → Rule v → u ≡ v)
    → TakesEffect k o Rule d e → TakesEffect k o Rule d e' → e ≡ e'
effect_one k o Rule d e e' one (refused p) (refused q) = refl
effect_one k o Rule d e e' one (refused p) (exceeds q r n) = refl
effect_one k o Rule d e e' one (refused p) (makes q r f) = absurd (none-some _ (sym q ∙ p))
effect_one k o Rule d e e' one (exceeds p r n) (refused q) = refl
effect_one k o Rule d e e' one (exceeds p r n) (exceeds q s m) = refl
effect_one k o Rule d e e' one (exceeds {e = u} p r n) (makes q s f) = absurd (n (subst (λ (x : Told). CoreFits (Group x) k) (one e' u s r) f))
effect_one k o Rule d e e' one (makes p r f) (refused q) = absurd (none-some _ (sym p ∙ q))
effect_one k o Rule d e e' one (makes p r f) (exceeds {e = v} q s m) = absurd (m (subst (λ (x : Told). CoreFits (Group x) k) (one e v r s) f))
effect_one k o Rule d e e' one (makes p r f) (makes q s g) = one e e' r s

reckons_some : (k s : ℕ) (c : KeeperCall (List ℕ)) (d : Told) → Lawful d → (e : Told) × ReckonsBy k s c d e
reckons_some k s (Change c) d law =
    effect_some k (change_refusal d c s) (Makes c d) d
    (λ q. let b = change_made c d law in (b.0, b.1, fits_or_not b.0 k (made_lawful c s d b.0 law q b.1)))
reckons_some k s (Ask q) d law = (d, refl)
reckons_some k s WriteOut d law = (d, refl)

reckons_one : (k s : ℕ) (c : KeeperCall (List ℕ)) (d e e' : Told) → ReckonsBy k s c d e → ReckonsBy k s c d e' → e ≡ e'
reckons_one k s (Change c) d e e' h g = effect_one k _ _ d e e' (λ u v. one_made c d) h g
reckons_one k s (Ask q) d e e' h g = h ∙ sym g
reckons_one k s WriteOut d e e' h g = h ∙ sym g

all_some : (k : ℕ) (cs : List Call) (d : Told) → Lawful d → (e : Told) × ReckonsAll k cs d e
all_some k [] d law = (d, reckoning.done)
all_some k (c ∷ cs) d law =
    let one = reckons_some k c.scratch c.call d law in
    let rest = all_some k cs one.0 (reckons_lawful k c.scratch c.call d one.0 law one.1) in
    (rest.0, reckoning.calls one.1 rest.1)

all_one : (k : ℕ) (cs : List Call) (d d' e e' : Told) → d ≡ d' → ReckonsAll k cs d e → ReckonsAll k cs d' e' → e ≡ e'
all_one k [] d d' e e' same reckoning.done reckoning.done = same
all_one k (c ∷ cs) d d' e e' same (reckoning.calls {e = m} h hs) (reckoning.calls {e = m'} g gs) =
    all_one k cs m m' e e' (reckons_one k c.scratch c.call d m m' h (subst (λ (x : Told). Reckons k c x m') (sym same) g)) hs gs

pub one_reckoned : OneReckoned
one_reckoned =
    record {
      some = λ n k cs opened.
          let new = new_made n in
          let all = all_some k cs new.0 (new_lawful opened.0 opened.1 new.1) in
          (all.0, record { opened = opened; start = new.0; new = new.1; reckons = all.1 });
      one = λ n k cs d e r s. all_one k cs r.start s.start d e (one_new r.new s.new) r.reckons s.reckons;
      same = λ n k cs ds d alike r. reckoned_with n k cs ds alike r;
    }
