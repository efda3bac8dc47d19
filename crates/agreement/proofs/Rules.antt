-- A reckoned description keeps the rules.
use Rattle.std.proofs.Common.{◌≡◌, ℕ, not, eqb, List, [], ◌∷◌, None, Option, sym, refl, ap, ◌∙◌, subst}
use Rattle.domain.proofs.ChangeLaws.{change_allowed, change_positions, change_lawful}
use Rattle.domain.proofs.Opening.{new_lawful}
use Rattle.domain.proofs.Refusing.{passed}
use Rattle.domain.specs.Changes.{Makes, change_tests}
use Rattle.domain.specs.Refusals.{first_of}
use Rattle.domain.specs.Told.{Told, Lawful}
use Rattle.domain.specs.declared.change.Change as domain
use Rattle.domain.specs.declared.refusal.Refusal.{Refusal}
use Rattle.domain.specs.declared.refusal.Refusal.TheVariants.{Order}
use Rattle.keeper.specs.Calls.{change_refusal}
use Rattle.agreement.specs.Reckoning as reckoning
use Rattle.agreement.specs.Reckoning.{TakesEffect, refused, exceeds, makes, ReckonsBy, ReckonsAll, Reckoned}
use Rattle.agreement.specs.Sessions.{Call}
use Rattle.agreement.specs.declared.call.KeeperCall.{KeeperCall}
use Rattle.agreement.specs.declared.call.KeeperCall.TheVariants.{Change, Ask, WriteOut}

-- what a change makes of a description that it is not refused on keeps the rules
pub made_lawful : (c : domain.Change (List ℕ)) (s : ℕ) (d e : Told) → Lawful d → change_refusal d c s ≡ None → Makes c d e → Lawful e
made_lawful c s d e law none made =
    change_lawful c d e (change_allowed d.n c s (passed (not (not (eqb d.n 0))) Order (first_of (change_tests d.n c s)) (sym none)).1).0 law made

-- what is reckoned of one call keeps the rules
effect_lawful : (capacity : ℕ) (o : Option Refusal) (Rule : Told → Type 0) (d e : Told) → Lawful d
    → (o ≡ None → Rule e → Lawful e) → TakesEffect capacity o Rule d e → Lawful e
effect_lawful k o Rule d e law made (refused q) = law
effect_lawful k o Rule d e law made (exceeds q r none) = law
effect_lawful k o Rule d e law made (makes q r fits) = made q r

moved : {d e : Told} → e ≡ d → Lawful d → Lawful e
moved p h = subst (λ (x : Told). Lawful x) (sym p) h

pub reckons_lawful : (capacity scratch : ℕ) (c : KeeperCall (List ℕ)) (d e : Told) → Lawful d → ReckonsBy capacity scratch c d e → Lawful e
reckons_lawful k s (Change c) d e law h = effect_lawful k _ _ d e law (made_lawful c s d e law) h
reckons_lawful k s (Ask q) d e law h = moved h law
reckons_lawful k s WriteOut d e law h = moved h law

all_lawful : (capacity : ℕ) (cs : List Call) (d e : Told) → Lawful d → ReckonsAll capacity cs d e → Lawful e
all_lawful k [] d e law reckoning.done = law
all_lawful k (c ∷ cs) d e law (reckoning.calls {e = m} h hs) = all_lawful k cs m e (reckons_lawful k c.scratch c.call d m law h) hs

pub reckoned_lawful : {n capacity : ℕ} {cs : List Call} {d : Told} → Reckoned n capacity cs d → Lawful d
reckoned_lawful {capacity = k} {cs = cs} {d = d} r =
    all_lawful k cs r.start d (new_lawful r.opened.0 r.opened.1 r.new) r.reckons

-- and has n positions
effect_positions : (capacity : ℕ) (o : Option Refusal) (Rule : Told → Type 0) (d e : Told)
    → (Rule e → e.n ≡ d.n) → TakesEffect capacity o Rule d e → e.n ≡ d.n
effect_positions k o Rule d e made (refused q) = refl
effect_positions k o Rule d e made (exceeds q r none) = refl
effect_positions k o Rule d e made (makes q r fits) = made r

reckons_positions : (capacity scratch : ℕ) (c : KeeperCall (List ℕ)) (d e : Told) → ReckonsBy capacity scratch c d e → e.n ≡ d.n
reckons_positions k s (Change c) d e h = effect_positions k _ _ d e (change_positions c d e) h
reckons_positions k s (Ask q) d e h = ap (λ (x : Told). x.n) h
reckons_positions k s WriteOut d e h = ap (λ (x : Told). x.n) h

all_positions : (capacity : ℕ) (cs : List Call) (d e : Told) → ReckonsAll capacity cs d e → e.n ≡ d.n
all_positions k [] d e reckoning.done = refl
all_positions k (c ∷ cs) d e (reckoning.calls {e = m} h hs) = all_positions k cs m e hs ∙ reckons_positions k c.scratch c.call d m h

pub reckoned_positions : {n capacity : ℕ} {cs : List Call} {d : Told} → Reckoned n capacity cs d → d.n ≡ n
reckoned_positions {capacity = k} {cs = cs} {d = d} r = all_positions k cs r.start d r.reckons ∙ r.new.positions
