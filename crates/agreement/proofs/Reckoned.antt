-- What a keeper tells is alike with its reckoned description.
use Rattle.std.proofs.Common.{ℕ, not, eqb, List, [], ◌∷◌, Some, None, Ok, Err, Option, Result, sym, refl, subst}
use Rattle.std.proofs.lemmas.Option.{none-some}
use Rattle.coverage.proofs.ChangeLaws.{change_alike}
use Rattle.coverage.proofs.CoreLeast.{core_fits}
use Rattle.coverage.proofs.Cover.{alike_turned, alike_trans}
use Rattle.coverage.proofs.Places.{new_alike}
use Rattle.domain.specs.Changes.{Makes, change_tests}
use Rattle.domain.specs.Coverage.{Alike}
use Rattle.domain.specs.Refusals.{first_of}
use Rattle.domain.specs.Told.{Told}
use Rattle.domain.specs.declared.refusal.Refusal.{Refusal}
use Rattle.domain.specs.declared.refusal.Refusal.TheVariants.{Order}
use Rattle.keeper.specs.Calls.{Changes}
use Rattle.keeper.specs.declared.fault.KeeperFault.{KeeperFault}
use Rattle.agreement.proofs.Agreeing.{alike_ends}
use Rattle.agreement.specs.Reckoning as reckoning
use Rattle.agreement.specs.Reckoning.{TakesEffect, refused, exceeds, makes, ReckonsBy, ReckonsAll, Reckoned, Given}
use Rattle.agreement.specs.Sessions.{Call, Answer, CalledBy, Session, done, calls}
use Rattle.agreement.specs.declared.call.KeeperCall.{KeeperCall}
use Rattle.agreement.specs.declared.call.KeeperCall.TheVariants.{Change, Ask, WriteOut}

-- what is reckoned of a change, and what is told after it
change_reckoned : (capacity : ℕ) (o : Option Refusal) (Rule Rule' : Told → Type 0) → ((e e' : Told) → Rule e → Rule' e' → Alike e e')
    → (d t e u : Told) (r : Result (Unit {0}) KeeperFault) → Alike d t
    → TakesEffect capacity o Rule d e → Changes o capacity Rule' Alike t u r → Alike e u
change_reckoned k (Some x) Rule Rule' given d t e u r alike (refused q) h = alike_ends refl h.1 alike
change_reckoned k (Some x) Rule Rule' given d t e u r alike (exceeds q rule none) h = absurd (none-some x (sym q))
change_reckoned k (Some x) Rule Rule' given d t e u r alike (makes q rule fits) h = absurd (none-some x (sym q))
change_reckoned k None Rule Rule' given d t e u r alike (refused q) h = absurd (none-some _ q)
change_reckoned k None Rule Rule' given d t e u (Ok x) alike (exceeds {e = m} q rule none) h =
    absurd (none (core_fits (alike_turned (given m h.0 rule h.1)) h.2))
change_reckoned k None Rule Rule' given d t e u (Err f) alike (exceeds q rule none) h = alike_ends refl h.1 alike
change_reckoned k None Rule Rule' given d t e u (Ok x) alike (makes q rule fits) h = alike_trans (given e h.0 rule h.1) h.3
change_reckoned k None Rule Rule' given d t e u (Err f) alike (makes q rule fits) h =
    absurd (h.2.2 (core_fits (given e h.2.0 rule h.2.1) fits))

pub reckons_told : (capacity scratch room : ℕ) (c : KeeperCall (List ℕ)) (d e t u : Told) (a : Answer) → Alike d t
    → ReckonsBy capacity scratch c d e → CalledBy capacity scratch room c t a u → Alike e u
reckons_told k s room (Change c) d e t u a alike h g =
    -- the tests look at the number of positions alone
    let refusal : ℕ → Option Refusal = λ n. first_of ((not (not (eqb n 0)), Order) ∷ change_tests n c s) in
    change_reckoned k (refusal d.n) (Makes c d) (Makes c t) (λ v w. change_alike c alike) d t e u g.result alike h
    (subst (λ (n : ℕ). Changes (refusal n) k (Makes c t) Alike t u g.result) (sym alike.positions) g.promise)
reckons_told k s room (Ask q) d e t u a alike h g = alike_ends h g.same alike
reckons_told k s room WriteOut d e t u a alike h g = alike_ends h g.same alike

all_told : (capacity : ℕ) (cs : List Call) (d e t u : Told) (these : List Answer) → Alike d t
    → ReckonsAll capacity cs d e → Session capacity cs t these u → Alike e u
all_told k [] d e t u these alike reckoning.done done = alike
all_told k (c ∷ cs) d e t u these alike (reckoning.calls {e = m} h hs) (calls {e = m'} {a = a} {more = more} g gs) =
    all_told k cs m e m' u more (reckons_told k c.scratch c.room c.call d m t m' a alike h g) hs gs

-- what is told is alike with what is reckoned
pub reckoned_told : {n capacity : ℕ} {cs : List Call} {d t : Told} → Reckoned n capacity cs d → Given n capacity cs t → Alike d t
reckoned_told {capacity = k} {cs = cs} {d = d} {t = t} r g =
    all_told k cs r.start d g.start t g.answers (new_alike r.new g.new) r.reckons g.session
