-- What is lent with a call that does not work in it does not matter.
use Rattle.std.proofs.Common.{◌≡◌, ℕ, List, [], ◌∷◌, refl, sym, subst}
use Rattle.domain.specs.Changes.{Makes}
use Rattle.domain.specs.Told.{Told}
use Rattle.keeper.specs.Calls.{ChangesBy, change_refusal}
use Rattle.agreement.specs.Reckoning as reckoning
use Rattle.agreement.specs.Reckoning.{TakesEffect, ReckonsBy, ReckonsAll, Reckoned}
use Rattle.agreement.specs.Sessions as sessions
use Rattle.agreement.specs.Sessions.{Call, Answer, CalledBy, Changed, Wrote, Session, SameLoan, SameCall, SameCalls}
use Rattle.agreement.specs.declared.call.KeeperCall.{KeeperCall}
use Rattle.agreement.specs.declared.call.KeeperCall.TheVariants.{Change, Ask, WriteOut}

reckons_with : (k z z' m m' : ℕ) (q : KeeperCall (List ℕ)) (d e : Told) → SameLoan q z z' m m' → ReckonsBy k z' q d e → ReckonsBy k z q d e
reckons_with k z z' m m' (Change c) d e s h = subst (λ (y : ℕ). TakesEffect k (change_refusal d c y) (Makes c d) d e) s h
reckons_with k z z' m m' (Ask q) d e s h = h
reckons_with k z z' m m' WriteOut d e s h = h

called_with : (k z z' m m' : ℕ) (q : KeeperCall (List ℕ)) (d : Told) (a : Answer) (e : Told) → SameLoan q z z' m m'
    → CalledBy k z' m' q d a e → CalledBy k z m q d a e
called_with k z z' m m' (Change c) d a e s h = subst (λ (y : ℕ). Changed (ChangesBy c k y d e) a) s h
called_with k z z' m m' (Ask q) d a e s h = h
called_with k z z' m m' WriteOut d a e s h = subst (λ (y : ℕ). Wrote y d a e) s h

reckons_all_with : (k : ℕ) (cs ds : List Call) {d e : Told} → SameCalls cs ds → ReckonsAll k ds d e → ReckonsAll k cs d e
reckons_all_with k [] [] s r = r
reckons_all_with k [] (f ∷ ds) s r = absurd s
reckons_all_with k (c ∷ cs) [] s r = absurd s
reckons_all_with k (c ∷ cs) (f ∷ ds) s (reckoning.calls {d = d} {e = e} one more) =
    reckoning.calls
    (reckons_with k c.scratch f.scratch c.room f.room c.call d e s.0.loan
    (subst (λ (q : KeeperCall (List ℕ)). ReckonsBy k f.scratch q d e) s.0.call one))
    (reckons_all_with k cs ds s.1 more)

-- the same calls reckon the same descriptions
pub reckoned_with : (n k : ℕ) (cs ds : List Call) {d : Told} → SameCalls cs ds → Reckoned n k ds d → Reckoned n k cs d
reckoned_with n k cs ds s r =
    record { opened = r.opened; start = r.start; new = r.new; reckons = reckons_all_with k cs ds s r.reckons }

-- and may be answered in the same way
pub session_with : (k : ℕ) (cs ds : List Call) {d e : Told} {those : List Answer} → SameCalls cs ds → Session k ds d those e → Session k cs d those e
session_with k [] [] s r = r
session_with k [] (f ∷ ds) s r = absurd s
session_with k (c ∷ cs) [] s r = absurd s
session_with k (c ∷ cs) (f ∷ ds) s (sessions.calls {d = d} {e = e} {a = a} one more) =
    sessions.calls
    (called_with k c.scratch f.scratch c.room f.room c.call d a e s.0.loan
    (subst (λ (q : KeeperCall (List ℕ)). CalledBy k f.scratch f.room q d a e) s.0.call one))
    (session_with k cs ds s.1 more)

loan_turned : (q : KeeperCall (List ℕ)) (z z' m m' : ℕ) → SameLoan q z z' m m' → SameLoan q z' z m' m
loan_turned (Change c) z z' m m' s = sym s
loan_turned (Ask q) z z' m m' s = tt
loan_turned WriteOut z z' m m' s = sym s

pub calls_turned : (cs ds : List Call) → SameCalls cs ds → SameCalls ds cs
calls_turned [] [] s = tt
calls_turned [] (f ∷ ds) s = absurd s
calls_turned (c ∷ cs) [] s = absurd s
calls_turned (c ∷ cs) (f ∷ ds) s = (
  record {
    call = sym s.0.call;
    loan =
        subst (λ (q : KeeperCall (List ℕ)). SameLoan q f.scratch c.scratch f.room c.room) (sym s.0.call)
        (loan_turned c.call c.scratch f.scratch c.room f.room s.0.loan);
  },
  calls_turned cs ds s.1,
)

loan_self : (q : KeeperCall (List ℕ)) (z m : ℕ) → SameLoan q z z m m
loan_self (Change c) z m = refl
loan_self (Ask q) z m = tt
loan_self WriteOut z m = refl

pub calls_self : (cs : List Call) → SameCalls cs cs
calls_self [] = tt
calls_self (c ∷ cs) = (record { call = refl; loan = loan_self c.call c.scratch c.room }, calls_self cs)
