-- Calls run on a computed description: what is reckoned of them, and what every keeper answers.
use Rattle.std.proofs.Common.{◌≡◌, ℕ, Bool, true, false, not, ◌&&◌, leb, ◌≤◌, List, [], ◌∷◌, length, Some, None, Ok, Err, Option, sym, refl, ap, ◌∙◌, arith}
use Rattle.std.proofs.lemmas.Bool.{le-leb, leb-true, leb-false, and_parts, both_ways}
use Rattle.agreement.proofs.Rules.{made_lawful, reckons_lawful}
use Rattle.agreement.specs.Reckoning as reckoning
use Rattle.agreement.specs.Reckoning.{TakesEffect, refused, exceeds, makes, ReckonsBy, ReckonsAll}
use Rattle.agreement.specs.Sessions as sessions
use Rattle.agreement.specs.Sessions.{Call, Answer, accepted, Changed, CalledBy, Session}
use Rattle.agreement.specs.declared.call.KeeperCall.{KeeperCall}
use Rattle.agreement.specs.declared.call.KeeperCall.TheVariants.{Change, Ask, WriteOut}
use Rattle.coverage.proofs.Counting.{count_fits, fits_count, list_counted}
use Rattle.coverage.proofs.Cover.{alike_refl}
use Rattle.domain.proofs.ChangeLaws.{change_allowed}
use Rattle.domain.proofs.Refusing.{passed, bind_allowed}
use Rattle.domain.specs.Changes.{Makes, change_tests}
use Rattle.domain.specs.Coverage.{Alike, CoreFits, CoreList}
use Rattle.domain.specs.Refusals.{first_of}
use Rattle.domain.specs.Told.{Told, Group, Lawful}
use Rattle.domain.specs.declared.change.Change as domain
use Rattle.domain.specs.declared.change.Change.TheVariants.{Bind, Join, Forget}
use Rattle.domain.specs.declared.refusal.Refusal.{Refusal}
use Rattle.domain.specs.declared.refusal.Refusal.TheVariants.{Order, Capacity}
use Rattle.keeper.specs.Calls.{Changes, fault_of, opened, change_refusal}
use Rattle.worked.proofs.BindGroups.{lists_told}
use Rattle.worked.proofs.Binds.{bound}
use Rattle.worked.proofs.CoreLists.{core_list}
use Rattle.worked.proofs.States.{State, tell, change_of, core_of}
use Rattle.worked.proofs.Steps as steps

-- ---- one change

-- a state, and the answer that came with it
pub record Outcome : Type 0 where
  pub state : State
  pub answer : Answer

abbrev taken : Bool → State → State → Outcome
taken true e s = record { state = e; answer = accepted }
taken false e s = record { state = s; answer = sessions.refused Capacity }

unfoldable pub changed : ℕ → Option Refusal → State → State → Outcome
changed k (Some r) e s = record { state = s; answer = sessions.refused r }
changed k None e s = taken (leb (length (core_of e.n e.groups)) k) e s

-- what is reckoned of a change, and what a keeper does
record Made (k : ℕ) (o : Option Refusal) (Rule : Told → Type 0) (s : State) (r : Outcome) : Type 0 where
  reckons : TakesEffect k o Rule (tell s) (tell r.state)
  called : Changed (Changes o k Rule Alike (tell s) (tell r.state)) r.answer

pub core_told : (s : State) → Lawful (tell s) → CoreList (Group (tell s)) (core_of s.n s.groups)
core_told s law = core_list (lists_told s) s.n (λ g k. (law.in_range g k).1)

taken_made : {k : ℕ} {Rule : Told → Type 0} (b : Bool) (e s : State) → Rule (tell e) → (b ≡ true → CoreFits (Group (tell e)) k)
    → (b ≡ false → CoreFits (Group (tell e)) k → ⊥) → Made k None Rule s (taken b e s)
taken_made true e s rule fits none =
    record {
      reckons = makes refl rule (fits refl);
      called = record { result = Ok tt; promise = (tell e, rule, fits refl, alike_refl); answer = refl };
    }
taken_made false e s rule fits none =
    record {
      reckons = exceeds refl rule (none refl);
      called = record { result = Err (fault_of Capacity); promise = (refl, refl, (tell e, rule, none refl)); answer = refl };
    }

change_computed : {k : ℕ} {Rule : Told → Type 0} (o : Option Refusal) (e s : State) → (o ≡ None → Rule (tell e) × Lawful (tell e))
    → Made k o Rule s (changed k o e s)
unfolding changed
change_computed (Some r) e s f = record { reckons = refused refl; called = record { result = Err (fault_of r); promise = (refl, refl); answer = refl } }
change_computed {k} None e s f =
    let r = f refl in
    let c = list_counted (core_told e r.1) in
    let size = length (core_of e.n e.groups) in
    taken_made (leb size k) e s r.0 (λ b. count_fits c (leb-true size k b)) (λ b fits. omega (arith, fits_count c fits, leb-false size k b))

-- ---- one call

abbrev pub is_change : KeeperCall (List ℕ) → Bool
is_change (Change c) = true
is_change (Ask q) = false
is_change WriteOut = false

-- questions and write-outs leave the state; their answers are not computed
unfoldable pub called_on : (k scratch : ℕ) → KeeperCall (List ℕ) → State → Outcome
called_on k z (Change c) s = changed k (change_refusal (tell s) c z) (change_of c s) s
called_on k z (Ask q) s = record { state = s; answer = accepted }
called_on k z WriteOut s = record { state = s; answer = accepted }

record Done (k z room : ℕ) (c : KeeperCall (List ℕ)) (s : State) (r : Outcome) : Type 0 where
  reckons : ReckonsBy k z c (tell s) (tell r.state)
  called : CalledBy k z room c (tell s) r.answer (tell r.state)

-- the computed change is the change of the rules, where its tests let it pass
change_rule : (c : domain.Change (List ℕ)) (s : State) (z : ℕ) → None ≡ first_of (change_tests s.n c z) → Makes c (tell s) (tell (change_of c s))
unfolding change_of
change_rule (Bind x t) s z none = let r = bind_allowed s.n x t z none in bound s x t r.1.0 r.1.1.0
change_rule (Join other) s z none = steps.join s other
change_rule (Forget m) s z none = steps.forget s m (change_allowed s.n (Forget m) z none).0

call_done : (k z room : ℕ) (c : KeeperCall (List ℕ)) (s : State) → is_change c ≡ true → Lawful (tell s) → Done k z room c s (called_on k z c s)
unfolding called_on
call_done k z room (Change c) s b law =
    let rule : (change_refusal (tell s) c z ≡ None) → Makes c (tell s) (tell (change_of c s)) × Lawful (tell (change_of c s)) =
    λ q.
    let made = change_rule c s z (passed (not (opened (tell s))) Order (first_of (change_tests s.n c z)) (sym q)).1 in
    (made, made_lawful c z (tell s) (tell (change_of c s)) law q made) in
    let m = change_computed {k = k} {Rule = Makes c (tell s)} (change_refusal (tell s) c z) (change_of c s) s rule in
    record { reckons = m.reckons; called = m.called }
call_done k z room (Ask q) s b law = absurd (both_ways false refl b)
call_done k z room WriteOut s b law = absurd (both_ways false refl b)

-- ---- a list of calls

abbrev pub all_change : List Call → Bool
all_change [] = true
all_change (c ∷ cs) = is_change c.call && all_change cs

unfoldable pub state_after : ℕ → List Call → State → State
state_after k [] s = s
state_after k (c ∷ cs) s = state_after k cs (called_on k c.scratch c.call s).state

unfoldable pub answers_of : ℕ → List Call → State → List Answer
answers_of k [] s = []
answers_of k (c ∷ cs) s = let r = called_on k c.scratch c.call s in r.answer ∷ answers_of k cs r.state

-- ---- more room

abbrev is_accepted : Answer → Bool
is_accepted accepted = true
is_accepted (sessions.says b) = false
is_accepted (sessions.refused r) = false
is_accepted (sessions.wrote n m gs) = false

abbrev pub are_accepted : List Answer → Bool
are_accepted [] = true
are_accepted (a ∷ as') = is_accepted a && are_accepted as'

-- a change that is accepted is so with more room, and comes to the same
changed_larger : (j k : ℕ) → j ≤ k → (o : Option Refusal) (e s : State) → is_accepted (changed j o e s).answer ≡ true → changed k o e s ≡ changed j o e s
unfolding changed
changed_larger j k h (Some r) e s a = refl
changed_larger j k h None e s a = go (leb (length (core_of e.n e.groups)) j) refl a
  where
    go : (b : Bool) → leb (length (core_of e.n e.groups)) j ≡ b → is_accepted (taken b e s).answer ≡ true
        → taken (leb (length (core_of e.n e.groups)) k) e s ≡ taken b e s
    go true q a = ap (λ (b : Bool). taken b e s) (le-leb (length (core_of e.n e.groups)) k (omega (arith, leb-true (length (core_of e.n e.groups)) j q)))
    go false q a = absurd (both_ways false refl a)

called_larger : (j k z : ℕ) → j ≤ k → (c : KeeperCall (List ℕ)) (s : State) → is_accepted (called_on j z c s).answer ≡ true → called_on k z c s ≡ called_on j z c s
unfolding called_on
called_larger j k z h (Change c) s a = changed_larger j k h (change_refusal (tell s) c z) (change_of c s) s a
called_larger j k z h (Ask q) s a = refl
called_larger j k z h WriteOut s a = refl

pub all_larger : (j k : ℕ) → j ≤ k → (cs : List Call) (s : State) → are_accepted (answers_of j cs s) ≡ true
    → (state_after k cs s ≡ state_after j cs s) × (answers_of k cs s ≡ answers_of j cs s)
unfolding state_after answers_of
all_larger j k h [] s a = (refl, refl)
all_larger j k h (c ∷ cs) s a =
    let p = and_parts (is_accepted (called_on j c.scratch c.call s).answer) (are_accepted (answers_of j cs (called_on j c.scratch c.call s).state)) a in
    let one = called_larger j k c.scratch h c.call s p.0 in
    let rest = all_larger j k h cs (called_on j c.scratch c.call s).state p.1 in (
      ap (λ (r : Outcome). state_after k cs r.state) one ∙ rest.0,
      ap (λ (r : Outcome). r.answer ∷ answers_of k cs r.state) one ∙ ap (λ (as' : List Answer). (called_on j c.scratch c.call s).answer ∷ as') rest.1,
    )

pub record Ran (k : ℕ) (cs : List Call) (s : State) : Type 0 where
  pub reckons : ReckonsAll k cs (tell s) (tell (state_after k cs s))
  pub session : Session k cs (tell s) (answers_of k cs s) (tell (state_after k cs s))
  pub lawful : Lawful (tell (state_after k cs s))

pub ran : (k : ℕ) (cs : List Call) (s : State) → all_change cs ≡ true → Lawful (tell s) → Ran k cs s
unfolding state_after answers_of
ran k [] s b law = record { reckons = reckoning.done; session = sessions.done; lawful = law }
ran k (c ∷ cs) s b law =
    let p = and_parts (is_change c.call) (all_change cs) b in
    let d = call_done k c.scratch c.room c.call s p.0 law in
    let e = (called_on k c.scratch c.call s).state in
    let rest = ran k cs e p.1 (reckons_lawful k c.scratch c.call (tell s) (tell e) law d.reckons) in
    record { reckons = reckoning.calls d.reckons rest.reckons; session = sessions.calls d.called rest.session; lawful = rest.lawful }
