-- Keepers with room that play one script write the same marks and end alike.
use Rattle.std.proofs.Common.{◌≡◌, ℕ, ◌≤◌, Bool, not, eqb, List, ◌∷◌, ◌++◌, length, Some, None, Ok, Err, Option, Result, sym, refl, ap, ◌∙◌, subst, inl, inr}
use Rattle.agreement.proofs.Agreeing.{alike_ends, fits_more}
use Rattle.agreement.proofs.Calls.{asks_same}
use Rattle.coverage.proofs.ChangeLaws.{change_alike}
use Rattle.coverage.proofs.CoreLeast.{core_fits}
use Rattle.coverage.proofs.Cover.{alike_refl, alike_turned, alike_trans}
use Rattle.coverage.proofs.Places.{new_alike}
use Rattle.domain.specs.Changes.{Makes, change_tests}
use Rattle.domain.specs.Coverage.{Alike}
use Rattle.domain.specs.Opening.{New}
use Rattle.domain.specs.Refusals.{first_of}
use Rattle.domain.specs.Requests.{open_tests, room_tests, ask_tests, pair_tests}
use Rattle.domain.specs.Groups.{IsGround, Share}
use Rattle.domain.specs.Told.{Told, Group, IsFree, IsLinear}
use Rattle.domain.specs.declared.change.Change as domain
use Rattle.domain.specs.declared.refusal.Refusal.{Refusal}
use Rattle.domain.specs.declared.refusal.Refusal.TheVariants.{Order, Capacity}
use Rattle.keeper.specs.Calls.{Changes, ChangesBy, Opens, Answers, Exactly, fault_of, open_refusal, change_refusal}
use Rattle.keeper.specs.Questions.{Asks}
use Rattle.keeper.specs.declared.fault.KeeperFault.{KeeperFault}
use Rattle.keeper.specs.declared.questions.Question.{Question}
use Rattle.keeper.specs.declared.questions.Question.TheVariants.{Ground, Free, Linear, Pair}
use Rattle.sheet.specs.declared.fault.RunnerFault.TheVariants.{Keeper}
use Rattle.sheet.specs.declared.fault.SheetFault.{SheetFault}
use Rattle.sheet.specs.declared.mark.StepMark.{StepMark}
use Rattle.sheet.specs.declared.steps.Step.{Step}
use Rattle.sheet.specs.declared.steps.Step.TheVariants.{Open, Change, Ask, End}
use Rattle.runner.proofs.Plays.{Agreed, plays_match}
use Rattle.runner.specs.Meaning.{Matched, HadRoom, SameEverywhere}
use Rattle.runner.specs.Playing.{Plays, Ran}
use Rattle.runner.specs.Running.{Script, script_of}
use Rattle.runner.specs.Serving.{Serves, accepted_of, change_on}
use Rattle.runner.specs.Settings.{Setting, Transition}

matched_ends : {d d' e e' : Told} → e ≡ d → e' ≡ d' → Matched d d' → Matched e e'
matched_ends p q (inl alike) = inl (alike_ends p q alike)
matched_ends p q (inr shut) = inr (ap (λ (x : Told). x.n) p ∙ shut.0, ap (λ (x : Told). x.n) q ∙ shut.1)

-- they have as many positions
positions_match : {d d' : Told} → Matched d d' → d'.n ≡ d.n
positions_match (inl alike) = sym alike.positions
positions_match (inr shut) = shut.1 ∙ sym shut.0

-- the result of a step is the same, or the smaller capacity refuses
abbrev Agree : {R : Type 0} → Result R KeeperFault → Result R KeeperFault → Told → Told → Type 0
Agree = Agreed Matched (λ f. f ≡ fault_of Capacity)

-- what leaves exactly what the rule gives leaves what is alike
exactly_alike : (o : Option Refusal) (capacity : ℕ) (Rule : Told → Type 0) (d after : Told) (r : Result (Unit {0}) KeeperFault)
    → Changes o capacity Rule Exactly d after r → Changes o capacity Rule Alike d after r
exactly_alike (Some e) k Rule d after r h = h
exactly_alike None k Rule d after (Ok u) h = (h.0, h.1, h.2, subst (λ (x : Told). Alike h.0 x) h.3 alike_refl)
exactly_alike None k Rule d after (Err f) h = h

-- a question of what is not open is out of order
shut_answer : (refusal : ℕ → Option Refusal) → refusal 0 ≡ Some Order → {n : ℕ} → n ≡ 0 → (P : Type 0) {r : Result Bool KeeperFault}
    → Answers (refusal n) P r → r ≡ Err (fault_of Order)
shut_answer refusal shut p P {r} h = subst (λ (x : Option Refusal). Answers x P r) (ap refusal p ∙ shut) h

asks_shut : (q : Question) (d : Told) → d.n ≡ 0 → (r : Result Bool KeeperFault) → Asks d q r → r ≡ Err (fault_of Order)
asks_shut (Ground p) d shut r h = shut_answer (λ n. first_of ((not (not (eqb n 0)), Order) ∷ ask_tests n p)) refl shut (IsGround d.n (Group d) p) h
asks_shut (Free p) d shut r h = shut_answer (λ n. first_of ((not (not (eqb n 0)), Order) ∷ ask_tests n p)) refl shut (IsFree d p) h
asks_shut (Linear p) d shut r h = shut_answer (λ n. first_of ((not (not (eqb n 0)), Order) ∷ ask_tests n p)) refl shut (IsLinear d p) h
asks_shut (Pair p q) d shut r h = shut_answer (λ n. first_of ((not (not (eqb n 0)), Order) ∷ pair_tests n p q)) refl shut (Share (Group d) p q) h

-- a change is refused by its number of positions alone
abbrev refusal_at : domain.Change (List ℕ) → (scratch positions : ℕ) → Option Refusal
refusal_at c scratch n = first_of ((not (not (eqb n 0)), Order) ∷ change_tests n c scratch)

module _ (small large : ℕ) (room : small ≤ large) (d d' : Told) (matched : Matched d d') where
  -- calls that are refused alike, and whose rules give alike descriptions
  changes_match : (Rule Rule' : Told → Type 0) → ((e e' : Told) → Rule e → Rule' e' → Alike e e')
      → (o : Option Refusal) (after after' : Told) (r r' : Result (Unit {0}) KeeperFault)
      → Changes o small Rule Alike d after r → Changes o large Rule' Alike d' after' r' → Agree r r' after after'
  changes_match Rule Rule' given (Some e) after after' r r' h h' = inl (h.0 ∙ sym h'.0, matched_ends h.1 h'.1 matched)
  changes_match Rule Rule' given None after after' (Ok u) (Ok u') h h' =
      inl (refl, inl (alike_trans (alike_turned h.3) (alike_trans (given h.0 h'.0 h.1 h'.1) h'.3)))
  changes_match Rule Rule' given None after after' (Ok u) (Err f) h h' =
      absurd (h'.2.2 (fits_more room (core_fits (given h.0 h'.2.0 h.1 h'.2.1) h.2)))
  changes_match Rule Rule' given None after after' (Err f) r' h h' = inr (f, refl, h.0)

  opens_match : (n scratch : ℕ) (after after' : Told) (r r' : Result (Unit {0}) KeeperFault)
      → Opens small n scratch d after r → Opens large n scratch d' after' r' → Agree r r' after after'
  opens_match n scratch after after' r r' h h' =
      let same : open_refusal d' n scratch ≡ open_refusal d n scratch
      = ap (λ (m : ℕ). first_of ((not (eqb m 0), Order) ∷ (open_tests n ++ room_tests n scratch))) (positions_match matched) in
      changes_match (New n) (New n) (λ e e'. new_alike) (open_refusal d n scratch) after after' r r'
      (exactly_alike (open_refusal d n scratch) small (New n) d after r h)
      (exactly_alike (open_refusal d n scratch) large (New n) d' after' r'
      (subst (λ (x : Option Refusal). Changes x large (New n) Exactly d' after' r') same h'))

  change_match : (c : domain.Change (List ℕ)) (scratch : ℕ) (after after' : Told) (r r' : Result (Unit {0}) KeeperFault)
      → ChangesBy c small scratch d after r → ChangesBy c large scratch d' after' r' → Agree r r' after after'
  change_match c scratch after after' r r' h h' = by matched
    where
      by : Matched d d' → Agree r r' after after'
      by (inl alike) =
          changes_match (Makes c d) (Makes c d') (λ e e'. change_alike c alike) (change_refusal d c scratch) after after' r r' h
          (subst (λ (n : ℕ). Changes (refusal_at c scratch n) large (Makes c d') Alike d' after' r') (sym alike.positions) h')
      by (inr shut) =
          let k = subst (λ (n : ℕ). Changes (refusal_at c scratch n) small (Makes c d) Alike d after r) shut.0 h in
          let k' = subst (λ (n : ℕ). Changes (refusal_at c scratch n) large (Makes c d') Alike d' after' r') shut.1 h' in
          inl (k.0 ∙ sym k'.0, matched_ends k.1 k'.1 matched)

  asks_match : (q : Question) (r r' : Result Bool KeeperFault) → Asks d q r → Asks d' q r' → r ≡ r'
  asks_match q r r' h h' = by matched
    where
      by : Matched d d' → r ≡ r'
      by (inl alike) = asks_same q d d' alike r r' h h'
      by (inr shut) = asks_shut q d shut.0 r h ∙ sym (asks_shut q d' shut.1 r' h')

-- what is answered of a call
accepted : {e e' : Told} (done done' : Result (Unit {0}) KeeperFault) (r r' : Result Bool KeeperFault)
    → r ≡ accepted_of done → r' ≡ accepted_of done' → Agree done done' e e' → Agree r r' e e'
accepted done done' r r' p q (inl same) = inl (p ∙ ap accepted_of same.0 ∙ sym q, same.1)
accepted done done' r r' p q (inr low) = inr (low.0, p ∙ ap accepted_of low.1, low.2)

-- two keepers play one script
module _ (s : Setting) (large : ℕ) (room : s.capacity ≤ large) where
  abbrev wide : Setting
  wide = record s { capacity = large }

  serves_match : (step : Step) (t t' : Transition) (r r' : Result Bool KeeperFault) → Matched t.before t'.before
      → Serves s step t r → Serves wide step t' r' → Agree r r' t.after t'.after
  serves_match (Open n) t t' r r' m h h' =
      accepted h.0 h'.0 r r' h.2 h'.2
      (opens_match s.capacity large room t.before t'.before m n s.scratch t.after t'.after h.0 h'.0 h.1 h'.1)
  serves_match (Change c) t t' r r' m h h' =
      accepted h.0 h'.0 r r' h.2 h'.2
      (change_match s.capacity large room t.before t'.before m (change_on s.sheet c) s.scratch t.after t'.after h.0 h'.0 h.1 h'.1)
  serves_match (Ask q) t t' r r' m h h' =
      inl (asks_match s.capacity large room t.before t'.before m q r r' h.0 h'.0, matched_ends h.1 h'.1 m)
  serves_match End t t' r r' m h h' = inl (h.0 ∙ sym h'.0, matched_ends h.1 h'.1 m)

  plays_everywhere : (script : Script) (k : ℕ) (d d' e e' : Told) (ms ms' : List StepMark) (r r' : Result ℕ SheetFault)
      → Matched d d' → HadRoom r
      → Plays (Serves s) script k d ms r e → Plays (Serves wide) script k d' ms' r' e'
      → (ms ≡ ms') × (r ≡ r') × Matched e e'
  plays_everywhere script k d d' e e' ms ms' r r' m enough =
      plays_match (Serves s) (Serves wide) Matched (λ f. f ≡ fault_of Capacity) serves_match script k d d' e e' ms ms' r r' m
      (λ f g p q low. enough g p (q ∙ ap (λ (x : KeeperFault). Keeper x) low))

pub ran_everywhere : (s : Setting) (t : Transition) (marks marks' : List StepMark) (r : Result ℕ SheetFault)
    → Ran s t marks marks' r → SameEverywhere s t marks marks' r
ran_everywhere s t marks marks' r one =
    record {
      written = one.written;
      marked = one.marked;
      same = λ shut enough larger u others others' r' more shut' long other.
          plays_everywhere s larger more (script_of s.sheet s.groups (length marks)) 0 t.before u.before t.after u.after
          one.written other.written r r' (inr (shut, shut')) enough one.played
          (subst (λ (k : ℕ). Plays (Serves (record s { capacity = larger })) (script_of s.sheet s.groups k) 0 u.before other.written r' u.after) long
          other.played);
    }
