-- What the rules make of a script: something, only one thing, and what a keeper with the most room makes of it.
use Rattle.std.proofs.Common.{◌≡◌, ℕ, ◌+◌, ◌^◌, ◌≤◌, Bool, true, false, not, ◌||◌, eqb, ltb, List, [], ◌∷◌, ◌++◌, length, drop, Some, None, Ok, Err, Option, Result, sym, refl, ◌∙◌, subst, inl, arith}
use Rattle.std.proofs.lemmas.Bool.{eqb-false, ltb-false, or_parts, not-false, not-true}
use Rattle.agreement.proofs.Agreeing.{fits_more}
use Rattle.agreement.proofs.Calls.{asks_same}
use Rattle.agreement.proofs.Rules.{made_lawful}
use Rattle.coverage.proofs.ChangeLaws.{change_made, one_made, one_new}
use Rattle.coverage.proofs.CoreLeast.{dec_group}
use Rattle.coverage.proofs.Cover.{alike_refl}
use Rattle.coverage.proofs.DecidedTerms.{dec_ground, dec_share}
use Rattle.coverage.proofs.ExistsSteps.{new_made}
use Rattle.coverage.proofs.MostGroups.{most_fit}
use Rattle.coverage.proofs.Searching.{decides_yes, decides_no, dec_in}
use Rattle.domain.proofs.Opening.{new_lawful}
use Rattle.domain.proofs.Refusing.{passed}
use Rattle.domain.specs.Changes.{Makes, change_tests}
use Rattle.domain.specs.Coverage.{Alike}
use Rattle.domain.specs.Groups.{IsGround, Share}
use Rattle.domain.specs.Opening.{New}
use Rattle.domain.specs.Refusals.{pick, first_of}
use Rattle.domain.specs.Requests.{open_tests, room_tests, ask_tests, pair_tests}
use Rattle.domain.specs.Told.{Told, Group, IsFree, IsLinear, Lawful}
use Rattle.domain.specs.declared.change.Change as domain
use Rattle.domain.specs.declared.limits.TheConstants.{MOST_GROUPS, MOST_POSITIONS}
use Rattle.domain.specs.declared.refusal.Refusal.{Refusal}
use Rattle.domain.specs.declared.refusal.Refusal.TheVariants.{Order, Count}
use Rattle.keeper.specs.Calls.{Changes, Answers, Exactly, fault_of, opened, unopened, open_refusal, change_refusal, ask_refusal, pair_refusal}
use Rattle.keeper.specs.Questions.{Asks}
use Rattle.keeper.specs.declared.fault.KeeperFault.{KeeperFault}
use Rattle.keeper.specs.declared.questions.Question.{Question}
use Rattle.keeper.specs.declared.questions.Question.TheVariants.{Ground, Free, Linear, Pair}
use Rattle.sheet.specs.Faults.{fault_at}
use Rattle.sheet.specs.declared.fault.RunnerFault.TheVariants.{Keeper}
use Rattle.sheet.specs.declared.fault.SheetFault.{SheetFault}
use Rattle.sheet.specs.declared.mark.StepMark.{StepMark}
use Rattle.sheet.specs.declared.steps.Step.{Step}
use Rattle.sheet.specs.declared.steps.Step.TheVariants.{Open, Change, Ask, End}
use Rattle.runner.proofs.Meanings.{ran_everywhere}
use Rattle.runner.proofs.Plays.{Agreed, plays_match}
use Rattle.runner.specs.Meaning.{SettledBy, Settles, Meaning, OneMeaning, AsMeant}
use Rattle.runner.specs.Playing.{Plays, ends, breaks, stops, goes, Ran, mark_of}
use Rattle.runner.specs.Running.{Script, finished, broken, follows, script_of}
use Rattle.runner.specs.Serving.{Serves, accepted_of, change_on}
use Rattle.runner.specs.Settings.{Setting, Transition}

-- a description that is there keeps the rules
abbrev Sound : Told → Type 0
Sound d = (d.n ≡ 0 → ⊥) → Lawful d

kept : {d e : Told} → e ≡ d → Sound d → Sound e
kept p h = subst Sound (sym p) h

-- where a call is not out of order, there is one
there_is : (d : Told) (later : Option Refusal) → Sound d → pick (not (opened d)) Order later ≡ None → Lawful d
there_is d later sound none = sound (eqb-false d.n 0 (not-true _ (not-false _ (passed (not (opened d)) Order later (sym none)).0)))

opens_lawful : (n scratch : ℕ) (d e : Told) → open_refusal d n scratch ≡ None → New n e → Lawful e
opens_lawful n scratch d e none new =
    let later = first_of (open_tests n ++ room_tests n scratch) in
    let count = (passed (eqb n 0 || ltb MOST_POSITIONS n) Count (first_of (room_tests n scratch)) (passed (opened d) Order later (sym none)).1).0 in
    let tests = or_parts (eqb n 0) (ltb MOST_POSITIONS n) count in
    new_lawful (omega (arith, eqb-false n 0 tests.0)) (ltb-false MOST_POSITIONS n tests.1) new

changes_lawful : (c : domain.Change (List ℕ)) (scratch : ℕ) (d e : Told) → Sound d → change_refusal d c scratch ≡ None → Makes c d e → Lawful e
changes_lawful c scratch d e sound none made = made_lawful c scratch d e (there_is d (first_of (change_tests d.n c scratch)) sound none) none made

-- ---- a keeper with the most room does what the rules make of a step

module _ (capacity : ℕ) (most : MOST_GROUPS ≤ capacity) where
  settled_changes : (o : Option Refusal) (Rule : Told → Type 0) (Left : Told → Told → Type 0) (t : Transition) (r : Result Bool KeeperFault)
      → Left t.after t.after → (o ≡ None → Rule t.after → Lawful t.after) → Sound t.before → SettledBy o Rule t r
      → ((done : Result (Unit {0}) KeeperFault) × Changes o capacity Rule Left t.before t.after done × (r ≡ accepted_of done)) × Sound t.after
  settled_changes (Some e) Rule Left t r own lawful sound h = ((Err (fault_of e), (refl, h.1), h.0), kept h.1 sound)
  settled_changes None Rule Left t r own lawful sound h =
      let law = lawful refl h.1 in
      ((Ok tt, (t.after, h.1, fits_more most (most_fit t.after law), own), h.0), λ some. law)

module _ (s : Setting) (most : MOST_GROUPS ≤ s.capacity) where
  settles_served : (step : Step) (t : Transition) (r : Result Bool KeeperFault) → Sound t.before
      → Settles s.scratch s.sheet step t r → Serves s step t r × Sound t.after
  settles_served (Open n) t r sound h =
      settled_changes s.capacity most (open_refusal t.before n s.scratch) (New n) Exactly t r refl (opens_lawful n s.scratch t.before t.after) sound h
  settles_served (Change c) t r sound h =
      settled_changes s.capacity most (change_refusal t.before (change_on s.sheet c) s.scratch) (Makes (change_on s.sheet c) t.before) Alike t r alike_refl
      (changes_lawful (change_on s.sheet c) s.scratch t.before t.after sound) sound h
  settles_served (Ask q) t r sound h = (h, kept h.1 sound)
  settles_served End t r sound h = (h, kept h.1 sound)

  plays_served : (script : Script) (k : ℕ) (d e : Told) (ms : List StepMark) (r : Result ℕ SheetFault) → Sound d
      → Plays (Settles s.scratch s.sheet) script k d ms r e → Plays (Serves s) script k d ms r e
  plays_served finished k d e ms r sound ends = ends
  plays_served (broken place f) k d e ms r sound breaks = breaks
  plays_served (follows place step rest) k d e ms r sound (stops {f = f} h) =
      stops (settles_served step (record { before = d; after = e }) (Err f) sound h).0
  plays_served (follows place step rest) k d e ms r sound (goes {e = i} {b = b} {marks = us} h p) =
      let one = settles_served step (record { before = d; after = i }) (Ok b) sound h in
      goes one.0 (plays_served rest (k + 1) i e us r one.1 p)

-- ---- the rules make something of each step

settled_some : (o : Option Refusal) (Rule : Told → Type 0) (d : Told) → (o ≡ None → (e : Told) × Rule e)
    → (e : Told) × (r : Result Bool KeeperFault) × SettledBy o Rule (record { before = d; after = e }) r
settled_some (Some x) Rule d made = (d, Err (fault_of x), (refl, refl))
settled_some None Rule d made = let m = made refl in (m.0, Ok true, (refl, m.1))

answers_some : (o : Option Refusal) (P : Type 0) → (o ≡ None → Dec P) → (r : Result Bool KeeperFault) × Answers o P r
answers_some (Some e) P dec = (Err (fault_of e), refl)
answers_some None P dec = elim (dec refl) [ yes p ↦ (Ok true, decides_yes p) | no n ↦ (Ok false, decides_no n) ]

asks_some : (q : Question) (d : Told) → Sound d → (r : Result Bool KeeperFault) × Asks d q r
asks_some (Ground p) d sound =
    answers_some (ask_refusal d p) (IsGround d.n (Group d) p)
    (λ none. dec_ground (dec_group d) (2 ^ d.n) (λ g h. ((there_is d (first_of (ask_tests d.n p)) sound none).in_range g h).1) d.n p)
asks_some (Free p) d sound = answers_some (ask_refusal d p) (IsFree d p) (λ none. dec_in p d.marks.free)
asks_some (Linear p) d sound = answers_some (ask_refusal d p) (IsLinear d p) (λ none. dec_in p d.marks.linear)
asks_some (Pair p q) d sound =
    answers_some (pair_refusal d p q) (Share (Group d) p q)
    (λ none. dec_share (dec_group d) (2 ^ d.n) (λ g h. ((there_is d (first_of (pair_tests d.n p q)) sound none).in_range g h).1) p q)

module _ (scratch : ℕ) (sheet : List ℕ) where
  settles_some : (step : Step) (d : Told) → Sound d
      → (e : Told) × (r : Result Bool KeeperFault) × Settles scratch sheet step (record { before = d; after = e }) r
  settles_some (Open n) d sound = settled_some (open_refusal d n scratch) (New n) d (λ none. new_made n)
  settles_some (Change c) d sound =
      let on = change_on sheet c in
      settled_some (change_refusal d on scratch) (Makes on d) d
      (λ none. change_made on d (there_is d (first_of (change_tests d.n on scratch)) sound none))
  settles_some (Ask q) d sound = let a = asks_some q d sound in (d, a.0, (a.1, refl))
  settles_some End d sound = (d, Ok true, (refl, refl))

  settles_sound : (step : Step) (d e : Told) (r : Result Bool KeeperFault) → Sound d
      → Settles scratch sheet step (record { before = d; after = e }) r → Sound e
  settles_sound step d e r sound h =
      (settles_served (record { capacity = MOST_GROUPS; scratch = scratch; sheet = sheet; groups = 0 }) (omega arith) step
      (record { before = d; after = e }) r sound h).1

  -- what comes of a script from a description on
  abbrev Comes : Script → ℕ → Told → Type 0
  Comes script k d = (m : Meaning) × Plays (Settles scratch sheet) script k d m.marks m.outcome m.told

  comes_next : (place k : ℕ) (step : Step) (rest : Script) (d e : Told) (r : Result Bool KeeperFault)
      → Settles scratch sheet step (record { before = d; after = e }) r → Comes rest (k + 1) e → Comes (follows place step rest) k d
  comes_next place k step rest d e (Err f) h more = (record { marks = []; outcome = Err (fault_at (Keeper f) k place); told = e }, stops h)
  comes_next place k step rest d e (Ok b) h more =
      (record { marks = mark_of place step b ∷ more.0.marks; outcome = more.0.outcome; told = more.0.told }, goes h more.1)

  comes : (script : Script) (k : ℕ) (d : Told) → Sound d → Comes script k d
  comes finished k d sound = (record { marks = []; outcome = Ok k; told = d }, ends)
  comes (broken place f) k d sound = (record { marks = []; outcome = Err (fault_at f k place); told = d }, breaks)
  comes (follows place step rest) k d sound =
      let one = settles_some step d sound in
      comes_next place k step rest d one.0 one.1 one.2 (comes rest (k + 1) one.0 (settles_sound step d one.0 one.1 sound one.2))

-- ---- and only one thing

settled_one : (o : Option Refusal) (Rule Rule' : Told → Type 0) (t t' : Transition) (r r' : Result Bool KeeperFault) → t.before ≡ t'.before
    → ((e e' : Told) → Rule e → Rule' e' → e ≡ e')
    → SettledBy o Rule t r → SettledBy o Rule' t' r' → (r ≡ r') × (t.after ≡ t'.after)
settled_one (Some x) Rule Rule' t t' r r' same one h h' = (h.0 ∙ sym h'.0, h.1 ∙ same ∙ sym h'.1)
settled_one None Rule Rule' t t' r r' same one h h' = (h.0 ∙ sym h'.0, one t.after t'.after h.1 h'.1)

module _ (scratch : ℕ) (sheet : List ℕ) where
  settles_one : (step : Step) (d e e' : Told) (r r' : Result Bool KeeperFault)
      → Settles scratch sheet step (record { before = d; after = e }) r → Settles scratch sheet step (record { before = d; after = e' }) r'
      → (r ≡ r') × (e ≡ e')
  settles_one (Open n) d e e' r r' h h' =
      settled_one (open_refusal d n scratch) (New n) (New n) (record { before = d; after = e }) (record { before = d; after = e' }) r r' refl
      (λ u v. one_new) h h'
  settles_one (Change c) d e e' r r' h h' =
      let on = change_on sheet c in
      settled_one (change_refusal d on scratch) (Makes on d) (Makes on d) (record { before = d; after = e }) (record { before = d; after = e' }) r r' refl
      (λ u v. one_made on d) h h'
  settles_one (Ask q) d e e' r r' h h' = (asks_same q d d alike_refl r r' h.0 h'.0, h.1 ∙ sym h'.1)
  settles_one End d e e' r r' h h' = (h.0 ∙ sym h'.0, h.1 ∙ sym h'.1)

  settles_match : (step : Step) (t t' : Transition) (r r' : Result Bool KeeperFault) → t.before ≡ t'.before
      → Settles scratch sheet step t r → Settles scratch sheet step t' r' → Agreed (λ e e'. e ≡ e') (λ f. ⊥) r r' t.after t'.after
  settles_match step t t' r r' same h h' =
      inl (settles_one step t.before t.after t'.after r r' h
      (subst (λ (d : Told). Settles scratch sheet step (record { before = d; after = t'.after }) r') (sym same) h'))

-- ---- a sheet

unopened_sound : Sound unopened
unopened_sound some = absurd (some refl)

pub one_meaning : (scratch groups room : ℕ) (sheet : List ℕ) → OneMeaning scratch groups room sheet
one_meaning scratch groups room sheet =
    record {
      some = comes scratch sheet (script_of sheet groups room) 0 unopened unopened_sound;
      one = λ m m' p p'.
          let same = plays_match (Settles scratch sheet) (Settles scratch sheet) (λ d e. d ≡ e) (λ f. ⊥) (settles_match scratch sheet)
          (script_of sheet groups room) 0 unopened unopened m.told m'.told m.marks m'.marks m.outcome m'.outcome refl (λ f g r q low. low) p p' in
          λ i. record { marks = same.0 i; outcome = same.1 i; told = same.2 i };
    }

pub ran_as_meant : (s : Setting) (t : Transition) (marks marks' : List StepMark) (r : Result ℕ SheetFault)
    → Ran s t marks marks' r → AsMeant s t marks marks' r
ran_as_meant s t marks marks' r ran =
    let everywhere = ran_everywhere s t marks marks' r ran in
    record {
      written = everywhere.written;
      marked = everywhere.marked;
      meant = λ shut enough m means.
          everywhere.same shut enough (s.capacity + MOST_GROUPS) (record { before = unopened; after = m.told })
          marks (m.marks ++ drop (length m.marks) marks) m.outcome (omega arith) refl refl
          (record {
            written = m.marks;
            played = plays_served (record s { capacity = s.capacity + MOST_GROUPS }) (omega arith) (script_of s.sheet s.groups (length marks)) 0
                unopened m.told m.marks m.outcome unopened_sound means;
            marked = refl;
          });
    }
