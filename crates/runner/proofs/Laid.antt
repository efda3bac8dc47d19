-- The script of a sheet is that of the records laid end to end on it.
use Rattle.std.proofs.Common.{◌≡◌, ℕ, zero, suc, ◌+◌, ◌-◌, ◌<◌, ◌≤◌, Bool, true, false, ltb, ◌⊎◌, List, [], ◌∷◌, length, Ok, Err, Result, refl, ap, ◌∙◌, subst, inl, inr, arith, le-ltb, lt-ltb}
use Rattle.std.proofs.lemmas.Bool.{cases_lt, ltb-false}
use Rattle.domain.specs.declared.refusal.Refusal.{Refusal}
use Rattle.domain.specs.declared.refusal.Refusal.TheVariants.{Truncated, Room}
use Rattle.reader.specs.Heads.{head_at, known}
use Rattle.reader.specs.Payloads.{step_of}
use Rattle.reader.specs.Reading.{Read, refuse, ◌>>=◌}
use Rattle.reader.specs.Records.{record_at, pair_at}
use Rattle.reader.specs.declared.record.Record.{Record}
use Rattle.sheet.specs.Kinds.{step_kind}
use Rattle.sheet.specs.declared.fault.RunnerFault.{RunnerFault}
use Rattle.sheet.specs.declared.fault.RunnerFault.TheVariants.{Runner}
use Rattle.sheet.specs.declared.steps.Step.{Step}
use Rattle.sheet.specs.declared.steps.TheConstants.{LONGEST_SHEET}
use Rattle.runner.proofs.Scripts.{script_turn, script_end, some_room, room_left, groups_fit}
use Rattle.runner.specs.Following.{next_at, step_at, reading_of, move_of}
use Rattle.runner.specs.Laying.{Laid, nothing, another, Halts, used, unlawful, full, steps_then, ReadsLaid}
use Rattle.runner.specs.Running.{Script, broken, follows, script_from, lacks_room, script_at_end}
use Rattle.runner.specs.declared.next.Next.{Next}
use Rattle.runner.specs.declared.state.State.{State}
use Rattle.runner.specs.declared.state.State.TheVariants.{New, Opened, Ended}

-- ---- a record that is read ends behind its place, and on the sheet

then_ok : {A B E : Type 0} (x : Result A E) (f : A → Result B E) (b : B) → (x >>= f) ≡ Ok b → (a : A) × (x ≡ Ok a) × (f a ≡ Ok b)
then_ok (Ok a) f b h = (a, refl, h)
then_ok (Err e) f b h = absurd cc

reading_ok : {A : Type 0} (x : Read A) (a : A) → reading_of x ≡ Ok a → x ≡ Ok a
reading_ok (Ok b) a h = cc
reading_ok (Err f) a h = absurd cc

not_refused : {A : Type 0} (b : Bool) (e : Refusal) (place : ℕ) (later : Read A) (a : A) → refuse b e place later ≡ Ok a → (b ≡ false) × (later ≡ Ok a)
not_refused true e place later a h = absurd cc
not_refused false e place later a h = (refl, h)

framed_onward : (at end head payload kind : ℕ) (r : Record) → 0 < head
    → refuse (ltb (end - at) head) Truncated at
    (refuse (ltb (end - (at + head)) payload) Truncated at
    (Ok (record { place = at; kind = kind; start = at + head; end = at + head + payload }))) ≡ Ok r
    → (at < r.end) × (r.end ≤ end)
framed_onward at end head payload kind r some h =
    let whole = not_refused (ltb (end - at) head) Truncated at _ r h in
    let more = not_refused (ltb (end - (at + head)) payload) Truncated at _ r whole.1 in
    let ends : at + head + payload ≡ r.end = (let k = more.1 in cc) in
    let room : head ≤ end - at = ltb-false (end - at) head whole.0 in
    let rest : payload ≤ end - (at + head) = ltb-false (end - (at + head)) payload more.0 in
    (omega (arith, ends), omega (arith, ends, room, rest))

record_onward : (sheet : List ℕ) (at : ℕ) (r : Record) → record_at sheet at (length sheet) ≡ Ok r → (at < r.end) × (r.end ≤ length sheet)
record_onward sheet at r h = framed_onward at (length sheet) _ (pair_at sheet at) (pair_at sheet (at + 2)) r (omega arith) h

step_onward : (sheet : List ℕ) (state : State) (at : ℕ) (next : Next) → step_at sheet state at ≡ Ok next
    → (at < next.end) × (next.end ≤ length sheet)
step_onward sheet state at next h =
    let head = then_ok (reading_of (head_at sheet at)) _ next h in
    let after = then_ok (move_of state head.0.kind) _ next head.2 in
    let step = then_ok (reading_of (step_of sheet head.0)) _ next after.2 in
    let frame = then_ok (record_at sheet at (length sheet)) _ head.0 (reading_ok (head_at sheet at) head.0 head.1) in
    let kind = then_ok (known frame.0 (step_kind frame.0.kind)) _ head.0 frame.2 in
    let same : head.0.frame ≡ frame.0 = (let k = kind.2 in cc) in
    let end : next.end ≡ head.0.frame.end = (let k = step.2 in cc) in
    let ends : next.end ≡ frame.0.end = end ∙ ap (λ (r : Record). r.end) same in
    rw ends (record_onward sheet at frame.0 frame.1)

next_onward : (sheet : List ℕ) (state : State) (at : ℕ) (next : Next) → next_at sheet state at ≡ Ok next
    → (at < next.end) × (next.end ≤ length sheet)
next_onward sheet New at next h = step_onward sheet New at next h
next_onward sheet Opened at next h = step_onward sheet Opened at next h
next_onward sheet Ended at next h = absurd cc

-- ---- what is laid is read

module _ (sheet : List ℕ) (groups : ℕ) where
  halts_read : (turns marks at : ℕ) (state : State) (last : Script) → Halts sheet groups marks at state last
      → script_from (suc turns) sheet groups marks state at ≡ last
  halts_read turns marks at state last (used past) = script_end sheet groups turns marks at state past
  halts_read turns marks at state last (unlawful {f = f} here e) = script_turn sheet groups turns marks at state (Err f) here e
  halts_read turns marks at state last (full {next = next} here e none) = script_turn sheet groups turns marks at state (Ok next) here e ∙ rw none refl

  laid_read : (turns marks at at' : ℕ) (state state' : State) (steps : List (ℕ × Step)) (last : Script)
      → at ≤ length sheet → length sheet < turns + at → Laid sheet groups steps at state at' state' → length steps ≤ marks
      → Halts sheet groups (marks - length steps) at' state' last
      → script_from turns sheet groups marks state at ≡ steps_then steps last
  laid_read zero marks at at' state state' steps last within enough laid fit halts = absurd (omega arith)
  laid_read (suc turns) marks at at' state state' [] last within enough nothing fit halts =
      halts_read turns marks at state last (subst (λ (k : ℕ). Halts sheet groups k at state last) (let z : marks - 0 ≡ marks = omega arith in z) halts)
  laid_read (suc turns) marks at at' state state' (p ∷ steps) last within enough (another {next = next} here e few laid) fit halts =
      let onward = next_onward sheet state at next e in
      let past : at < next.end = onward.0 in
      let inside : next.end ≤ length sheet = onward.1 in
      let long : suc (length steps) ≤ marks = fit in
      let left : marks - suc (length steps) ≡ marks - 1 - length steps = omega arith in
      script_turn sheet groups turns marks at state (Ok next) here e
      ∙ rw (some_room marks groups next.step (omega arith) few)
      (ap (follows at next.step)
      (laid_read turns (marks - 1) next.end at' next.state state' steps last inside (omega (arith, past, enough)) laid (omega (arith, long))
      (subst (λ (k : ℕ). Halts sheet groups k at' state' last) left halts)))

  -- ---- some steps are laid

  record Found (marks at : ℕ) (state : State) : Type 0 where
    steps : List (ℕ × Step)
    last : Script
    at' : ℕ
    state' : State
    laid : Laid sheet groups steps at state at' state'
    marked : length steps ≤ marks
    halts : Halts sheet groups (marks - length steps) at' state' last

  stopped : (marks at : ℕ) (state : State) (last : Script) → Halts sheet groups marks at state last → Found marks at state
  stopped marks at state last h =
      record {
        steps = [];
        last = last;
        at' = at;
        state' = state;
        laid = nothing;
        marked = omega arith;
        halts = subst (λ (k : ℕ). Halts sheet groups k at state last) (let z : marks ≡ marks - 0 = omega arith in z) h;
      }

  -- with so many turns left, from the end of a record on
  abbrev Onward : (turns marks : ℕ) → Type 0
  Onward turns marks = (next : Next) → next.end ≤ length sheet → length sheet < turns + next.end → Found (marks - 1) next.end next.state

  found : (turns marks at : ℕ) (state : State) → at ≤ length sheet → length sheet < turns + at → Found marks at state
  found zero marks at state within enough = absurd (omega arith)
  found (suc turns) marks at state within enough = at_place (λ next inside more. found turns (marks - 1) next.end next.state inside more) (cases_lt at (length sheet))
    where
      room : Onward turns marks → (next : Next) → at < length sheet → next_at sheet state at ≡ Ok next → (lacks : Bool) → lacks_room marks groups next.step ≡ lacks → Found marks at state
      room more next here e true f = stopped marks at state (broken at (Runner Room)) (full here e f)
      room more next here e false f =
          let onward = next_onward sheet state at next e in
          let past : at < next.end = onward.0 in
          let rest = more next onward.1 (omega (arith, past, enough)) in
          let some : 0 < marks = room_left marks groups next.step f in
          let fit : length rest.steps ≤ marks - 1 = rest.marked in
          let left : marks - 1 - length rest.steps ≡ marks - suc (length rest.steps) = omega arith in
          record {
            steps = (at, next.step) ∷ rest.steps;
            last = rest.last;
            at' = rest.at';
            state' = rest.state';
            laid = another here e (groups_fit marks groups next.step f) rest.laid;
            marked = omega (arith, some, fit);
            halts = subst (λ (k : ℕ). Halts sheet groups k rest.at' rest.state' rest.last) left rest.halts;
          }

      reads : Onward turns marks → at < length sheet → (read : Result Next RunnerFault) → next_at sheet state at ≡ read → Found marks at state
      reads more here (Ok next) e = room more next here e (lacks_room marks groups next.step) refl
      reads more here (Err f) e = stopped marks at state (broken at f) (unlawful here e)

      at_place : Onward turns marks → (at < length sheet) ⊎ (length sheet ≤ at) → Found marks at state
      at_place more (inl here) = reads more here (next_at sheet state at) refl
      at_place more (inr past) = stopped marks at state (script_at_end state (length sheet)) (used past)

pub reads_laid : (sheet : List ℕ) (groups room : ℕ) → ReadsLaid sheet groups room
reads_laid sheet groups room =
    record {
      too_long = λ long. rw (lt-ltb LONGEST_SHEET (length sheet) long) refl;
      read = λ short steps last l.
          rw (le-ltb LONGEST_SHEET (length sheet) short)
          (laid_read sheet groups (suc (length sheet)) room 0 l.at New l.state steps last (omega arith) (omega arith) l.laid l.marked l.halts);
      some =
          let f = found sheet groups (suc (length sheet)) room 0 New (omega arith) (omega arith) in
          (f.steps, f.last, record { at = f.at'; state = f.state'; laid = f.laid; marked = f.marked; halts = f.halts });
    }
