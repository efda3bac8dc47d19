-- Every fault of a run is a refusal that its layer can give.
use Rattle.std.proofs.Common.{◌≡◌, ℕ, zero, suc, ◌+◌, ◌-◌, nat_lt, Bool, true, false, if◌then◌else◌, ◌++◌, not, List, [], ◌∷◌, length, Ok, Err, IfErr, Some, None, Option, Result, refl}
use Rattle.std.specs.Prelude.{IfSome}
use Rattle.domain.specs.Changes.{change_tests}
use Rattle.domain.specs.Refusals.{Test, first_of}
use Rattle.domain.specs.Requests.{open_tests, room_tests, ask_tests, pair_tests}
use Rattle.domain.specs.Told.{Told}
use Rattle.domain.specs.declared.change.Change as domain
use Rattle.domain.specs.declared.change.Change.TheVariants.{Bind, Join, Forget}
use Rattle.domain.specs.declared.refusal.Layer.TheVariants as layer
use Rattle.domain.specs.declared.refusal.Refusal.{Refusal}
use Rattle.domain.specs.declared.refusal.Refusal.TheVariants.{Order, Length, Room}
use Rattle.keeper.specs.Calls.{Changes, Answers, opened, open_refusal, change_refusal, ask_refusal, pair_refusal}
use Rattle.keeper.specs.Questions.{Asks}
use Rattle.keeper.specs.declared.fault.KeeperFault.{KeeperFault}
use Rattle.keeper.specs.declared.questions.Question.{Question}
use Rattle.keeper.specs.declared.questions.Question.TheVariants.{Ground, Free, Linear, Pair}
use Rattle.reader.proofs.Faults.{Refuses, a_head, a_step}
use Rattle.reader.specs.Heads.{head_at}
use Rattle.reader.specs.Payloads.{step_of}
use Rattle.reader.specs.Reading.{Read, ◌>>=◌}
use Rattle.sheet.specs.Faults.{CanRefuse, CanOccur, alone, order_of_steps, order_of_calls, position_in_call, room_in_lists, room_in_call}
use Rattle.sheet.specs.declared.fault.RunnerFault.{RunnerFault}
use Rattle.sheet.specs.declared.fault.RunnerFault.TheVariants.{Reader, Runner}
use Rattle.sheet.specs.declared.fault.SheetFault.{SheetFault}
use Rattle.sheet.specs.declared.kind.StepKind.{StepKind}
use Rattle.sheet.specs.declared.kind.StepKind.TheVariants as kind
use Rattle.sheet.specs.declared.mark.StepMark.{StepMark}
use Rattle.sheet.specs.declared.steps.Step.{Step}
use Rattle.sheet.specs.declared.steps.TheConstants.{LONGEST_SHEET}
use Rattle.sheet.specs.declared.steps.Step.TheVariants as step
use Rattle.runner.specs.Following.{move_of, next_at, reading_of, step_at}
use Rattle.runner.specs.Playing.{Plays, ends, breaks, stops, goes, Ran}
use Rattle.runner.specs.Running.{Script, finished, broken, follows, lacks_room, script_at_end, script_from, script_of, turn}
use Rattle.runner.specs.Serving.{Serves, accepted_of, change_on}
use Rattle.runner.specs.Settings.{Setting, Transition}
use Rattle.runner.specs.declared.next.Next.{Next}
use Rattle.runner.specs.declared.state.State.{State}
use Rattle.runner.specs.declared.state.State.TheVariants.{New, Opened, Ended}

-- ---- the keeper

abbrev KeeperCan : Refusal → Type 0
KeeperCan e = CanRefuse layer.Keeper e

abbrev CanAll : List Test → Type 0
CanAll [] = Unit {0}
CanAll (t ∷ ts) = KeeperCan t.1 × CanAll ts

first_can : (ts : List Test) → CanAll ts → IfSome (first_of ts) KeeperCan
first_can [] can = tt
first_can ((true, e) ∷ ts) can = can.0
first_can ((false, e) ∷ ts) can = first_can ts can.1

changes : (c : domain.Change (List ℕ)) (n scratch : ℕ) → CanAll (change_tests n c scratch)
changes (Bind x t) n scratch = (position_in_call, (alone refl, (alone refl, (room_in_call, tt))))
changes (Join other) n scratch = (alone refl, (alone refl, (room_in_call, tt)))
changes (Forget m) n scratch = (position_in_call, (room_in_call, tt))

abbrev Accuses : {A : Type 0} → Result A KeeperFault → Type 0
Accuses r = IfErr r (λ f. KeeperCan f.refusal)

changed : (o : Option Refusal) (capacity : ℕ) (Rule : Told → Type 0) (Left : Told → Told → Type 0) (before after : Told)
    (r : Result (Unit {0}) KeeperFault) → IfSome o KeeperCan → Changes o capacity Rule Left before after r → Accuses (accepted_of r)
changed o capacity Rule Left before after (Ok u) can h = tt
changed (Some e) capacity Rule Left before after (Err f) can h =
    let same : f.refusal ≡ e = (let q = h.0 in cc) in rw same can
changed None capacity Rule Left before after (Err f) can h = rw h.0 (alone refl)

answered : (o : Option Refusal) (Holds : Type 0) (r : Result Bool KeeperFault) → IfSome o KeeperCan → Answers o Holds r → Accuses r
answered (Some e) Holds r can h = rw h can
answered None Holds (Ok b) can h = tt
answered None Holds (Err f) can h = absurd h

asked : (q : Question) (d : Told) (r : Result Bool KeeperFault) → Asks d q r → Accuses r
asked (Ground p) d r = answered (ask_refusal d p) _ r (first_can ((not (opened d), Order) ∷ ask_tests d.n p) (order_of_calls, (position_in_call, tt)))
asked (Free p) d r = answered (ask_refusal d p) _ r (first_can ((not (opened d), Order) ∷ ask_tests d.n p) (order_of_calls, (position_in_call, tt)))
asked (Linear p) d r = answered (ask_refusal d p) _ r (first_can ((not (opened d), Order) ∷ ask_tests d.n p) (order_of_calls, (position_in_call, tt)))
asked (Pair p q) d r = answered (pair_refusal d p q) _ r (first_can ((not (opened d), Order) ∷ pair_tests d.n p q) (order_of_calls, (position_in_call, tt)))

served : (s : Setting) (step : Step) (t : Transition) (r : Result Bool KeeperFault) → Serves s step t r → Accuses r
served s (step.Open n) t r h =
    rw h.2
    (changed (open_refusal t.before n s.scratch) s.capacity _ _ t.before t.after h.0
    (first_can ((opened t.before, Order) ∷ (open_tests n ++ room_tests n s.scratch)) (order_of_calls, (alone refl, (room_in_call, tt)))) h.1)
served s (step.Change c) t r h =
    rw h.2
    (changed (change_refusal t.before (change_on s.sheet c) s.scratch) s.capacity _ _ t.before t.after h.0
    (first_can ((not (opened t.before), Order) ∷ change_tests t.before.n (change_on s.sheet c) s.scratch)
    (order_of_calls, changes (change_on s.sheet c) t.before.n s.scratch)) h.1)
served s (step.Ask q) t r h = asked q t.before r h.0
served s step.End t r h = rw h.0 tt

-- ---- the reader and the runner

abbrev Occurs : {A : Type 0} → Result A RunnerFault → Type 0
Occurs r = IfErr r CanOccur

then_occurs : {A B : Type 0} (r : Result A RunnerFault) (f : A → Result B RunnerFault) → Occurs r → ((a : A) → Occurs (f a)) → Occurs (r >>= f)
then_occurs (Ok a) f h all = all a
then_occurs (Err e) f h all = h

read_occurs : {A : Type 0} (read : Read A) → Refuses read → Occurs (reading_of read)
read_occurs (Ok a) h = tt
read_occurs (Err f) h = h.told

move_occurs : (state : State) (k : StepKind) → Occurs (move_of state k)
move_occurs New kind.Open = tt
move_occurs New kind.Bind = order_of_steps
move_occurs New kind.Join = order_of_steps
move_occurs New kind.Forget = order_of_steps
move_occurs New kind.Ask = order_of_steps
move_occurs New kind.End = order_of_steps
move_occurs Opened kind.Open = order_of_steps
move_occurs Opened kind.Bind = tt
move_occurs Opened kind.Join = tt
move_occurs Opened kind.Forget = tt
move_occurs Opened kind.Ask = tt
move_occurs Opened kind.End = tt
move_occurs Ended kind.Open = order_of_steps
move_occurs Ended kind.Bind = order_of_steps
move_occurs Ended kind.Join = order_of_steps
move_occurs Ended kind.Forget = order_of_steps
move_occurs Ended kind.Ask = order_of_steps
move_occurs Ended kind.End = order_of_steps

step_occurs : (sheet : List ℕ) (state : State) (at : ℕ) → Occurs (step_at sheet state at)
step_occurs sheet state at =
    then_occurs (reading_of (head_at sheet at)) _ (read_occurs (head_at sheet at) (a_head sheet at)) (λ head.
    then_occurs (move_of state head.kind) _ (move_occurs state head.kind) (λ after.
    then_occurs (reading_of (step_of sheet head)) _ (read_occurs (step_of sheet head) (a_step sheet head)) (λ step. tt)))

next_occurs : (sheet : List ℕ) (state : State) (at : ℕ) → Occurs (next_at sheet state at)
next_occurs sheet New at = step_occurs sheet New at
next_occurs sheet Opened at = step_occurs sheet Opened at
next_occurs sheet Ended at = order_of_steps

-- the fault at which a script breaks, if it does
abbrev ScriptOccurs : Script → Type 0
ScriptOccurs finished = Unit {0}
ScriptOccurs (broken at f) = CanOccur f
ScriptOccurs (follows at step rest) = ScriptOccurs rest

end_occurs : (state : State) (at : ℕ) → ScriptOccurs (script_at_end state at)
end_occurs New at = alone refl
end_occurs Opened at = alone refl
end_occurs Ended at = tt

roomy_occurs : (b : Bool) (at : ℕ) (step : Step) (rest : Script) → ScriptOccurs rest
    → ScriptOccurs (if b then broken at (Runner Room) else follows at step rest)
roomy_occurs true at step rest h = room_in_lists
roomy_occurs false at step rest h = h

turn_occurs : (rest : ℕ → State → ℕ → Script) → ((marks : ℕ) (state : State) (at : ℕ) → ScriptOccurs (rest marks state at))
    → (groups at : ℕ) (next : Result Next RunnerFault) (marks : ℕ) → Occurs next → ScriptOccurs (turn rest groups at next marks)
turn_occurs rest all groups at (Err f) marks h = h
turn_occurs rest all groups at (Ok next) marks h =
    roomy_occurs (lacks_room marks groups next.step) at next.step (rest (marks - 1) next.state next.end) (all (marks - 1) next.state next.end)

either_occurs : (b : Bool) (one two : Script) → ScriptOccurs one → ScriptOccurs two → ScriptOccurs (if b then one else two)
either_occurs true one two h k = h
either_occurs false one two h k = k

from_occurs : (turns : ℕ) (sheet : List ℕ) (groups marks : ℕ) (state : State) (at : ℕ) → ScriptOccurs (script_from turns sheet groups marks state at)
unfolding script_from
from_occurs zero sheet groups marks state at = end_occurs state at
from_occurs (suc turns) sheet groups marks state at =
    either_occurs (nat_lt at (length sheet)) _ (script_at_end state (length sheet))
    (turn_occurs (script_from turns sheet groups) (from_occurs turns sheet groups) groups at (next_at sheet state at) marks (next_occurs sheet state at))
    (end_occurs state (length sheet))

script_occurs : (sheet : List ℕ) (groups marks : ℕ) → ScriptOccurs (script_of sheet groups marks)
script_occurs sheet groups marks =
    either_occurs (nat_lt LONGEST_SHEET (length sheet)) (broken 0 (Reader (record { refusal = Length; place = 0 })))
    (script_from (suc (length sheet)) sheet groups marks New 0) (alone refl)
    (from_occurs (suc (length sheet)) sheet groups marks New 0)

-- ---- a run

played_occurs : (s : Setting) (script : Script) (k : ℕ) (d e : Told) (marks : List StepMark) (r : Result ℕ SheetFault)
    → ScriptOccurs script → Plays (Serves s) script k d marks r e → IfErr r (λ f. CanOccur f.cause)
played_occurs s finished k d e marks r h ends = tt
played_occurs s (broken place f) k d e marks r h breaks = h
played_occurs s (follows place step rest) k d e marks r h (stops {f = f} did) = served s step _ (Err f) did
played_occurs s (follows place step rest) k d e marks r h (goes {e = i} {marks = ms} did more) = played_occurs s rest (k + 1) i e ms r h more

pub ran_occurs : (s : Setting) (t : Transition) (marks marks' : List StepMark) (r : Result ℕ SheetFault)
    → Ran s t marks marks' r → IfErr r (λ f. CanOccur f.cause)
ran_occurs s t marks marks' r ran =
    played_occurs s (script_of s.sheet s.groups (length marks)) 0 t.before t.after ran.written r
    (script_occurs s.sheet s.groups (length marks)) ran.played
