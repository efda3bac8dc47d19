-- What the runner's loop keeps: whatever the rest of the script plays to, the whole script plays to
-- with the marks written so far in front.
use Rattle.std.proofs.Common.{◌≡◌, ℕ, zero, suc, ◌+◌, ◌-◌, ◌<◌, ◌≤◌, Bool, true, false, List, [], ◌∷◌, ◌++◌, length, drop, set, IfOk, Ok, Err, Result, sym, refl, ap, ◌∙◌, subst, append_assoc, append-nil, arith, length-append, le-ltb, lt-ltb}
use native.Mathlib.Nat.{sub-zero}
use Rattle.domain.proofs.Written.{written_more}
use Rattle.domain.specs.Told.{Told}
use Rattle.domain.specs.declared.refusal.Refusal.TheVariants.{Length, Room}
use Rattle.keeper.specs.declared.fault.KeeperFault.{KeeperFault}
use Rattle.sheet.specs.Faults.{fault_at}
use Rattle.sheet.specs.Steps.{group_count, kind_of}
use Rattle.sheet.specs.declared.fault.RunnerFault.{RunnerFault}
use Rattle.sheet.specs.declared.fault.RunnerFault.TheVariants.{Reader, Runner, Keeper}
use Rattle.sheet.specs.declared.fault.SheetFault.{SheetFault}
use Rattle.sheet.specs.declared.kind.StepKind.{StepKind}
use Rattle.sheet.specs.declared.mark.StepMark.{StepMark}
use Rattle.sheet.specs.declared.steps.TheConstants.{LONGEST_SHEET}
use Rattle.runner.proofs.Scripts.{some_room, room_left, script_turn, script_end}
use Rattle.runner.specs.Following.{next_at}
use Rattle.runner.specs.Playing.{Plays, ends, breaks, stops, goes, Ran, mark_of}
use Rattle.runner.specs.Running.{Script, broken, follows, script_from, script_of, lacks_room, turn, script_at_end}
use Rattle.runner.specs.Serving.{Serves}
use Rattle.runner.specs.Settings.{Setting, Transition}
use Rattle.runner.specs.Turning.{Turns, Hands, Notes, moved_to, outcome_in}
use Rattle.runner.specs.declared.next.Next.{Next}
use Rattle.runner.specs.declared.state.State.{State}
use Rattle.runner.specs.declared.state.State.TheVariants.{New, Opened, Ended}
use Rattle.runner.specs.declared.turn.Cursor.{Cursor}

-- what is given to a run is the same at equal capacity, scratch and room for groups
pub same_setting : (sheet : List ℕ) {a b c d m n : ℕ} → a ≡ b → c ≡ d → m ≡ n
    → ◌≡◌ {A = Setting} (record { capacity = a; scratch = c; sheet = sheet; groups = m })
    (record { capacity = b; scratch = d; sheet = sheet; groups = n })
same_setting sheet p q o = λ i. record { capacity = p i; scratch = q i; sheet = sheet; groups = o i }

-- a turn that the keeper answers, with its mark behind the marks in use
pub turns_go : (s : Setting) (c : Cursor) (next : Next) (read : Result Next RunnerFault) (b : Bool) (t : Transition)
    (marks marks' : List StepMark) (used : ℕ) (sort : StepKind)
    → Ok next ≡ read → used < length marks → group_count next.step ≤ s.groups → Serves s next.step t (Ok b)
    → used ≡ c.step → sort ≡ kind_of next.step → marks' ≡ set marks used (record { place = c.at; kind = sort; answer = b })
    → Turns s c read t marks marks' (Ok (moved_to c next))
turns_go s c next read b t marks marks' used sort is room fit serves counted same written =
    let left : 0 < length marks - c.step = omega arith in
    rw (← is, some_room (length marks - c.step) s.groups next.step left fit)
    (Ok b, serves, (refl, written ∙ (λ i. set marks (counted i) (record { place = c.at; kind = same i; answer = b }))))

module _ (s : Setting) (before : Told) (marks₀ : List StepMark) where
  pub record Running (c : Cursor) (d : Told) (marks : List StepMark) : Type 0 where
    pub turns : ℕ
    pub enough : length s.sheet < turns + c.at
    pub within : c.at ≤ length s.sheet
    pub written : List StepMark
    pub count : length written ≡ c.step
    pub marked : marks ≡ written ++ drop c.step marks₀
    pub onward : (ms : List StepMark) (r : Result ℕ SheetFault) (e : Told)
        → Plays (Serves s) (script_from turns s.sheet s.groups (length marks₀ - c.step) c.state c.at) c.step d ms r e
        → Plays (Serves s) (script_of s.sheet s.groups (length marks₀)) 0 before (written ++ ms) r e

  -- after a turn the run goes on from the cursor, or has ended
  abbrev pub After : Cursor → Told → List StepMark → Result Cursor RunnerFault → Type 0
  After c e marks' (Ok c') = Running c' e marks'
  After c e marks' (Err f) = Ran s (record { before = before; after = e }) marks₀ marks' (Err (fault_at f c.step c.at))

  pub runs_start : length s.sheet ≤ LONGEST_SHEET → Running (record { state = New; at = 0; step = 0 }) before marks₀
  runs_start short =
      record {
        turns = suc (length s.sheet);
        enough = omega arith;
        within = omega arith;
        written = [];
        count = refl;
        marked = refl;
        onward = λ ms r e p.
            rw (le-ltb LONGEST_SHEET (length s.sheet) short)
            (subst (λ (x : ℕ). Plays (Serves s) (script_from (suc (length s.sheet)) s.sheet s.groups x New 0) 0 before ms r e) (sub-zero (length marks₀)) p);
      }

  -- one turn
  module _ (c : Cursor) (d e : Told) (marks marks' : List StepMark) (long : length marks ≡ length marks₀)
      (here : c.at < length s.sheet) where
    abbrev told : Transition
    told = record { before = d; after = e }

    runs_goes : (next : Next) (b : Bool) (turns : ℕ) → next_at s.sheet c.state c.at ≡ Ok next
        → lacks_room (length marks₀ - c.step) s.groups next.step ≡ false → c.at < next.end → next.end ≤ length s.sheet
        → Serves s next.step told (Ok b) → (w : Running c d marks) → w.turns ≡ turns
        → Running (moved_to c next) e (set marks c.step (mark_of c.at next.step b))
    runs_goes next b zero n fit past within serves w t =
        let bound : length s.sheet < w.turns + c.at = w.enough in absurd (omega (arith, bound, t))
    runs_goes next b (suc turns) n fit past within serves w t =
        record {
          turns = turns;
          enough = let bound : length s.sheet < w.turns + c.at = w.enough in omega (arith, bound, t);
          within = within;
          written = w.written ++ m ∷ [];
          count = length-append w.written (m ∷ []) ∙ ap (λ (k : ℕ). k + 1) w.count;
          marked = ap (λ (l : List StepMark). set l c.step m) w.marked ∙ written_more w.written marks₀ c.step m w.count room;
          onward = λ ms r z p.
              subst (λ (l : List StepMark). Plays (Serves s) (script_of s.sheet s.groups (length marks₀)) 0 before l r z)
              (sym (append_assoc w.written (m ∷ []) ms))
              (w.onward (m ∷ ms) r z (subst (λ (x : Script). Plays (Serves s) x c.step d (m ∷ ms) r z) (sym same) (goes serves p)));
        }
      where
        m : StepMark
        m = mark_of c.at next.step b

        room : c.step < length marks₀
        room = let left = room_left (length marks₀ - c.step) s.groups next.step fit in omega arith

        left : length marks₀ - c.step - 1 ≡ length marks₀ - (c.step + 1)
        left = omega arith

        same : script_from w.turns s.sheet s.groups (length marks₀ - c.step) c.state c.at
            ≡ follows c.at next.step (script_from turns s.sheet s.groups (length marks₀ - (c.step + 1)) next.state next.end)
        same =
            rw t
            (script_turn s.sheet s.groups turns (length marks₀ - c.step) c.at c.state (Ok next) here n
            ∙ rw (fit, left) refl)

    -- the run ends here, with no mark more
    ending : (w : Running c d marks) (r : Result ℕ SheetFault) (next : Result Next RunnerFault) → next_at s.sheet c.state c.at ≡ next
        → marks' ≡ marks
        → ((rest : ℕ → State → ℕ → Script) → Plays (Serves s) (turn rest s.groups c.at next (length marks₀ - c.step)) c.step d [] r e)
        → Ran s (record { before = before; after = e }) marks₀ marks' r
    ending w r next n same p = go w.turns refl
      where
        go : (turns : ℕ) → w.turns ≡ turns → Ran s (record { before = before; after = e }) marks₀ marks' r
        go zero t = let bound : length s.sheet < w.turns + c.at = w.enough in absurd (omega (arith, bound, t))
        go (suc turns) t =
            let script : script_from w.turns s.sheet s.groups (length marks₀ - c.step) c.state c.at
            ≡ turn (script_from turns s.sheet s.groups) s.groups c.at next (length marks₀ - c.step)
            = rw t (script_turn s.sheet s.groups turns (length marks₀ - c.step) c.at c.state next here n) in
            record {
              written = w.written;
              played = subst (λ (l : List StepMark). Plays (Serves s) (script_of s.sheet s.groups (length marks₀)) 0 before l r e)
                  (append-nil w.written)
                  (w.onward [] r e (subst (λ (x : Script). Plays (Serves s) x c.step d [] r e) (sym script) (p (script_from turns s.sheet s.groups))));
              marked = same ∙ w.marked ∙ ap (λ (k : ℕ). w.written ++ drop k marks₀) (sym w.count);
            }

    -- what `Turns` says of it
    pub runs_turn : (r : Result Cursor RunnerFault) → IfOk r (λ c'. c.at < c'.at) → IfOk r (λ c'. c'.at ≤ length s.sheet)
        → Running c d marks → (s' : Setting) → s' ≡ s → Turns s' c (next_at s.sheet c.state c.at) told marks marks' r
        → After c e marks' r
    runs_turn r past within w s' same turns =
        read (next_at s.sheet c.state c.at) refl
        (subst (λ (x : Setting). Turns x c (next_at s.sheet c.state c.at) told marks marks' r) same turns)
      where
        ends_so : (f : RunnerFault) → r ≡ Err f → After c e marks' (Err f) → After c e marks' r
        ends_so f is h = subst (After c e marks') (sym is) h

        broke : (f : RunnerFault) (next : Result Next RunnerFault) → next_at s.sheet c.state c.at ≡ next → r ≡ Err f → e ≡ d → marks' ≡ marks
            → ((rest : ℕ → State → ℕ → Script) → turn rest s.groups c.at next (length marks₀ - c.step) ≡ broken c.at f)
            → After c e marks' r
        broke f next n is left kept script =
            ends_so f is
            (ending w (Err (fault_at f c.step c.at)) next n kept
            (λ rest. rw (script rest, left) breaks))

        answered : (next : Next) → next_at s.sheet c.state c.at ≡ Ok next → lacks_room (length marks₀ - c.step) s.groups next.step ≡ false
            → (answer : Result Bool KeeperFault) → Serves s next.step told answer → Notes c next answer marks marks' r → After c e marks' r
        answered next n fit (Ok b) serves m =
            subst (After c e marks') (sym m.0)
            (subst (λ (l : List StepMark). Running (moved_to c next) e l) (sym m.1)
            (runs_goes next b w.turns n fit (rw m.0 at past) (rw m.0 at within) serves w refl))
        answered next n fit (Err g) serves m =
            ends_so (Keeper g) m.0
            (ending w (Err (fault_at (Keeper g) c.step c.at)) (Ok next) n m.1 (λ rest. rw fit (stops serves)))

        roomy : (next : Next) → next_at s.sheet c.state c.at ≡ Ok next → (full : Bool) → lacks_room (length marks - c.step) s.groups next.step ≡ full
            → Hands full s c next told marks marks' r → After c e marks' r
        roomy next n true full h =
            let full' : lacks_room (length marks₀ - c.step) s.groups next.step ≡ true = rw long at full in
            broke (Runner Room) (Ok next) n h.0 h.1 h.2 (λ rest. rw full' refl)
        roomy next n false fit h = answered next n (rw long at fit) h.0 h.1 h.2

        read : (next : Result Next RunnerFault) → next_at s.sheet c.state c.at ≡ next → Turns s c next told marks marks' r → After c e marks' r
        read (Ok next) n t = roomy next n (lacks_room (length marks - c.step) s.groups next.step) refl t
        read (Err g) n t = broke g (Err g) n t.0 t.1 t.2 (λ rest. refl)

  -- the bytes are used up
  pub runs_end : (c : Cursor) (d : Told) (marks : List StepMark) → Running c d marks → length s.sheet ≤ c.at
      → Ran s (record { before = before; after = d }) marks₀ marks (outcome_in c.state c.step c.at)
  runs_end c d marks w past = go w.turns refl
    where
      closes : (state : State) → Plays (Serves s) (script_at_end state c.at) c.step d [] (outcome_in state c.step c.at) d
      closes New = breaks
      closes Opened = breaks
      closes Ended = ends

      go : (turns : ℕ) → w.turns ≡ turns → Ran s (record { before = before; after = d }) marks₀ marks (outcome_in c.state c.step c.at)
      go zero t = let bound : length s.sheet < w.turns + c.at = w.enough in let inside : c.at ≤ length s.sheet = w.within in absurd (omega (arith, bound, inside, t))
      go (suc turns) t =
          let inside : c.at ≤ length s.sheet = w.within in
          let same : length s.sheet ≡ c.at = omega arith in
          let script : script_from w.turns s.sheet s.groups (length marks₀ - c.step) c.state c.at ≡ script_at_end c.state c.at =
          rw t (script_end s.sheet s.groups turns (length marks₀ - c.step) c.at c.state past ∙ ap (script_at_end c.state) same) in
          record {
            written = w.written;
            played = subst (λ (l : List StepMark). Plays (Serves s) (script_of s.sheet s.groups (length marks₀)) 0 before l (outcome_in c.state c.step c.at) d)
                (append-nil w.written)
                (w.onward [] (outcome_in c.state c.step c.at) d
                (subst (λ (x : Script). Plays (Serves s) x c.step d [] (outcome_in c.state c.step c.at) d) (sym script) (closes c.state)));
            marked = w.marked ∙ ap (λ (k : ℕ). w.written ++ drop k marks₀) (sym w.count);
          }

-- a sheet that is too long
pub long_sheet_ran : (s : Setting) (d : Told) (marks : List StepMark) (f : SheetFault)
    → LONGEST_SHEET < length s.sheet → f ≡ fault_at (Reader (record { refusal = Length; place = 0 })) 0 0
    → Ran s (record { before = d; after = d }) marks marks (Err f)
long_sheet_ran s d marks f h e =
    rw e (record { written = []; played = rw (lt-ltb LONGEST_SHEET (length s.sheet) h) breaks; marked = refl })

-- a run over the slots of a roll is one over the list that was lent to it
pub ran_over : {s : Setting} {t : Transition} {marks marks' list list' : List StepMark} {r : Result ℕ SheetFault}
    → marks ≡ list → marks' ≡ list' → Ran s t marks marks' r → Ran s t list list' r
ran_over p q ran = rw (p, q) at ran
