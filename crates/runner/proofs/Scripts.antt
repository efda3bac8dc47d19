-- What one turn of the script of a sheet comes to.
use Rattle.std.proofs.Common.{◌≡◌, ℕ, zero, suc, ◌<◌, ◌≤◌, eqb, ltb, false, List, length, Result, arith, le-ltb, lt-ltb, ne_eqb}
use Rattle.std.proofs.lemmas.Bool.{or_parts, ltb-false}
use Rattle.sheet.specs.Steps.{group_count}
use Rattle.sheet.specs.declared.fault.RunnerFault.{RunnerFault}
use Rattle.sheet.specs.declared.steps.Step.{Step}
use Rattle.runner.specs.Following.{next_at}
use Rattle.runner.specs.Running.{script_from, lacks_room, turn, script_at_end}
use Rattle.runner.specs.declared.next.Next.{Next}
use Rattle.runner.specs.declared.state.State.{State}

pub some_room : (marks groups : ℕ) (step : Step) → 0 < marks → group_count step ≤ groups → lacks_room marks groups step ≡ false
some_room marks groups step some fit = rw (ne_eqb marks 0 (λ e. omega arith)) (le-ltb groups (group_count step) fit)

pub room_left : (marks groups : ℕ) (step : Step) → lacks_room marks groups step ≡ false → 0 < marks
room_left zero groups step none = absurd cc
room_left (suc marks) groups step none = omega arith

pub groups_fit : (marks groups : ℕ) (step : Step) → lacks_room marks groups step ≡ false → group_count step ≤ groups
groups_fit marks groups step none = ltb-false groups (group_count step) (or_parts (eqb marks 0) (ltb groups (group_count step)) none).1

pub script_turn : (sheet : List ℕ) (groups turns room at : ℕ) (state : State) (next : Result Next RunnerFault) → at < length sheet → next_at sheet state at ≡ next
    → script_from (suc turns) sheet groups room state at ≡ turn (script_from turns sheet groups) groups at next room
unfolding script_from
script_turn sheet groups turns room at state next h e = rw (lt-ltb at (length sheet) h, e)

pub script_end : (sheet : List ℕ) (groups turns room at : ℕ) (state : State) → length sheet ≤ at
    → script_from (suc turns) sheet groups room state at ≡ script_at_end state (length sheet)
unfolding script_from
script_end sheet groups turns room at state h = rw (le-ltb at (length sheet) h)
