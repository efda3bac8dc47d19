-- What a keeper makes of one step, over what it tells before and after.
use Rattle.std.specs.Prelude.{◌≡◌, ℕ, Bool, true, List, Ok, Err, Result}
use Rattle.domain.specs.Changes.{map_change}
use Rattle.domain.specs.declared.change.Change.{Change}
use Rattle.keeper.specs.Calls.{Opens, ChangesBy}
use Rattle.keeper.specs.Questions.{Asks}
use Rattle.keeper.specs.declared.fault.KeeperFault.{KeeperFault}
use Rattle.reader.specs.Records.{groups_at}
use Rattle.sheet.specs.declared.steps.Span.{Span}
use Rattle.sheet.specs.declared.steps.Step.{Step}
use Rattle.sheet.specs.declared.steps.Step.TheVariants as step
use Rattle.runner.specs.Settings.{Setting, Transition}

-- the answer to a step that is no question: yes where it is accepted
abbrev pub accepted_of : Result (Unit {0}) KeeperFault → Result Bool KeeperFault
accepted_of (Ok u) = Ok true
accepted_of (Err f) = Err f

-- a change with the groups that lie on the sheet
abbrev pub change_on : List ℕ → Change Span → Change (List ℕ)
change_on sheet c = map_change (λ span. groups_at sheet span.start span.count) c

-- what the step asks of the keeper, and the answer
abbrev pub Serves : Setting → Step → Transition → Result Bool KeeperFault → Type 0
Serves s (step.Open n) t r =
    (done : Result (Unit {0}) KeeperFault)
    × Opens s.capacity n s.scratch t.before t.after done × (r ≡ accepted_of done)
Serves s (step.Change c) t r =
    (done : Result (Unit {0}) KeeperFault)
    × ChangesBy (change_on s.sheet c) s.capacity s.scratch t.before t.after done × (r ≡ accepted_of done)
Serves s (step.Ask q) t r = Asks t.before q r × (t.after ≡ t.before)
Serves s step.End t r = (r ≡ Ok true) × (t.after ≡ t.before)
