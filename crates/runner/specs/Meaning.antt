-- What a sheet means: by the rules alone, and so the same on every keeper that has room.
use Rattle.std.specs.Prelude.{◌≡◌, ℕ, ◌≤◌, Bool, true, ◌⊎◌, List, ◌++◌, length, drop, Some, None, Ok, Err, Option, Result, ◌≢◌}
use Rattle.domain.specs.Changes.{Makes}
use Rattle.domain.specs.Coverage.{Alike}
use Rattle.domain.specs.Opening.{New}
use Rattle.domain.specs.Told.{Told}
use Rattle.domain.specs.declared.refusal.Refusal.{Refusal}
use Rattle.domain.specs.declared.refusal.Refusal.TheVariants.{Capacity}
use Rattle.keeper.specs.Calls.{fault_of, unopened, open_refusal, change_refusal}
use Rattle.keeper.specs.Questions.{Asks}
use Rattle.keeper.specs.declared.fault.KeeperFault.{KeeperFault}
use Rattle.sheet.specs.declared.fault.RunnerFault.TheVariants.{Keeper}
use Rattle.sheet.specs.declared.fault.SheetFault.{SheetFault}
use Rattle.sheet.specs.declared.mark.StepMark.{StepMark}
use Rattle.sheet.specs.declared.steps.Step.{Step}
use Rattle.sheet.specs.declared.steps.Step.TheVariants as step
use Rattle.runner.specs.Playing.{Plays, Ran}
use Rattle.runner.specs.Running.{script_of}
use Rattle.runner.specs.Serving.{change_on}
use Rattle.runner.specs.Settings.{Setting, Transition}

-- ---- by the rules alone

-- a call that no test refuses makes exactly what its rule gives; any other leaves what was told
abbrev pub SettledBy : Option Refusal → (Told → Type 0) → Transition → Result Bool KeeperFault → Type 0
SettledBy (Some e) Rule t r = (r ≡ Err (fault_of e)) × (t.after ≡ t.before)
SettledBy None Rule t r = (r ≡ Ok true) × Rule t.after

-- what the rules make of a step with so many bytes of scratch, and the answer; they know no capacity
abbrev pub Settles : (scratch : ℕ) (sheet : List ℕ) → Step → Transition → Result Bool KeeperFault → Type 0
Settles scratch sheet (step.Open n) t r = SettledBy (open_refusal t.before n scratch) (New n) t r
Settles scratch sheet (step.Change c) t r =
    SettledBy (change_refusal t.before (change_on sheet c) scratch) (Makes (change_on sheet c) t.before) t r
Settles scratch sheet (step.Ask q) t r = Asks t.before q r × (t.after ≡ t.before)
Settles scratch sheet step.End t r = (r ≡ Ok true) × (t.after ≡ t.before)

-- the marks of a sheet's steps, their number or the fault, and the description in the end
pub record Meaning : Type 0 where
  pub marks : List StepMark
  pub outcome : Result ℕ SheetFault
  pub told : Told

-- m is what the sheet means, with so many bytes of scratch and room for so many groups at a time and marks in all
abbrev pub Means : (scratch groups room : ℕ) (sheet : List ℕ) → Meaning → Type 0
Means scratch groups room sheet m =
    Plays (Settles scratch sheet) (script_of sheet groups room) 0 unopened m.marks m.outcome m.told

-- any bytes mean something, and only one thing
pub record OneMeaning (scratch groups room : ℕ) (sheet : List ℕ) : Type 0 where
  pub some : (m : Meaning) × Means scratch groups room sheet m
  pub one : (m m' : Meaning) → Means scratch groups room sheet m → Means scratch groups room sheet m' → m ≡ m'

-- ---- on keepers

-- no keeper is open, or both tell alike descriptions
abbrev pub Matched : Told → Told → Type 0
Matched d e = Alike d e ⊎ ((d.n ≡ 0) × (e.n ≡ 0))

-- the run does not end at a keeper that has too little capacity
abbrev pub HadRoom : Result ℕ SheetFault → Type 0
HadRoom r = (f : SheetFault) → r ≡ Err f → f.cause ≢ Keeper (fault_of Capacity)

-- Some marks were written, and stand at the start of the list of marks. Where the keeper was unopened and the run does
-- not end for want of capacity, the same run on any unopened keeper of that capacity or more, with a list of as many
-- marks, whatever they were, writes the same ones, ends in the same way and tells an alike description.
pub record SameEverywhere (s : Setting) (t : Transition) (marks marks' : List StepMark) (r : Result ℕ SheetFault) : Type 0 where
  pub written : List StepMark
  pub marked : marks' ≡ written ++ drop (length written) marks
  pub same : t.before.n ≡ 0 → HadRoom r
      → (larger : ℕ) (u : Transition) (others others' : List StepMark) (r' : Result ℕ SheetFault)
      → s.capacity ≤ larger → u.before.n ≡ 0 → length others ≡ length marks
      → (other : Ran (record s { capacity = larger }) u others others' r')
      → (written ≡ other.written) × (r ≡ r') × Matched t.after u.after

-- Such a run, wherever it is made, writes the marks that the sheet means, ends as it means and tells a description
-- alike with the one that it means.
pub record AsMeant (s : Setting) (t : Transition) (marks marks' : List StepMark) (r : Result ℕ SheetFault) : Type 0 where
  pub written : List StepMark
  pub marked : marks' ≡ written ++ drop (length written) marks
  pub meant : t.before.n ≡ 0 → HadRoom r
      → (m : Meaning) → Means s.scratch s.groups (length marks) s.sheet m
      → (written ≡ m.marks) × (r ≡ m.outcome) × Matched t.after m.told
