-- The reckoned description: what the rules make of a list of calls, whatever the build.
use Rattle.std.specs.Prelude.{◌≡◌, ℕ, ◌<◌, ◌≤◌, List, [], ◌∷◌, Some, None, Option}
use Rattle.domain.specs.Changes.{Makes}
use Rattle.domain.specs.Coverage.{CoreFits}
use Rattle.domain.specs.Opening.{New}
use Rattle.domain.specs.Told.{Told, Group}
use Rattle.domain.specs.declared.limits.TheConstants.{MOST_POSITIONS}
use Rattle.domain.specs.declared.refusal.Refusal.{Refusal}
use Rattle.keeper.specs.Calls.{change_refusal}
use Rattle.agreement.specs.Sessions.{Call, Answer, Session}
use Rattle.agreement.specs.declared.call.KeeperCall.{KeeperCall}
use Rattle.agreement.specs.declared.call.KeeperCall.TheVariants.{Change, Ask, WriteOut}

-- A change that its tests refuse, or whose result's core exceeds the capacity, leaves the description;
-- any other makes it exactly what the rule gives.
pub data TakesEffect (capacity : ℕ) (refusal : Option Refusal) (Rule : Told → Type 0) (d : Told) : Told → Type 0 where
  refused : {r : Refusal} → refusal ≡ Some r → TakesEffect capacity refusal Rule d d
  exceeds : {e : Told} → refusal ≡ None → Rule e → (CoreFits (Group e) capacity → ⊥) → TakesEffect capacity refusal Rule d d
  makes : {e : Told} → refusal ≡ None → Rule e → CoreFits (Group e) capacity → TakesEffect capacity refusal Rule d e

-- questions and write-outs leave it
abbrev pub ReckonsBy : (capacity scratch : ℕ) → KeeperCall (List ℕ) → Told → Told → Type 0
ReckonsBy capacity scratch (Change c) d e = TakesEffect capacity (change_refusal d c scratch) (Makes c d) d e
ReckonsBy capacity scratch (Ask q) d e = e ≡ d
ReckonsBy capacity scratch WriteOut d e = e ≡ d

abbrev pub Reckons : ℕ → Call → Told → Told → Type 0
Reckons capacity c = ReckonsBy capacity c.scratch c.call

-- over a list of calls
pub data ReckonsAll (capacity : ℕ) : List Call → Told → Told → Type 0 where
  done : {d : Told} → ReckonsAll capacity [] d d
  calls : {c : Call} {cs : List Call} {d e z : Told} → Reckons capacity c d e → ReckonsAll capacity cs e z → ReckonsAll capacity (c ∷ cs) d z

-- an open of n positions is accepted where n is from 1 to the most
abbrev pub Opened : ℕ → Type 0
Opened n = (0 < n) × (n ≤ MOST_POSITIONS)

-- d is reckoned from n, the capacity and the calls alone: it starts new
pub record Reckoned (n capacity : ℕ) (cs : List Call) (d : Told) : Type 0 where
  pub opened : Opened n
  pub start : Told
  pub new : New n start
  pub reckons : ReckonsAll capacity cs start d

-- t is told by a keeper of that capacity that was opened with n positions and then given the calls
pub record Given (n capacity : ℕ) (cs : List Call) (t : Told) : Type 0 where
  pub start : Told
  pub new : New n start
  pub answers : List Answer
  pub session : Session capacity cs start answers t
