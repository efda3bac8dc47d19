-- Sessions: lists of calls of a keeper, refused ones with them, and the answers it gives.
use Rattle.std.specs.Prelude.{◌≡◌, ℕ, ◌^◌, ◌<◌, Bool, List, [], ◌∷◌, length, take, Ok, Err, Result}
use Rattle.domain.specs.Changes.{IsTyped}
use Rattle.domain.specs.Told.{Told}
use Rattle.domain.specs.declared.marks.Marks.{Marks}
use Rattle.domain.specs.declared.refusal.Refusal.{Refusal}
use Rattle.keeper.specs.Calls.{ChangesBy, Writes}
use Rattle.keeper.specs.Questions.{Asks, IsTypedQuestion}
use Rattle.keeper.specs.declared.fault.KeeperFault.{KeeperFault}
use Rattle.keeper.specs.declared.write_out.WrittenOut.{WrittenOut}
use Rattle.agreement.specs.declared.call.KeeperCall.{KeeperCall}
use Rattle.agreement.specs.declared.call.KeeperCall.TheVariants.{Change, Ask, WriteOut}

-- a call of an opened keeper, given with so many bytes of scratch and a list of so many entries
pub record Call : Type 0 where
  pub call : KeeperCall (List ℕ)
  pub scratch : ℕ
  pub room : ℕ

-- by the kind of call
abbrev pub IsTypedCall : KeeperCall (List ℕ) → Type 0
IsTypedCall (Change c) = IsTyped c
IsTypedCall (Ask q) = IsTypedQuestion q
IsTypedCall WriteOut = Unit {0}

-- the call can be made: its arguments are in the ranges of their types, and what is lent with it exists, since
-- no slice has 2 to the power 63 bytes
pub record CanBeMade (c : Call) : Type 0 where
  pub typed : IsTypedCall c.call
  pub scratch : c.scratch < 2 ^ 63
  pub room : c.room < 2 ^ 62

-- accepted, yes or no, a refusal, or a write-out's count, marks and groups
pub data Answer : Type 0 where
  accepted : Answer
  says : Bool → Answer
  refused : Refusal → Answer
  wrote : (count : ℕ) → Marks → List ℕ → Answer

abbrev pub of_change : Result (Unit {0}) KeeperFault → Answer
of_change (Ok u) = accepted
of_change (Err f) = refused f.refusal

abbrev pub of_question : Result Bool KeeperFault → Answer
of_question (Ok b) = says b
of_question (Err f) = refused f.refusal

-- the groups are the first entries of the list
abbrev pub of_write_out : Result WrittenOut KeeperFault → List ℕ → Answer
of_write_out (Ok w) list = wrote w.count w.marks (take w.count list)
of_write_out (Err f) list = refused f.refusal

-- a question, which leaves what is told
pub record Asked (Says : Result Bool KeeperFault → Type 0) (d : Told) (a : Answer) (e : Told) : Type 0 where
  pub result : Result Bool KeeperFault
  pub promise : Says result
  pub answer : a ≡ of_question result
  pub same : e ≡ d

-- a call that may change what is told
pub record Changed (Does : Result (Unit {0}) KeeperFault → Type 0) (a : Answer) : Type 0 where
  pub result : Result (Unit {0}) KeeperFault
  pub promise : Does result
  pub answer : a ≡ of_change result

-- a write-out into a list of so many entries
pub record Wrote (room : ℕ) (d : Told) (a : Answer) (e : Told) : Type 0 where
  pub list : List ℕ
  pub list' : List ℕ
  pub result : Result WrittenOut KeeperFault
  pub long : length list ≡ room
  pub promise : Writes d list list' result
  pub answer : a ≡ of_write_out result list'
  pub same : e ≡ d

-- by the kind of call
abbrev pub CalledBy : (capacity scratch room : ℕ) → KeeperCall (List ℕ) → Told → Answer → Told → Type 0
CalledBy capacity scratch room (Change c) d a e = Changed (ChangesBy c capacity scratch d e) a
CalledBy capacity scratch room (Ask q) d a e = Asked (Asks d q) d a e
CalledBy capacity scratch room WriteOut d a e = Wrote room d a e

-- Called capacity c d a e: a keeper of that capacity that tells d may answer the call c by a and then tell e.
-- This is what the contracts of the calls promise of every build, as `session::give` shows.
abbrev pub Called : ℕ → Call → Told → Answer → Told → Type 0
Called capacity c = CalledBy capacity c.scratch c.room c.call

-- the calls in their order, the answers, and what is told in the end
pub data Session (capacity : ℕ) : List Call → Told → List Answer → Told → Type 0 where
  done : {d : Told} → Session capacity [] d [] d
  calls : {c : Call} {cs : List Call} {d e z : Told} {a : Answer} {more : List Answer}
      → Called capacity c d a e → Session capacity cs e more z → Session capacity (c ∷ cs) d (a ∷ more) z

-- ---- the same calls, whatever is lent with them that they do not work in

-- by the kind of call: a change works in its scratch, a write-out in its list, a question in neither
abbrev pub SameLoan : KeeperCall (List ℕ) → (scratch scratch' room room' : ℕ) → Type 0
SameLoan (Change c) scratch scratch' room room' = scratch' ≡ scratch
SameLoan (Ask q) scratch scratch' room room' = Unit {0}
SameLoan WriteOut scratch scratch' room room' = room' ≡ room

-- one call twice, with as much lent of what it works in
pub record SameCall (c d : Call) : Type 0 where
  pub call : d.call ≡ c.call
  pub loan : SameLoan c.call c.scratch d.scratch c.room d.room

-- over two lists of calls
abbrev pub SameCalls : List Call → List Call → Type 0
SameCalls [] [] = Unit {0}
SameCalls [] (d ∷ ds) = ⊥
SameCalls (c ∷ cs) [] = ⊥
SameCalls (c ∷ cs) (d ∷ ds) = SameCall c d × SameCalls cs ds
