-- Calls and answers that are given as values, read as those of a session.
use Rattle.std.specs.Prelude.{◌≡◌, ℕ, List, [], ◌∷◌, map, take, drop, Ok, Err, Result}
use Rattle.std.specs.Borrow.{Bor}
use Rattle.domain.specs.Changes.{lent_change}
use Rattle.domain.specs.Coverage.{Alike}
use Rattle.domain.specs.Opening.{New}
use Rattle.domain.specs.Told.{Told}
use Rattle.agreement.specs.Reckoning.{Reckoned, Given}
use Rattle.agreement.specs.Sessions.{Call, Answer, accepted, says, refused, wrote, Session}
use Rattle.agreement.specs.declared.call.KeeperCall.{KeeperCall}
use Rattle.agreement.specs.declared.call.KeeperCall.TheVariants.{Change, Ask, WriteOut}
use Rattle.agreement.specs.declared.call.KeeperAnswer.{KeeperAnswer}
use Rattle.agreement.specs.declared.call.KeeperAnswer.TheVariants.{Accepted, Says, Wrote}
use Rattle.keeper.specs.declared.fault.KeeperFault.{KeeperFault}

-- a call whose groups lie in a slice that is lent
abbrev pub lent_call : KeeperCall (Bor (List ℕ)) → KeeperCall (List ℕ)
lent_call (Change c) = Change (lent_change c)
lent_call (Ask q) = Ask q
lent_call WriteOut = WriteOut

-- a call, with the lengths of the scratch and of the list that are lent
abbrev pub call_of : (scratch room : ℕ) → KeeperCall (Bor (List ℕ)) → Call
call_of scratch room c = record { call = lent_call c; scratch = scratch; room = room }

abbrev pub calls_of : (scratch room : ℕ) → List (KeeperCall (Bor (List ℕ))) → List Call
calls_of scratch room cs = map (call_of scratch room) cs

-- what a call given as a value comes to: an answer or the keeper's fault
abbrev pub Reply : Type 0
Reply = Result KeeperAnswer KeeperFault

-- a reply, with the lent list after the call: the groups of a write-out are its first entries
abbrev pub answer_of : Reply → List ℕ → Answer
answer_of (Ok Accepted) list = accepted
answer_of (Ok (Says yes')) list = says yes'
answer_of (Ok (Wrote w)) list = wrote w.count w.marks (take w.count list)
answer_of (Err f) list = refused f.refusal

-- the lent list stays, but for the groups of a write-out
abbrev pub StaysBut : Reply → List ℕ → List ℕ → Type 0
StaysBut (Ok Accepted) list list' = list' ≡ list
StaysBut (Ok (Says yes')) list list' = list' ≡ list
StaysBut (Ok (Wrote w)) list list' = drop w.count list' ≡ drop w.count list
StaysBut (Err f) list list' = list' ≡ list

-- the list from answer to answer, each with the list after its call
abbrev pub Lent : List ℕ → List (Reply × List ℕ) → List ℕ → Type 0
Lent list [] last = last ≡ list
Lent list (a ∷ more) last = StaysBut a.0 list a.1 × Lent a.1 more last

-- So many calls were given, one after the other: they are a session, and its answers stand at the start of `answers`,
-- whose other entries stay. The lent list is as the last write-out left it.
pub record Held (capacity : ℕ) (cs : List Call) (number : ℕ) (before after : Told) (list list' : List ℕ)
    (answers answers' : List Reply) : Type 0 where
  pub given : List (Reply × List ℕ)
  pub session : Session capacity cs before (map (λ (a : Reply × List ℕ). answer_of a.0 a.1) given) after
  pub lent : Lent list given list'
  pub answered : take number answers' ≡ map (λ (a : Reply × List ℕ). a.0) given
  pub rest : drop number answers' ≡ drop number answers

-- Where a new description of n positions was told before, the keeper is one of those that the laws over runs speak of,
-- and what it tells is alike with its reckoned description.
abbrev pub UnderTheLaws : ℕ → List Call → Told → Told → Type 0
UnderTheLaws capacity cs before after =
    (n : ℕ) → New n before → Given n capacity cs after × ((d : Told) → Reckoned n capacity cs d → Alike d after)
