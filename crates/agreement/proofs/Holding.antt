-- Calls given one after the other.
use Rattle.std.proofs.Common.{◌≡◌, ℕ, ◌+◌, ◌<◌, List, [], ◌∷◌, ◌++◌, map, length, get_or, take, drop, set, sym, refl, ap, ◌∙◌, subst, arith, drop-drop, drop-set-lt}
use Rattle.std.proofs.lemmas.List.{take_more_set, map_push, map_more}
use Rattle.std.specs.Borrow.{Bor}
use Rattle.domain.specs.Told.{Told}
use Rattle.agreement.proofs.Reckoned.{reckoned_told}
use Rattle.agreement.specs.Giving.{Reply, call_of, calls_of, answer_of, StaysBut, Lent, Held, UnderTheLaws}
use Rattle.agreement.specs.Reckoning.{Given}
use Rattle.agreement.specs.Sessions.{Call, Answer, Called, Session, done, calls}
use Rattle.agreement.specs.declared.call.KeeperCall.{KeeperCall}

pub session_more : {capacity : ℕ} {cs : List Call} {said : List Answer} {d e z : Told} (c : Call) (a : Answer)
    → Session capacity cs d said e → Called capacity c e a z → Session capacity (cs ++ c ∷ []) d (said ++ a ∷ []) z
session_more c a done h = calls h done
session_more c a (calls g gs) h = calls g (session_more c a gs h)

lent_more : (given : List (Reply × List ℕ)) (first last next : List ℕ) (a : Reply)
    → Lent first given last → StaysBut a last next → Lent first (given ++ (a, next) ∷ []) next
lent_more [] first last next a h r = (subst (λ (l : List ℕ). StaysBut a l next) h r, refl)
lent_more (x ∷ given) first last next a h r = (h.0, lent_more given x.1 last next a h.1 r)

pub held_none : {capacity : ℕ} {d : Told} (list : List ℕ) (answers : List Reply) → Held capacity [] 0 d d list list answers answers
held_none list answers = record { given = []; session = done; lent = refl; answered = refl; rest = refl }

abbrev read : Reply × List ℕ → Answer
read x = answer_of x.0 x.1

-- one more call, by a keeper of that capacity still, with scratch and a list of the same lengths still
pub held_more : (capacity scratch room : ℕ) (cs : List (KeeperCall (Bor (List ℕ)))) (i : ℕ) (before d e : Told) (list last next : List ℕ)
    (answers present : List Reply) (c : KeeperCall (Bor (List ℕ))) (a : Reply) (capacity' scratch' : ℕ)
    → capacity' ≡ capacity → scratch' ≡ scratch → length last ≡ room → i < length cs → i < length present
    → Held capacity (calls_of scratch room (take i cs)) i before d list last answers present
    → Called capacity' (call_of scratch' (length last) (get_or cs i c)) d (answer_of a next) e → StaysBut a last next
    → Held capacity (calls_of scratch room (take (i + 1) cs)) (i + 1) before e list next answers (set present i a)
held_more k s m cs i before d e list last next answers present c a k' s' p q l here place h called rest =
    let call = call_of s m (get_or cs i c) in
    let moved : Called k call d (answer_of a next) e =
    subst (λ (k : ℕ). Called k call d (answer_of a next) e) p
    (subst (λ (s : ℕ). Called k' (call_of s m (get_or cs i c)) d (answer_of a next) e) q
    (subst (λ (m : ℕ). Called k' (call_of s' m (get_or cs i c)) d (answer_of a next) e) l called)) in
    record {
      given = h.given ++ (a, next) ∷ [];
      session =
          subst (λ (cs : List Call). Session k cs before (map read (h.given ++ (a, next) ∷ [])) e) (sym (map_more (call_of s m) cs i c here))
          (subst (λ (said : List Answer). Session k (calls_of s m (take i cs) ++ call ∷ []) before said e) (sym (map_push read h.given (a, next)))
          (session_more call (answer_of a next) h.session moved));
      lent = lent_more h.given list last next a h.lent rest;
      answered = take_more_set present i a place ∙ ap (λ (l : List Reply). l ++ a ∷ []) h.answered ∙ sym (map_push (λ (x : Reply × List ℕ). x.0) h.given (a, next));
      rest = drop-set-lt (i + 1) present i a (omega arith) ∙ sym (drop-drop 1 i present) ∙ ap (drop 1) h.rest ∙ drop-drop 1 i answers;
    }

-- a keeper that was new is under the laws
pub held_lawful : {capacity : ℕ} {cs : List Call} {number : ℕ} {before after : Told} {list list' : List ℕ} {answers answers' : List Reply}
    → Held capacity cs number before after list list' answers answers' → UnderTheLaws capacity cs before after
held_lawful {before = before} h n new =
    let given : Given n _ _ _ = record { start = before; new = new; answers = map read h.given; session = h.session } in
    (given, λ d r. reckoned_told r given)
