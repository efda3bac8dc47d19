-- One call, of two keepers that tell alike descriptions.
use Rattle.std.proofs.Common.{◌≡◌, ℕ, ◌≤◌, Bool, not, eqb, List, [], ◌∷◌, length, take, drop, Ok, Err, Option, Result, sym, refl, ap, ◌∙◌, subst, inl, inr, arith, take_at}
use Rattle.std.proofs.lemmas.Bool.{both_ways}
use Rattle.coverage.proofs.ChangeLaws.{change_alike}
use Rattle.coverage.proofs.CoreLeast.{core_kept, core_fits}
use Rattle.coverage.proofs.Cover.{alike_turned, same_turned}
use Rattle.coverage.proofs.Places.{share_kept, ground_kept}
use Rattle.domain.specs.Changes.{Makes, change_tests}
use Rattle.domain.specs.Coverage.{Alike, CoreFits, CoreList}
use Rattle.domain.specs.Masks.{In}
use Rattle.domain.specs.Refusals.{first_of}
use Rattle.domain.specs.Requests.{ask_tests, pair_tests}
use Rattle.domain.specs.Told.{Told, IsFree, IsLinear}
use Rattle.domain.specs.declared.marks.Marks.{Marks}
use Rattle.domain.specs.declared.refusal.Refusal.{Refusal}
use Rattle.domain.specs.declared.refusal.Refusal.TheVariants.{Order}
use Rattle.keeper.specs.Calls.{Changes, Answers, Writes, opened}
use Rattle.keeper.specs.Questions.{Asks}
use Rattle.keeper.specs.declared.fault.KeeperFault.{KeeperFault}
use Rattle.keeper.specs.declared.questions.Question.{Question}
use Rattle.keeper.specs.declared.questions.Question.TheVariants.{Ground, Free, Linear, Pair}
use Rattle.keeper.specs.declared.write_out.WrittenOut.{WrittenOut}
use Rattle.agreement.proofs.Agreeing.{changes_same, answers_agree, alike_ends}
use Rattle.agreement.proofs.Cores.{one_core}
use Rattle.agreement.specs.Sessions.{Call, Answer, refused, of_change, of_question, of_write_out, CalledBy, Session, done, calls}
use Rattle.agreement.specs.declared.call.KeeperCall.{KeeperCall}
use Rattle.agreement.specs.declared.call.KeeperCall.TheVariants.{Change, Ask, WriteOut}

opened_alike : {d d' : Told} → Alike d d' → opened d ≡ opened d'
opened_alike h = ap (λ (n : ℕ). not (eqb n 0)) h.positions

fits_list : {G : ℕ → Type 0} {k : ℕ} (gs : List ℕ) → CoreList G gs → length gs ≤ k → CoreFits G k
fits_list gs c h = record { groups = gs; short = h; holds = c.all }

module _ (d d' : Told) (alike : Alike d d') (list list' other other' : List ℕ) (long : length list ≡ length other) where
  pub writes_agree : (r r' : Result WrittenOut KeeperFault) → Writes d list list' r → Writes d' other other' r'
      → of_write_out r list' ≡ of_write_out r' other'
  writes_agree (Ok w) (Ok w') h h' =
      let gs = h.2.0 in
      let hs = h'.2.0 in
      let same : gs ≡ hs = one_core gs hs (λ g. core_kept alike.cover) (λ g. core_kept (same_turned alike.cover)) h.2.1 h'.2.1 in
      let front : take w.count list' ≡ gs = ap (λ (l : List ℕ). take w.count l) h.2.4 ∙ take_at gs (drop (length gs) list) w.count (sym h.2.2) in
      let front' : take w'.count other' ≡ hs = ap (λ (l : List ℕ). take w'.count l) h'.2.4 ∙ take_at hs (drop (length hs) other) w'.count (sym h'.2.2) in
      let count : w.count ≡ w'.count = h.2.2 ∙ ap length same ∙ sym h'.2.2 in
      let marks : w.marks ≡ w'.marks = h.1 ∙ alike.marks ∙ sym h'.1 in
      cc (front, front', same, count, marks)
  writes_agree (Ok w) (Err f) h h' =
      elim h'.1 [
        | inl none ↦ absurd (both_ways _ none.0 (sym (opened_alike alike) ∙ h.0))
        | inr small ↦ absurd (small.2 (core_fits alike (fits_list h.2.0 h.2.1 (let i = h.2.3 in omega arith))))
      ]
  writes_agree (Err f) (Ok w) h h' =
      elim h.1 [
        | inl none ↦ absurd (both_ways _ none.0 (opened_alike alike ∙ h'.0))
        | inr small ↦ absurd (small.2 (core_fits (alike_turned alike) (fits_list h'.2.0 h'.2.1 (let i = h'.2.3 in omega arith))))
      ]
  writes_agree (Err f) (Err f') h h' =
      elim h.1 [
        | inl none ↦ elim h'.1 [
          | inl none' ↦ ap (λ (x : KeeperFault). refused x.refusal) (none.1 ∙ sym none'.1)
          | inr small' ↦ absurd (both_ways _ none.0 (opened_alike alike ∙ small'.0))
        ]
        | inr small ↦ elim h'.1 [
          | inl none' ↦ absurd (both_ways _ none'.0 (sym (opened_alike alike) ∙ small.0))
          | inr small' ↦ ap (λ (x : KeeperFault). refused x.refusal) (small.1 ∙ sym small'.1)
        ]
      ]

-- a question of the same truth, with tests that look at n alone
ask_same : (d d' : Told) (refusal : ℕ → Option Refusal) (P P' : Type 0) → (P → P') → (P' → P) → Alike d d' → (r r' : Result Bool KeeperFault)
    → Answers (refusal d.n) P r → Answers (refusal d'.n) P' r' → r ≡ r'
ask_same d d' refusal P P' to from alike r r' h h' =
    answers_agree (refusal d.n) P P' to from r r' h (subst (λ (n : ℕ). Answers (refusal n) P' r') (sym alike.positions) h')

in_moved : {p m m' : ℕ} → m ≡ m' → In p m → In p m'
in_moved {p} e h = subst (λ (m : ℕ). In p m) e h

-- alike descriptions answer a question alike
pub asks_same : (q : Question) (d d' : Told) → Alike d d' → (r r' : Result Bool KeeperFault) → Asks d q r → Asks d' q r' → r ≡ r'
asks_same (Ground p) d d' alike r r' h h' =
    ask_same d d' (λ n. first_of ((not (not (eqb n 0)), Order) ∷ ask_tests n p)) _ _
    (ground_kept alike.positions alike.cover) (ground_kept (sym alike.positions) (same_turned alike.cover)) alike r r' h h'
asks_same (Free p) d d' alike r r' h h' =
    ask_same d d' (λ n. first_of ((not (not (eqb n 0)), Order) ∷ ask_tests n p)) (IsFree d p) (IsFree d' p)
    (in_moved (ap (λ (m : Marks). m.free) alike.marks)) (in_moved (ap (λ (m : Marks). m.free) (sym alike.marks))) alike r r' h h'
asks_same (Linear p) d d' alike r r' h h' =
    ask_same d d' (λ n. first_of ((not (not (eqb n 0)), Order) ∷ ask_tests n p)) (IsLinear d p) (IsLinear d' p)
    (in_moved (ap (λ (m : Marks). m.linear) alike.marks)) (in_moved (ap (λ (m : Marks). m.linear) (sym alike.marks))) alike r r' h h'
asks_same (Pair p q) d d' alike r r' h h' =
    ask_same d d' (λ n. first_of ((not (not (eqb n 0)), Order) ∷ pair_tests n p q)) _ _
    (share_kept alike.cover) (share_kept (same_turned alike.cover)) alike r r' h h'

-- keepers of one capacity that tell alike descriptions answer any call alike, and tell alike descriptions then
pub called_same : (capacity scratch room : ℕ) (c : KeeperCall (List ℕ)) (d d' e e' : Told) (a b : Answer) → Alike d d'
    → CalledBy capacity scratch room c d a e → CalledBy capacity scratch room c d' b e' → (a ≡ b) × Alike e e'
called_same k s room (Change c) d d' e e' a b alike h h' =
    -- the tests look at the number of positions alone
    let refusal : ℕ → Option Refusal = λ n. first_of ((not (not (eqb n 0)), Order) ∷ change_tests n c s) in
    let moved = subst (λ (n : ℕ). Changes (refusal n) k (Makes c d') Alike d' e' h'.result) (sym alike.positions) h'.promise in
    let both = changes_same k (Makes c d) (Makes c d') (λ u v. change_alike c alike) d d' alike (refusal d.n) e e' h.result h'.result h.promise moved in
    (h.answer ∙ ap of_change both.0 ∙ sym h'.answer, both.1)
called_same k s room (Ask q) d d' e e' a b alike h h' =
    (h.answer ∙ ap of_question (asks_same q d d' alike h.result h'.result h.promise h'.promise) ∙ sym h'.answer, alike_ends h.same h'.same alike)
called_same k s room WriteOut d d' e e' a b alike h h' = (
  h.answer ∙ writes_agree d d' alike h.list h.list' h'.list h'.list' (h.long ∙ sym h'.long) h.result h'.result h.promise h'.promise ∙ sym h'.answer,
  alike_ends h.same h'.same alike,
)

-- and so any list of calls
pub session_same : (capacity : ℕ) (cs : List Call) (d d' e e' : Told) (these those : List Answer) → Alike d d'
    → Session capacity cs d these e → Session capacity cs d' those e' → (these ≡ those) × Alike e e'
session_same k [] d d' e e' these those alike done done = (refl, alike)
session_same k (c ∷ cs) d d' e e' these those alike (calls {e = m} {a = a} {more = us} h hs) (calls {e = m'} {a = b} {more = vs} g gs) =
    let one = called_same k c.scratch c.room c.call d d' m m' a b alike h g in
    let rest = session_same k cs m m' e e' us vs one.1 hs gs in
    (ap (λ (x : Answer). x ∷ us) one.0 ∙ ap (λ (l : List Answer). b ∷ l) rest.0, rest.1)
