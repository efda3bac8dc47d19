-- Alike keepers are those that nothing tells apart.
use Rattle.std.proofs.Common.{◌≡◌, ℕ, ◌+◌, ◌^◌, ◌<◌, ◌≤◌, true, not, List, [], ◌∷◌, ◌++◌, length, drop, replicate, Contains, Ok, sym, refl, ap, ◌∙◌, subst, arith, take_at, ne_eqb}
use Rattle.std.specs.List.{AllByRecursion}
use lib.ListN.{length-replicate}
use Rattle.coverage.proofs.CoreLeast.{core_kept, same_core}
use Rattle.coverage.proofs.Cover.{alike_turned, same_turned, alike_trans}
use Rattle.coverage.proofs.ExistsCore.{core_listed}
use Rattle.coverage.proofs.MostGroups.{most_listed}
use Rattle.domain.specs.Coverage.{Alike, CoreList}
use Rattle.domain.specs.Told.{Told, Group}
use Rattle.keeper.specs.Calls.{opened}
use Rattle.agreement.proofs.Calls.{session_same}
use Rattle.agreement.proofs.Loans.{session_with}
use Rattle.agreement.proofs.Reckoned.{reckoned_told}
use Rattle.agreement.proofs.Rules.{reckoned_lawful, reckoned_positions}
use Rattle.agreement.specs.Laws.{NothingTellsApart, NeverToldApart, AlikeAreNotToldApart}
use Rattle.agreement.specs.Sessions.{Call, CanBeMade, Answer, wrote, Session, done, calls}
use Rattle.agreement.specs.declared.call.KeeperCall.TheVariants.{WriteOut}

-- a core list of one of two alike descriptions is one of the other
pub core_moved : {d e : Told} {gs : List ℕ} → Alike d e → CoreList (Group d) gs → CoreList (Group e) gs
core_moved h c =
    record {
      only = λ g l. core_kept h.cover (c.only g l);
      all = λ g k. c.all g (core_kept (same_turned h.cover) k);
      ascending = c.ascending;
    }

-- a write-out into a list of so many entries
writing : ℕ → Call
writing room = record { call = WriteOut; scratch = 0; room = room }

possible : (room : ℕ) → room < 2 ^ 62 → AllByRecursion CanBeMade (writing room ∷ [])
unfolding writing
possible room small = (record { typed = tt; scratch = omega arith; room = small }, tt)

-- what a write-out answers where the list is long enough
wrote_of : (t : Told) → List ℕ → Answer
wrote_of t gs = wrote (length gs) t.marks gs

opened_some : (t : Told) → 0 < t.n → opened t ≡ true
opened_some t h = ap not (ne_eqb t.n 0 (λ e. omega arith))

writes_core : (capacity room : ℕ) (t : Told) (gs : List ℕ) → 0 < t.n → CoreList (Group t) gs → length gs ≤ room
    → Session capacity (writing room ∷ []) t (wrote_of t gs ∷ []) t
unfolding wrote_of writing
writes_core k room t gs some c fits =
    calls
    (record {
      list = list;
      list' = gs ++ drop (length gs) list;
      result = Ok (record { count = length gs; marks = t.marks });
      long = length-replicate room 0;
      promise = (opened_some t some, refl, (gs, c, refl, subst (λ (k : ℕ). length gs ≤ k) (sym (length-replicate room 0)) fits, refl));
      answer = ap (λ (l : List ℕ). wrote (length gs) t.marks l) (sym (take_at gs (drop (length gs) list) (length gs) refl));
      same = refl;
    })
    done
  where
    list : List ℕ
    list = replicate room 0

pub not_told_apart : (capacity : ℕ) (s t : Told) → AlikeAreNotToldApart capacity s t
unfolding wrote_of writing
not_told_apart k s t n cs ds d e gs rd gt re = (forth, back)
  where
    ds' : Alike d s
    ds' = reckoned_told rd gs

    et : Alike e t
    et = reckoned_told re gt

    forth : Alike d e → NeverToldApart k s t
    forth h fs gs these those s' t' same u v =
        (session_same k fs s t s' t' these those (alike_trans (alike_turned ds') (alike_trans h et)) u (session_with k fs gs same v)).0

    back : NothingTellsApart k s t → Alike d e
    back same =
        let c = core_listed d (reckoned_lawful rd) in
        let f = core_listed e (reckoned_lawful re) in
        let some : 0 < n = rd.opened.0 in
        let dn : d.n ≡ n = reckoned_positions rd in
        let en : e.n ≡ n = reckoned_positions re in
        let sn : d.n ≡ s.n = ds'.positions in
        let tn : e.n ≡ t.n = et.positions in
        let room : ℕ = length c.0 + length f.0 in
        let small : room < 2 ^ 62 =
        (let a = most_listed d (reckoned_lawful rd) c.0 c.1 in let b = most_listed e (reckoned_lawful re) f.0 f.1 in omega (arith, a, b)) in
        let one = writes_core k room s c.0 (omega arith) (core_moved ds' c.1) (omega arith) in
        let two = writes_core k room t f.0 (omega arith) (core_moved et f.1) (omega arith) in
        agree c.0 f.0 c.1 f.1 dn en (same (writing room ∷ []) (wrote_of s c.0 ∷ []) (wrote_of t f.0 ∷ []) s t (possible room small) one two)
      where
        agree : (gs hs : List ℕ) → CoreList (Group d) gs → CoreList (Group e) hs → d.n ≡ n → e.n ≡ n
            → wrote_of s gs ∷ [] ≡ wrote_of t hs ∷ [] → Alike d e
        agree gs hs c f dn en answers =
            let marks_same : s.marks ≡ t.marks = cc in
            let core_same : gs ≡ hs = cc in
            record {
              positions = dn ∙ sym en;
              marks = ds'.marks ∙ marks_same ∙ sym et.marks;
              cover = same_core d e
                  (λ g i. f.only g (subst (λ (l : List ℕ). Contains l g) core_same (c.all g i)))
                  (λ g i. c.only g (subst (λ (l : List ℕ). Contains l g) (sym core_same) (f.all g i)));
            }
