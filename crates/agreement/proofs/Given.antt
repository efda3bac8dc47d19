-- The keepers that the laws over runs speak of, and what the answer of a comparison means for them.
use Rattle.std.proofs.Common.{◌≡◌, ℕ, Bool, ◌||◌, eqb, ltb, List, [], ◌∷◌, ◌++◌, Some, None, Ok, Err, Option, Result, sym, refl, ◌∙◌, subst, arith}
use Rattle.std.specs.Prelude.{IfOk, IsTrue, ◌↔◌, OnOk}
use Rattle.std.proofs.lemmas.Bool.{eqb-false, or_parts, ltb-false}
use Rattle.coverage.proofs.Cover.{alike_turned, alike_trans}
use Rattle.domain.proofs.Refusing.{passed}
use Rattle.domain.specs.Coverage.{Alike}
use Rattle.domain.specs.Opening.{New}
use Rattle.domain.specs.Refusals.{first_of}
use Rattle.domain.specs.Requests.{open_tests, room_tests}
use Rattle.domain.specs.Told.{Told}
use Rattle.domain.specs.declared.limits.TheConstants.{MOST_POSITIONS}
use Rattle.domain.specs.declared.refusal.Refusal.{Refusal}
use Rattle.domain.specs.declared.refusal.Refusal.TheVariants.{Count, Order}
use Rattle.keeper.specs.Calls.{Changes, Exactly, Opens, open_refusal, opened}
use Rattle.keeper.specs.declared.fault.KeeperFault.{KeeperFault}
use Rattle.keeper.specs.declared.write_out.WrittenOut.{WrittenOut}
use Rattle.agreement.proofs.Holding.{session_more}
use Rattle.agreement.proofs.Loans.{calls_self}
use Rattle.agreement.proofs.Reckoned.{reckoned_told}
use Rattle.agreement.proofs.Rules.{reckoned_positions}
use Rattle.agreement.proofs.ToldApart.{not_told_apart}
use Rattle.agreement.proofs.Unique.{one_reckoned}
use Rattle.agreement.specs.Comparing.{Compared, SameTold, Second}
use Rattle.agreement.specs.Laws.{NothingTellsApart, MeansAlike, OpensGiven, OneMoreGiven}
use Rattle.agreement.specs.Reckoning.{Opened, Given}
use Rattle.agreement.specs.Sessions.{Call, Answer, Called, done}

-- an open that no test refuses is of a number of positions that a description can have
few_opened : (n z : ℕ) (before : Told) → open_refusal before n z ≡ None → Opened n
few_opened n z before q =
    let a = passed (opened before) Order (first_of (open_tests n ++ room_tests n z)) (sym q) in
    let b = passed (eqb n 0 || ltb MOST_POSITIONS n) Count (first_of (room_tests n z)) a.1 in
    let c = or_parts (eqb n 0) (ltb MOST_POSITIONS n) b.0 in
    let some : n ≡ 0 → ⊥ = eqb-false n 0 c.0 in
    (omega (arith, some), ltb-false MOST_POSITIONS n c.1)

pub opens_given : (k n z : ℕ) (before after : Told) (r : Result (Unit {0}) KeeperFault) → Opens k n z before after r → OpensGiven n k after r
opens_given k n z before after r h = go (open_refusal before n z) refl r h
  where
    go : (o : Option Refusal) → open_refusal before n z ≡ o → (r : Result (Unit {0}) KeeperFault) → Changes o k (New n) Exactly before after r
        → OnOk r (Opened n × Given n k [] after)
    go (Some e) q (Ok u) h = absurd (let p = h.0 in cc)
    go (Some e) q (Err f) h = tt
    go None q (Ok u) h =
        (few_opened n z before q, record { start = after; new = subst (λ (e : Told). New n e) h.3 h.1; answers = []; session = done })
    go None q (Err f) h = tt

pub given_more : (k : ℕ) (c : Call) (a : Answer) (before after : Told) → Called k c before a after → OneMoreGiven k c before after
given_more k c a before after called n cs g =
    record { start = g.start; new = g.new; answers = g.answers ++ a ∷ []; session = session_more c a g.session called }

-- ---- a comparison

-- of keepers opened with one n, the same is told exactly where nothing tells them apart
module _ (k : ℕ) (s t : Told) (n : ℕ) (cs ds : List Call) (o : Opened n) (g : Given n k cs s) (h : Given n k ds t) where
  same_told : SameTold s t ↔ NothingTellsApart k s t
  same_told =
      let rd = one_reckoned.some n k cs o in
      let re = one_reckoned.some n k ds o in
      let a : Alike rd.0 s = reckoned_told rd.1 g in
      let b : Alike re.0 t = reckoned_told re.1 h in
      let law = not_told_apart k s t n cs ds rd.0 re.0 g rd.1 h re.1 in
      let dn = reckoned_positions rd.1 in
      let en = reckoned_positions re.1 in (
        λ m fs these those s' t' can u v. law.0 (alike_trans a (alike_trans (record { positions = sym a.positions ∙ dn ∙ sym en ∙ b.positions; marks = m.marks; cover = m.cover }) (alike_turned b))) fs fs these those s' t' (calls_self fs) u v,
        λ none. let both = alike_trans (alike_turned a) (alike_trans (law.1 none) b) in record { marks = both.marks; cover = both.cover },
      )

pub means_alike : (k : ℕ) (s t : Told) (first first' second second' : List ℕ) (r : Result Bool KeeperFault)
    → Compared s t first first' second second' r → MeansAlike k s t r
means_alike k s t first first' second second' r c n cs ds o g h = go c.one c.rest
  where
    go : (one : Result WrittenOut KeeperFault) → Second s t second second' one r → IfOk r (λ yes'. IsTrue yes' ↔ NothingTellsApart k s t)
    go (Err f) rest = subst (λ (r : Result Bool KeeperFault). IfOk r (λ yes'. IsTrue yes' ↔ NothingTellsApart k s t)) (sym rest.1) tt
    go (Ok w) (Err f, writes, answered) =
        subst (λ (r : Result Bool KeeperFault). IfOk r (λ yes'. IsTrue yes' ↔ NothingTellsApart k s t)) (sym answered) tt
    go (Ok w) (Ok v, writes, answered) =
        subst (λ (r : Result Bool KeeperFault). IfOk r (λ yes'. IsTrue yes' ↔ NothingTellsApart k s t)) (sym answered.1)
        (let same = same_told k s t n cs ds o g h in (λ e. same.0 (answered.2.0 e), λ none. answered.2.1 (same.1 none)))
