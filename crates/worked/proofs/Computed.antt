-- A row is right where its calls, computed, end in what it writes out.
use Rattle.std.proofs.Common.{◌≡◌, ℕ, ◌^◌, Bool, true, ◌&&◌, eqb, leb, ltb, ◌≤◌, List, [], ◌∷◌, refl, ap, ◌∙◌, subst, Some, None, Option, IfSome, sym, arith}
use Rattle.std.proofs.lemmas.Bool.{and_parts, eqb-true, leb-true, ltb-true}
use Rattle.agreement.proofs.Calls.{session_same}
use Rattle.agreement.proofs.Loans.{reckoned_with, session_with, calls_turned}
use Rattle.agreement.proofs.Unique.{one_reckoned}
use Rattle.agreement.specs.Reckoning.{Opened, Reckoned}
use Rattle.agreement.specs.Sessions.{Call, Answer, SameCalls, Session}
use Rattle.domain.proofs.Lists.{contains, listed}
use Rattle.domain.proofs.Opening.{new_lawful}
use Rattle.coverage.proofs.Places.{new_alike}
use Rattle.domain.specs.Coverage.{CoreList}
use Rattle.domain.specs.Opening.{New}
use Rattle.domain.specs.Requests.{held_by}
use Rattle.domain.specs.Told.{Told, Group}
use Rattle.domain.specs.declared.limits.TheConstants.{MOST_POSITIONS}
use Rattle.worked.specs.Rows.{Row, Shows, SpeaksOf, WorkedAt, Worked, AllWorked}
use Rattle.worked.proofs.BindGroups.{lists_told}
use Rattle.worked.proofs.CoreLists.{core_within}
use Rattle.worked.proofs.Running.{state_after, answers_of, are_accepted, all_larger, all_change, Ran, ran}
use Rattle.worked.proofs.States.{State, tell, new_of, core_of}
use Rattle.worked.proofs.Steps as steps

-- the state that a row writes out
abbrev pub written : Row → State
written r = record { n = r.n; groups = r.groups; marks = r.marks }

-- what it writes out of the groups is so
pub record Reads (r : Row) : Type 0 where
  pub in_range : ltb (held_by r.groups) (2 ^ r.n) ≡ true
  pub core : core_of r.n r.groups ≡ r.core

pub shown : (r : Row) → Reads r → Shows r (tell (written r))
shown r c =
    record {
      groups = λ g. (λ k. contains ((lists_told (written r)).all k), λ c. (lists_told (written r)).only (listed r.groups g c));
      core = subst (λ gs. CoreList (Group (tell (written r))) gs) c.core (core_within r.n (lists_told (written r)) c.in_range);
      marks = refl;
    }

-- ---- what is computed of a row, and what it claims

pub record Finding : Type 0 where
  -- it opens a keeper, gives it changes alone, and its groups are masks of n positions
  pub well_made : Bool
  pub state : State
  pub answers : List Answer
  pub core : List ℕ

-- the answers stay with more room, or there is to be no more
abbrev steady : Option ℕ → ℕ → List Answer → Bool
steady None least as' = are_accepted as'
steady (Some most) least as' = eqb most least

abbrev fits : Row → Bool
fits r = ltb 0 r.n && (leb r.n MOST_POSITIONS && (all_change r.calls && (ltb (held_by r.groups) (2 ^ r.n) && steady r.most r.least r.answers)))

abbrev pub found : Row → Finding
found r =
    record {
      well_made = fits r;
      state = state_after r.least r.calls (new_of r.n);
      answers = answers_of r.least r.calls (new_of r.n);
      core = core_of r.n r.groups;
    }

abbrev pub claimed : Row → Finding
claimed r = record { well_made = true; state = written r; answers = r.answers; core = r.core }

-- what is computed with the least room is so with any that the row speaks of
same_in_room : (most : Option ℕ) (least k : ℕ) (cs : List Call) (s : State) (as' : List Answer) → steady most least as' ≡ true → answers_of least cs s ≡ as'
    → least ≤ k → IfSome most (λ m. k ≤ m) → (state_after k cs s ≡ state_after least cs s) × (answers_of k cs s ≡ answers_of least cs s)
same_in_room None least k cs s as' st e low high = all_larger least k low cs s (subst (λ (l : List Answer). are_accepted l ≡ true) (sym e) st)
same_in_room (Some m) least k cs s as' st e low high =
    let same : m ≡ least = eqb-true m least st in
    let only : k ≡ least = omega arith in
    (ap (λ (j : ℕ). state_after j cs s) only, ap (λ (j : ℕ). answers_of j cs s) only)

module _ (r : Row) (c : found r ≡ claimed r) where
  fitting : (ltb 0 r.n ≡ true) × (leb r.n MOST_POSITIONS ≡ true) × (all_change r.calls ≡ true) × (ltb (held_by r.groups) (2 ^ r.n) ≡ true) × (steady r.most r.least r.answers ≡ true)
  fitting =
      let rest = ltb (held_by r.groups) (2 ^ r.n) && steady r.most r.least r.answers in
      let a = and_parts (ltb 0 r.n) (leb r.n MOST_POSITIONS && (all_change r.calls && rest)) (ap (λ (f : Finding). f.well_made) c) in
      let b = and_parts (leb r.n MOST_POSITIONS) (all_change r.calls && rest) a.1 in
      let d = and_parts (all_change r.calls) rest b.1 in
      let e = and_parts (ltb (held_by r.groups) (2 ^ r.n)) (steady r.most r.least r.answers) d.1 in
      (a.0, b.0, d.0, e.0, e.1)

  opened : Opened r.n
  opened = (ltb-true 0 r.n fitting.0, leb-true r.n MOST_POSITIONS fitting.1)

  reads : Reads r
  reads = record { in_range = fitting.3; core = ap (λ (f : Finding). f.core) c }

  module _ (k : ℕ) (speaks : SpeaksOf r k) where
    same : (state_after k r.calls (new_of r.n) ≡ state_after r.least r.calls (new_of r.n)) × (answers_of k r.calls (new_of r.n) ≡ answers_of r.least r.calls (new_of r.n))
    same = same_in_room r.most r.least k r.calls (new_of r.n) r.answers fitting.4 (ap (λ (f : Finding). f.answers) c) speaks.0 speaks.1

    runs : Ran k r.calls (new_of r.n)
    runs = ran k r.calls (new_of r.n) fitting.2 (new_lawful opened.0 opened.1 (steps.new r.n))

    pub reckoned : Reckoned r.n k r.calls (tell (written r))
    reckoned =
        subst (λ s. Reckoned r.n k r.calls (tell s)) (same.0 ∙ ap (λ (f : Finding). f.state) c)
        (record { opened = opened; start = tell (new_of r.n); new = steps.new r.n; reckons = runs.reckons })

    one_answer : (start after : Told) (those : List Answer) → New r.n start → Session k r.calls start those after → those ≡ r.answers
    one_answer start after those new session =
        (session_same k r.calls start (tell (new_of r.n)) after (tell (state_after k r.calls (new_of r.n))) those
        (answers_of k r.calls (new_of r.n)) (new_alike new (steps.new r.n)) session runs.session).0
        ∙ same.1 ∙ ap (λ (f : Finding). f.answers) c

    pub worked_at : (cs : List Call) → SameCalls r.calls cs → WorkedAt r k cs
    worked_at cs alike =
        record {
          told = tell (written r);
          reckoned = reckoned_with r.n k cs r.calls (calls_turned r.calls cs alike) reckoned;
          shows =
              λ d h.
              subst (λ (e : Told). Shows r e)
              (one_reckoned.one r.n k r.calls (tell (written r)) d reckoned (reckoned_with r.n k r.calls cs alike h)) (shown r reads);
          answers = λ start after those new session. one_answer start after those new (session_with k r.calls cs alike session);
        }

  pub worked : Worked r
  worked = worked_at

-- ---- a list of rows

abbrev pub all_found : List Row → List Finding
all_found [] = []
all_found (r ∷ rs) = found r ∷ all_found rs

abbrev pub all_claimed : List Row → List Finding
all_claimed [] = []
all_claimed (r ∷ rs) = claimed r ∷ all_claimed rs

pub all_worked : (rs : List Row) → all_found rs ≡ all_claimed rs → AllWorked rs
all_worked [] c = tt
all_worked (r ∷ rs) c =
    let one : found r ≡ claimed r = cc in
    let others : all_found rs ≡ all_claimed rs = cc in
    (worked r one, all_worked rs others)
