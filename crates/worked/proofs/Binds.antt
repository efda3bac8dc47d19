-- The computed bind is the bind of the rule, and of each choice of its two parts.
use Rattle.std.proofs.Common.{◌≡◌, ℕ, ◌^◌, ◌<◌, Bool, true, false, ◌⊎◌, List, refl, inl, inr}
use lib.Bits.{bit_or}
use lib.Count.{ones}
use Rattle.domain.specs.Binding.{FreeTerm, NewGroup, StaysFree, Bound}
use Rattle.domain.specs.Told.{Told, Group, IsFree, IsLinear}
use Rattle.domain.specs.declared.case.Case.{Case}
use Rattle.domain.specs.declared.term.Term.{Term}
use Rattle.worked.specs.Shortcuts.{FitsBy, StaysBy, BoundBy}
use Rattle.worked.proofs.BindGroups.{lists_told, lists_bound}
use Rattle.worked.proofs.BindMarks.{marks_free, marks_stays, marks_free_or_ground}
use Rattle.worked.proofs.Gathering.{Lists, Says, says_not}
use Rattle.worked.proofs.Parts.{rule_from}
use Rattle.worked.proofs.Positions.{has, says_has, IsMaskOf, marks_or}
use Rattle.worked.proofs.States.{State, tell, free_term, linear_term, ground_of, bind_by, case_of, bind_of}
use Rattle.worked.proofs.Verdicts.{says_free_term, says_linear_term}

fits : {L : Type 0} {d : Told} {x : ℕ} {t : Term} (a b c e : Bool) → Says a (IsFree d x) → Says b (FreeTerm d t) → Says c (IsLinear d x) → Says e L
    → FitsBy L d x t (case_of a b c e)
fits true b c e p q r s = inl (p.yes refl)
fits false true c e p q r s = inr (q.yes refl)
fits false false true true p q r s = (says_not p refl, says_not q refl, r.yes refl, s.yes refl)
fits false false true false p q r s = (says_not p refl, says_not q refl, r.yes refl, says_not s refl)
fits false false false true p q r s = (says_not p refl, says_not q refl, says_not r refl, s.yes refl)
fits false false false false p q r s = (says_not p refl, says_not q refl, says_not r refl, says_not s refl)

pub bound_by : {L : Type 0} {Again : Told → ℕ → Type 0} (s : State) (x : ℕ) (t : Term) (single : t.bare ≡ true → ones t.held ≡ 1)
    (b : Bool) (again : List ℕ → ℕ) → Says b L
    → (let e = bind_by b again s x t in IsMaskOf (Again (tell e)) (bit_or e.marks.free (again e.groups)))
    → BoundBy L Again (tell s) x t (tell (bind_by b again s x t))
unfolding bind_by
bound_by {L} {Again} s x t single b again says marks =
    record {
      positions = refl;
      case = c;
      fits = fits (has x s.marks.free) (free_term s t) (has x s.marks.linear) b (says_has x s.marks.free) says_free (says_has x s.marks.linear) says;
      groups_made = λ g k. told.only (groups.all k);
      groups_only = λ g k. groups.only (told.all k);
      free_kept = λ p k. free.all k;
      free_only = λ p i. free.only i;
      linear_kept = λ p k. linear.all (inl k);
      linear_added = λ p k. linear.all (inr k);
      linear_only = λ p i. linear.only i;
    }
  where
    says_free : Says (free_term s t) (FreeTerm (tell s) t)
    says_free = says_free_term s t single

    c : Case
    c = case_of (has x s.marks.free) (free_term s t) (has x s.marks.linear) b

    e : State
    e = bind_by b again s x t

    told : Lists (Group (tell e)) e.groups
    told = lists_told e

    groups : Lists (NewGroup (Group (tell s)) (2 ^ x) t.held c) e.groups
    groups = lists_bound (lists_told s) (2 ^ x) t.held c

    free : IsMaskOf (StaysFree (tell s) x t) e.marks.free
    free = marks_free s x t says_free

    linear : IsMaskOf (λ p. StaysBy L (tell s) x t p ⊎ Again (tell e) p) e.marks.linear
    linear = marks_or (marks_stays s x t says) marks

pub bound : (s : State) (x : ℕ) (t : Term) → t.held < 2 ^ s.n → (t.bare ≡ true → ones t.held ≡ 1) → Bound (tell s) x t (tell (bind_of s x t))
unfolding bind_of
bound s x t h single =
    rule_from (bound_by s x t single (linear_term s t) (ground_of s.n) (says_linear_term s t h) (marks_free_or_ground (bind_of s x t)))
