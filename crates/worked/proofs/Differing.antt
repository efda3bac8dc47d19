-- Two shortcuts of the bind rule, each computed beside the rule.
use Rattle.std.proofs.Common.{◌≡◌, ℕ, true, false, List, [], ◌∷◌, ◌++◌, refl, subst, inl, inr, ◌≤◌, arith}
use lib.Bits.{bit_or}
use lib.Count.{ones}
use Rattle.agreement.proofs.Loans.{reckoned_with}
use Rattle.agreement.proofs.Unique.{one_reckoned}
use Rattle.agreement.specs.Reckoning.{Reckoned}
use Rattle.std.proofs.lemmas.Bool.{both_ways, ltb-true}
use Rattle.domain.proofs.Bits.{none_in, and_within}
use Rattle.domain.specs.Binding.{LinearTerm}
use Rattle.domain.specs.Terms.{bare_term, constant_term, over_term}
use Rattle.domain.specs.Told.{Told}
use Rattle.domain.specs.declared.limits.TheConstants.{MOST_GROUPS}
use Rattle.domain.specs.declared.term.Term.{Term}
use Rattle.worked.specs.Rows.{Row, Shows, SpeaksOf, Worked}
use Rattle.worked.specs.Shortcuts.{FreeAgain, CountedLinear, SharersAreNotLinear, Counting, OmittingGround, Differs, sharers, repeats, CountingDiffers, OmittingGroundDiffers}
use Rattle.worked.specs.Table.{bind_to, row}
use Rattle.worked.proofs.BindMarks.{marks_free_or_ground}
use Rattle.worked.proofs.Binds.{bound_by}
use Rattle.worked.proofs.Computing.{computing}
use Rattle.worked.proofs.Computed.{written, Reads, shown, found, claimed, reckoned, worked}
use Rattle.worked.proofs.Gathering.{Says, says_not}
use Rattle.worked.proofs.Positions.{IsMaskOf, marks_as, marks_self, marks_none, marks_or}
use Rattle.worked.proofs.States.{State, tell, linear_term, ground_of, bind_by}
use Rattle.worked.proofs.Verdicts.{says_linear_term}

-- the row of the calls before the bind, and what the shortcut makes of the state that it writes out
differs : {Shortcut : Told → ℕ → Term → Told → Type 0} {x : ℕ} {t : Term} (before right wrong : Row) → found before ≡ claimed before
    → right.n ≡ before.n → ((k : ℕ) → SpeaksOf right k → SpeaksOf before k) → right.calls ≡ before.calls ++ (bind_to x t ∷ []) → Worked right
    → Shortcut (tell (written before)) x t (tell (written wrong)) → Reads wrong → Differs Shortcut before.calls x t right wrong
differs {Shortcut} {x} {t} before right wrong c en speaks calls rule made reads =
    record {
      calls = calls;
      rule = rule;
      shortcut =
          λ k fits cs same d r.
          subst (λ (d : Told). (e : Told) × Shortcut d x t e × Shows wrong e)
          (one_reckoned.one before.n k before.calls (tell (written before)) d (reckoned before c k (speaks k fits))
          (reckoned_with before.n k before.calls cs same (subst (λ n. Reckoned n k cs d) en r)))
          (tell (written wrong), made, shown wrong reads);
    }

-- a term that is not bare
not_bare : (m : ℕ) → false ≡ true → ones m ≡ 1
not_bare m e = absurd (both_ways false refl e)

-- ---- counting

abbrev pair : Row
pair = row 2 2 (bind_to 0 (bare_term 1) ∷ []) (3 ∷ []) (3 ∷ []) 3 3

pub sharers_are_not_linear : SharersAreNotLinear
unfolding computing
sharers_are_not_linear cs same d r =
    subst (λ (d : Told). CountedLinear d (over_term 3 0) × (LinearTerm d (over_term 3 0) → ⊥))
    (one_reckoned.one 2 MOST_GROUPS pair.calls (tell (written pair)) d (reckoned pair refl MOST_GROUPS (omega arith, tt))
    (reckoned_with 2 MOST_GROUPS pair.calls cs same r)) (
      record { each = λ p i. (i, λ j. none_in j) },
      says_not (says_linear_term (written pair) (over_term 3 0) (ltb-true 3 4 refl)) refl,
    )

abbrev shared : Row
shared = row 5 5 sharers (7 ∷ 9 ∷ 17 ∷ []) (7 ∷ 9 ∷ 17 ∷ []) 30 31

counted : Says true (CountedLinear (tell (written shared)) (over_term 6 0))
counted =
    record {
      yes = λ e. record { each = λ p i. ((and_within 6 31 refl).each p i, λ j. none_in j) };
      no = λ c. refl;
    }

by_counting : Counting (tell (written shared)) 0 (over_term 6 0) (tell (bind_by true (ground_of 5) (written shared) 0 (over_term 6 0)))
unfolding bind_by
by_counting =
    bound_by (written shared) 0 (over_term 6 0) (not_bare 6) true (ground_of 5) counted
    (marks_free_or_ground (bind_by true (ground_of 5) (written shared) 0 (over_term 6 0)))

counted_state : bind_by true (ground_of 5) (written shared) 0 (over_term 6 0) ≡ record { n = 5; groups = 7 ∷ 15 ∷ 23 ∷ []; marks = record { free = 0; linear = 24 } }
unfolding computing
counted_state = refl

pub counting_differs : CountingDiffers
unfolding computing
counting_differs =
    differs {Shortcut = Counting} shared _ _ refl refl (λ k fits. fits) refl (worked _ refl)
    (subst (λ s. Counting (tell (written shared)) 0 (over_term 6 0) (tell s)) counted_state by_counting)
    (record { in_range = refl; core = refl })

-- ---- ground positions left out

abbrev repeated : Row
repeated = row 2 2 repeats (3 ∷ []) (3 ∷ []) 2 2

abbrev none_again : List ℕ → ℕ
none_again gs = 0

marks_free_again : (s : State) → IsMaskOf (FreeAgain (tell s)) (bit_or s.marks.free 0)
marks_free_again s =
    marks_as (λ p k. elim k [ inl i ↦ i | inr e ↦ absurd e ]) (λ p i. inl i) (marks_or (marks_self s.marks.free) marks_none)

omitting_ground : OmittingGround (tell (written repeated)) 0 constant_term (tell (bind_by (linear_term (written repeated) constant_term) none_again (written repeated) 0 constant_term))
unfolding bind_by
omitting_ground =
    bound_by (written repeated) 0 constant_term (not_bare 0) (linear_term (written repeated) constant_term) none_again
    (says_linear_term (written repeated) constant_term (ltb-true 0 4 refl))
    (marks_free_again (bind_by (linear_term (written repeated) constant_term) none_again (written repeated) 0 constant_term))

marked_state : bind_by (linear_term (written repeated) constant_term) none_again (written repeated) 0 constant_term ≡ record { n = 2; groups = []; marks = record { free = 0; linear = 2 } }
unfolding computing
marked_state = refl

pub omitting_ground_differs : OmittingGroundDiffers
unfolding computing
omitting_ground_differs =
    differs {Shortcut = OmittingGround} repeated _ _ refl refl (λ k fits. fits) refl (worked _ refl)
    (subst (λ s. OmittingGround (tell (written repeated)) 0 constant_term (tell s)) marked_state omitting_ground)
    (record { in_range = refl; core = refl })
