-- The marks of the bind rule.
use Rattle.std.proofs.Common.{ℕ, ◌^◌, Bool, inl, inr}
use lib.Bits.{bit_or}
use Rattle.domain.specs.Binding.{FreeTerm, StaysFree}
use Rattle.domain.specs.Groups.{Near, IsGround}
use Rattle.domain.specs.Requests.{held_by}
use Rattle.domain.specs.Told.{Group}
use Rattle.domain.specs.declared.term.Term.{Term}
use Rattle.worked.specs.Shortcuts.{StaysBy, FreeOrGround}
use Rattle.worked.proofs.BindGroups.{lists_told, lists_shared}
use Rattle.worked.proofs.Gathering.{Says}
use Rattle.worked.proofs.Positions.{says_has, IsMaskOf, marks_self, marks_as, marks_below, marks_or, marks_and, marks_without, marks_unless, marks_held}
use Rattle.worked.proofs.States.{State, tell, free_term, ground_of, side_groups, stays_free, stays_linear}

marks_near : (s : State) (a : ℕ) → IsMaskOf (Near (Group (tell s)) a) (held_by (side_groups s.groups a))
marks_near s a =
    marks_as (λ p h. record { group = h.group; told = h.told; holds = h.holds }) (λ p h. record { group = h.group; told = h.told; holds = h.holds })
    (marks_held (lists_shared (lists_told s) a a))

pub marks_free : (s : State) (x : ℕ) (t : Term) → Says (free_term s t) (FreeTerm (tell s) t) → IsMaskOf (StaysFree (tell s) x t) (stays_free s x t)
unfolding stays_free
marks_free s x t f =
    marks_as
    (λ p r. record { was = r.0; far_from_x = λ n i. r.1 (inl (n, i)); far_from_t = λ n i. r.1 (inr (n, i)) })
    (λ p k. (k.was, λ r. elim r [ inl q ↦ k.far_from_x q.0 q.1 | inr q ↦ k.far_from_t q.0 q.1 ]))
    (marks_without (marks_self s.marks.free) (marks_or (marks_unless f (marks_near s (2 ^ x))) (marks_unless (says_has x s.marks.free) (marks_near s t.held))))

pub marks_stays : {P : Type 0} {b : Bool} (s : State) (x : ℕ) (t : Term) → Says b P → IsMaskOf (StaysBy P (tell s) x t) (stays_linear b s x t)
unfolding stays_linear
marks_stays s x t f =
    marks_as
    (λ p r. record { was = r.0; far_from_both = λ i j. r.1 (inl (i, j)); far_from_x = λ n i. r.1 (inr (inl (n, i))); far_from_t = λ n i. r.1 (inr (inr (n, i))) })
    (λ p k. (k.was, λ r. elim r [ inl q ↦ k.far_from_both q.0 q.1 | inr u ↦ elim u [ inl q ↦ k.far_from_x q.0 q.1 | inr q ↦ k.far_from_t q.0 q.1 ] ]))
    (marks_without (marks_self s.marks.linear)
    (marks_or (marks_and (marks_near s (2 ^ x)) (marks_near s t.held))
    (marks_or (marks_unless f (marks_near s (2 ^ x))) (marks_unless (says_has x s.marks.linear) (marks_near s t.held)))))

marks_ground : (s : State) → IsMaskOf (IsGround s.n (Group (tell s))) (ground_of s.n s.groups)
unfolding ground_of
marks_ground s =
    marks_as
    (λ p r. record { position = r.0; none = λ g k i. r.1 (record { group = g; told = k; holds = i }) })
    (λ p g. (g.position, λ h. g.none h.group h.told h.holds))
    (marks_without (marks_below s.n) (marks_held (lists_told s)))

pub marks_free_or_ground : (s : State) → IsMaskOf (FreeOrGround (tell s)) (bit_or s.marks.free (ground_of s.n s.groups))
marks_free_or_ground s = marks_or (marks_self s.marks.free) (marks_ground s)
