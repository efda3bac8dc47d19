-- A bind of a description that keeps the rules has a result.
use Rattle.std.proofs.Common.{ℕ, ◌+◌, ◌^◌, ◌<◌, ◌⊎◌, refl, inl, inr, arith}
use Rattle.domain.specs.Groups.{IsGround}
use Rattle.domain.specs.Told.{Told, Group, Lawful}
use Rattle.domain.specs.Coverage.{SameCover}
use Rattle.domain.specs.Binding.{Fits, NewGroup, StaysFree, StaysLinear, Bound}
use Rattle.domain.specs.declared.case.Case.{Case}
use Rattle.domain.specs.declared.term.Term.{Term}
use Rattle.domain.proofs.ChangeLaws.{new_range}
use Rattle.coverage.proofs.Searching.{dec_either}
use Rattle.coverage.proofs.Collecting.{Tested, tested, Positions, positions, in_lt}
use Rattle.coverage.proofs.Cover.{same_groups, same_turned}
use Rattle.coverage.proofs.Places.{ground_kept}
use Rattle.coverage.proofs.CoreLeast.{dec_group}
use Rattle.coverage.proofs.DecidedGroups.{dec_new_group}
use Rattle.coverage.proofs.DecidedTerms.{dec_ground, some_case, dec_stays_free, dec_stays_linear}

module _ {d : Told} (l : Lawful d) (x : ℕ) (t : Term) (c : Case) (f : Fits d x t c) where
  -- the groups of the result, and its linear positions
  abbrev After : ℕ → Type 0
  After = NewGroup (Group d) (2 ^ x) t.held c

  abbrev LinearAfter : ℕ → Type 0
  LinearAfter p = StaysLinear d x t p ⊎ (StaysFree d x t p ⊎ IsGround d.n After p)

  linear_lt : (p : ℕ) → LinearAfter p → p < d.marks.linear + (d.marks.free + d.n)
  linear_lt p (inl s) = omega (arith, in_lt s.was)
  linear_lt p (inr (inl s)) = omega (arith, in_lt s.was)
  linear_lt p (inr (inr u)) = omega (arith, u.position)

  dec_after : (g : ℕ) → Dec (After g)
  dec_after g = dec_new_group (dec_group d) (2 ^ x) t.held c g

  dec_linear_after : (p : ℕ) → Dec (LinearAfter p)
  dec_linear_after p =
      dec_either (dec_stays_linear l x t p)
      (dec_either (dec_stays_free l x t p)
      (dec_ground dec_after (2 ^ d.n) (λ g k. (new_range d l.in_range (2 ^ x) t.held c k).1) d.n p))

  bind_by_lem : Tested After → Positions (StaysFree d x t) → Positions LinearAfter → (e : Told) × Bound d x t e
  bind_by_lem groups free linear = (
    e,
    record {
      positions = refl;
      case = c;
      fits = f;
      groups_made = groups.all;
      groups_only = groups.only;
      free_kept = free.all;
      free_only = free.only;
      linear_kept = λ p s. linear.all p (inl s);
      linear_added = λ p s.
          linear.all p (inr (elim s [ inl i ↦ inl (free.only p i) | inr g ↦ inr (ground_kept refl same g) ]));
      linear_only =
          λ p i.
          elim (linear.only p i) [
            | inl s ↦ inl s
            | inr s ↦ inr (elim s [ inl k ↦ inl (free.all p k) | inr g ↦ inr (ground_kept refl (same_turned same) g) ])
          ];
    },
  )
    where
      e : Told
      e = record { n = d.n; groups = groups.test; marks = record { free = free.mask; linear = linear.mask } }

      same : SameCover (Group e) After
      same = same_groups groups.only groups.all

  bind_in_case : (e : Told) × Bound d x t e
  bind_in_case =
      bind_by_lem (tested dec_after) (positions (dec_stays_free l x t) d.marks.free (λ p s. in_lt s.was))
      (positions dec_linear_after (d.marks.linear + (d.marks.free + d.n)) linear_lt)

pub bind_made : (d : Told) (x : ℕ) (t : Term) → Lawful d → (e : Told) × Bound d x t e
bind_made d x t l = let r = some_case l x t in bind_in_case l x t r.0 r.1
