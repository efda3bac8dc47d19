-- The bind rule is the rule of its two parts.
use Rattle.std.proofs.Common.{ℕ, inl, inr}
use Rattle.domain.specs.Binding.{LinearTerm, Fits, StaysLinear, Bound}
use Rattle.domain.specs.Told.{Told}
use Rattle.domain.specs.declared.case.Case.TheVariants.{Free, BothLinear, PositionLinear, TermLinear, Neither}
use Rattle.domain.specs.declared.case.Case.{Case}
use Rattle.domain.specs.declared.term.Term.{Term}
use Rattle.worked.specs.Shortcuts.{FitsBy, StaysBy, BoundBy, FreeOrGround, RuleOfParts}

fits_to : (d : Told) (x : ℕ) (t : Term) (c : Case) → Fits d x t c → FitsBy (LinearTerm d t) d x t c
fits_to d x t Free f = f
fits_to d x t BothLinear f = f
fits_to d x t PositionLinear f = f
fits_to d x t TermLinear f = f
fits_to d x t Neither f = f

fits_from : (d : Told) (x : ℕ) (t : Term) (c : Case) → FitsBy (LinearTerm d t) d x t c → Fits d x t c
fits_from d x t Free f = f
fits_from d x t BothLinear f = f
fits_from d x t PositionLinear f = f
fits_from d x t TermLinear f = f
fits_from d x t Neither f = f

stays_to : {d : Told} {x p : ℕ} {t : Term} → StaysLinear d x t p → StaysBy (LinearTerm d t) d x t p
stays_to k = record { was = k.was; far_from_both = k.far_from_both; far_from_x = k.far_from_x; far_from_t = k.far_from_t }

stays_from : {d : Told} {x p : ℕ} {t : Term} → StaysBy (LinearTerm d t) d x t p → StaysLinear d x t p
stays_from k = record { was = k.was; far_from_both = k.far_from_both; far_from_x = k.far_from_x; far_from_t = k.far_from_t }

rule_to : {d e : Told} {x : ℕ} {t : Term} → Bound d x t e → BoundBy (LinearTerm d t) FreeOrGround d x t e
rule_to {d} {e} {x} {t} b =
    record {
      positions = b.positions;
      case = b.case;
      fits = fits_to d x t b.case b.fits;
      groups_made = b.groups_made;
      groups_only = b.groups_only;
      free_kept = b.free_kept;
      free_only = b.free_only;
      linear_kept = λ p k. b.linear_kept p (stays_from k);
      linear_added = b.linear_added;
      linear_only = λ p i. elim (b.linear_only p i) [ inl k ↦ inl (stays_to k) | inr k ↦ inr k ];
    }

pub rule_from : {d e : Told} {x : ℕ} {t : Term} → BoundBy (LinearTerm d t) FreeOrGround d x t e → Bound d x t e
rule_from {d} {e} {x} {t} b =
    record {
      positions = b.positions;
      case = b.case;
      fits = fits_from d x t b.case b.fits;
      groups_made = b.groups_made;
      groups_only = b.groups_only;
      free_kept = b.free_kept;
      free_only = b.free_only;
      linear_kept = λ p k. b.linear_kept p (stays_to k);
      linear_added = b.linear_added;
      linear_only = λ p i. elim (b.linear_only p i) [ inl k ↦ inl (stays_from k) | inr k ↦ inr k ];
    }

pub rule_of_parts : RuleOfParts
rule_of_parts d e x t = (rule_to, rule_from)
