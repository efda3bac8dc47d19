-- A bind from its parts.
use Rattle.std.proofs.Common.{ℕ, ◌^◌, ◌<◌, ◌⊎◌, ◌↔◌, List, Decides, refl, inl, inr}
use lib.Bits.{bit_or}
use Rattle.std.proofs.lemmas.Bool.Decides.{not_from_Decides}
use Rattle.domain.specs.Binding.{Fits, NewGroup, StaysFree, StaysLinear, Bound}
use Rattle.domain.specs.Groups.{IsGround}
use Rattle.domain.specs.Masks.{In}
use Rattle.domain.specs.Tables.{holds_bit, TableGroup, told_of}
use Rattle.domain.specs.Told.{Told}
use Rattle.domain.specs.declared.case.Case.{Case}
use Rattle.domain.specs.declared.case.Case.TheVariants.{Free, BothLinear, PositionLinear, TermLinear, Neither}
use Rattle.domain.specs.declared.marks.Marks.{Marks}
use Rattle.domain.specs.declared.term.Term.{Term}
use Rattle.rules.specs.Signs.{Seen, Chosen}
use Rattle.rules.specs.declared.rule.sides.Signs.{Signs}
use Rattle.domain.proofs.Bits.{in_left, in_right, in_either}
use Rattle.domain.proofs.ChangeLaws.{new_range}
use Rattle.domain.proofs.Laws.{group_of, of_group}

-- the case that the answers choose fits
pub fits_of : (d : Told) (x : ℕ) (t : Term) (s : Signs) (c : Case) → Seen d x t s → Chosen s c → Fits d x t c
fits_of d x t s Free seen (inl e) = inl (seen.position_free.0 e)
fits_of d x t s Free seen (inr e) = inr (seen.term_free.0 e)
fits_of d x t s BothLinear seen h = (
  not_from_Decides _ seen.position_free h.0,
  not_from_Decides _ seen.term_free h.1,
  seen.position_linear.0 h.2,
  seen.term_linear.0 h.3,
)
fits_of d x t s PositionLinear seen h = (
  not_from_Decides _ seen.position_free h.0,
  not_from_Decides _ seen.term_free h.1,
  seen.position_linear.0 h.2,
  not_from_Decides _ seen.term_linear h.3,
)
fits_of d x t s TermLinear seen h = (
  not_from_Decides _ seen.position_free h.0,
  not_from_Decides _ seen.term_free h.1,
  not_from_Decides _ seen.position_linear h.2,
  seen.term_linear.0 h.3,
)
fits_of d x t s Neither seen h = (
  not_from_Decides _ seen.position_free h.0,
  not_from_Decides _ seen.term_free h.1,
  not_from_Decides _ seen.position_linear h.2,
  not_from_Decides _ seen.term_linear h.3,
)

-- a table that was worked in place, by the masks f and k of what stays and a of what is ground now
pub bound_of :
    (n : ℕ) (old : List ℕ) (was : Marks) (x : ℕ) (t : Term) (c : Case) (new : List ℕ) (f k a : ℕ)
    → Fits (told_of n old was) x t c
    → ((u : ℕ) → 0 < u → u < 2 ^ n → Decides (holds_bit new u) (NewGroup (TableGroup n old) (2 ^ x) t.held c u))
    → ((p : ℕ) → In p f ↔ StaysFree (told_of n old was) x t p)
    → ((p : ℕ) → In p k ↔ StaysLinear (told_of n old was) x t p)
    → ((p : ℕ) → In p a ↔ IsGround n (TableGroup n new) p)
    → Bound (told_of n old was) x t (told_of n new (record { free = f; linear = bit_or (bit_or k f) a }))
bound_of n old was x t c new f k a fits bits free linear ground =
    record {
      positions = refl;
      case = c;
      fits = fits;
      groups_made = λ g m.
          let r = new_range d (λ g m. let r = of_group n old g m in (r.0, r.1)) (2 ^ x) t.held c m in
          group_of n new g r.0 r.1 ((bits g r.0 r.1).1 m);
      groups_only = λ g m. let r = of_group n new g m in (bits g r.0 r.1).0 r.2;
      free_kept = λ p s. (free p).1 s;
      free_only = λ p i. (free p).0 i;
      linear_kept = λ p s. in_left a (in_left f ((linear p).1 s));
      linear_added = λ p s. added p s;
      linear_only = λ p i. only p (in_either (bit_or k f) a i);
    }
  where
    d : Told
    d = told_of n old was

    added : (p : ℕ) → In p f ⊎ IsGround n (TableGroup n new) p → In p (bit_or (bit_or k f) a)
    added p (inl i) = in_left a (in_right k i)
    added p (inr g) = in_right (bit_or k f) ((ground p).1 g)

    only : (p : ℕ) → In p (bit_or k f) ⊎ In p a → StaysLinear (told_of n old was) x t p ⊎ (In p f ⊎ IsGround n (TableGroup n new) p)
    only p (inl i) = elim (in_either k f i) [ inl j ↦ inl ((linear p).0 j) | inr j ↦ inr (inl j) ]
    only p (inr i) = inr (inr ((ground p).0 i))
