-- A bind takes alike descriptions to alike descriptions: the case, the groups and the marks.
use Rattle.std.proofs.Common.{◌≡◌, ℕ, ◌^◌, ◌⊎◌, sym, refl, ◌∙◌, subst, inl, inr}
use Rattle.domain.specs.Masks.{Within}
use Rattle.domain.specs.Told.{Told, Group}
use Rattle.domain.specs.Coverage.{SameCover, Alike}
use Rattle.domain.specs.Binding.{FreeTerm, Once, LinearTerm, Fits, NewGroup, StaysFree, StaysLinear, Bound}
use Rattle.domain.specs.declared.case.Case.{Case}
use Rattle.domain.specs.declared.case.Case.TheVariants.{Free, BothLinear, PositionLinear, TermLinear, Neither}
use Rattle.domain.specs.declared.term.Term.{Term}
use Rattle.coverage.proofs.Cover.{same_turned, same_trans, same_groups, alike_turned, PartOf, both_alike}
use Rattle.coverage.proofs.Places.{share_kept, ground_kept, near_kept, free_kept, linear_kept}
use Rattle.coverage.proofs.BindCover.{bind_same}

-- ---- what the rule asks of a description is the same for alike ones

free_term_kept : {d e : Told} {t : Term} → Alike d e → FreeTerm d t → FreeTerm e t
free_term_kept a f = record { bare = f.bare; place = f.place; only = f.only; free = free_kept a f.free }

once_kept : {d e : Told} {t : Term} {p : ℕ} → Alike d e → Once d t p → Once e t p
once_kept a o =
    record {
      linear = linear_kept a o.linear;
      single = o.single;
      apart = λ q i ne s. o.apart q i ne (share_kept (same_turned a.cover) s);
    }

linear_term_kept : {d e : Told} {t : Term} → Alike d e → LinearTerm d t → LinearTerm e t
linear_term_kept a l =
    record {
      each =
          λ p i.
          elim (l.each p i)
          [ inl g ↦ inl (ground_kept a.positions a.cover g) | inr o ↦ inr (once_kept a o) ];
    }

fits_kept : {d e : Told} (x : ℕ) (t : Term) (c : Case) → Alike d e → Fits d x t c → Fits e x t c
fits_kept {d} {e} x t c a = by c
  where
    b : Alike e d
    b = alike_turned a

    by : (c : Case) → Fits d x t c → Fits e x t c
    by Free (inl f) = inl (free_kept a f)
    by Free (inr f) = inr (free_term_kept a f)
    by BothLinear f =
        (λ h. f.0 (free_kept b h), λ h. f.1 (free_term_kept b h), linear_kept a f.2, linear_term_kept a f.3)
    by PositionLinear f =
        (λ h. f.0 (free_kept b h), λ h. f.1 (free_term_kept b h), linear_kept a f.2, λ h. f.3 (linear_term_kept b h))
    by TermLinear f =
        (λ h. f.0 (free_kept b h), λ h. f.1 (free_term_kept b h), λ h. f.2 (linear_kept b h), linear_term_kept a f.3)
    by Neither f =
        (λ h. f.0 (free_kept b h), λ h. f.1 (free_term_kept b h), λ h. f.2 (linear_kept b h), λ h. f.3 (linear_term_kept b h))

-- only one case fits
neither : {A B C : Type 0} → A ⊎ B → (A → ⊥) → (B → ⊥) → C
neither (inl f) n m = absurd (n f)
neither (inr f) n m = absurd (m f)

pub one_case : (d : Told) (x : ℕ) (t : Term) (c c' : Case) → Fits d x t c → Fits d x t c' → c ≡ c'
one_case d x t Free Free f g = refl
one_case d x t Free BothLinear f g = neither f g.0 g.1
one_case d x t Free PositionLinear f g = neither f g.0 g.1
one_case d x t Free TermLinear f g = neither f g.0 g.1
one_case d x t Free Neither f g = neither f g.0 g.1
one_case d x t BothLinear Free f g = neither g f.0 f.1
one_case d x t BothLinear BothLinear f g = refl
one_case d x t BothLinear PositionLinear f g = absurd (g.3 f.3)
one_case d x t BothLinear TermLinear f g = absurd (g.2 f.2)
one_case d x t BothLinear Neither f g = absurd (g.2 f.2)
one_case d x t PositionLinear Free f g = neither g f.0 f.1
one_case d x t PositionLinear BothLinear f g = absurd (f.3 g.3)
one_case d x t PositionLinear PositionLinear f g = refl
one_case d x t PositionLinear TermLinear f g = absurd (g.2 f.2)
one_case d x t PositionLinear Neither f g = absurd (g.2 f.2)
one_case d x t TermLinear Free f g = neither g f.0 f.1
one_case d x t TermLinear BothLinear f g = absurd (f.2 g.2)
one_case d x t TermLinear PositionLinear f g = absurd (f.2 g.2)
one_case d x t TermLinear TermLinear f g = refl
one_case d x t TermLinear Neither f g = absurd (g.3 f.3)
one_case d x t Neither Free f g = neither g f.0 f.1
one_case d x t Neither BothLinear f g = absurd (f.2 g.2)
one_case d x t Neither PositionLinear f g = absurd (f.2 g.2)
one_case d x t Neither TermLinear f g = absurd (f.3 g.3)
one_case d x t Neither Neither f g = refl

-- ---- the marks

stays_free_kept : {d e : Told} {x : ℕ} {t : Term} {p : ℕ} → Alike d e → StaysFree d x t p → StaysFree e x t p
stays_free_kept a s =
    let back = same_turned a.cover in
    record {
      was = free_kept a s.was;
      far_from_x = λ n k. s.far_from_x (λ f. n (free_term_kept a f)) (near_kept back k);
      far_from_t = λ n k. s.far_from_t (λ f. n (free_kept a f)) (near_kept back k);
    }

stays_linear_kept : {d e : Told} {x : ℕ} {t : Term} {p : ℕ} → Alike d e → StaysLinear d x t p → StaysLinear e x t p
stays_linear_kept a s =
    let back = same_turned a.cover in
    record {
      was = linear_kept a s.was;
      far_from_both = λ k l. s.far_from_both (near_kept back k) (near_kept back l);
      far_from_x = λ n k. s.far_from_x (λ f. n (linear_term_kept a f)) (near_kept back k);
      far_from_t = λ n k. s.far_from_t (λ f. n (linear_kept a f)) (near_kept back k);
    }

bound_part : {d d' e e' : Told} {x : ℕ} {t : Term} → Alike d d' → Bound d x t e → Bound d' x t e' → PartOf e e'
bound_part {d} {d'} {e} {e'} {x} {t} a u v =
    record {
      positions = positions;
      free = free;
      linear =
          record {
            each =
                λ p i.
                elim (u.linear_only p i) [
                  | inl s ↦ v.linear_kept p (stays_linear_kept a s)
                  | inr m ↦
                      v.linear_added p
                      (elim m [ inl f ↦ inl (free.each p f) | inr g ↦ inr (ground_kept positions cover g) ])
                ];
          };
      cover = cover.to;
    }
  where
    same_case : u.case ≡ v.case
    same_case = one_case d' x t u.case v.case (fits_kept x t u.case a u.fits) v.fits

    cover : SameCover (Group e) (Group e')
    cover =
        same_trans (same_groups u.groups_only u.groups_made)
        (same_trans
        (subst (λ c. SameCover (NewGroup (Group d) (2 ^ x) t.held u.case) (NewGroup (Group d') (2 ^ x) t.held c)) same_case (bind_same a.cover))
        (same_groups v.groups_made v.groups_only))

    positions : e.n ≡ e'.n
    positions = u.positions ∙ (a.positions ∙ sym v.positions)

    free : Within e.marks.free e'.marks.free
    free = record { each = λ p i. v.free_kept p (stays_free_kept a (u.free_only p i)) }

pub bind_alike : {d d' e e' : Told} {x : ℕ} {t : Term} → Alike d d' → Bound d x t e → Bound d' x t e' → Alike e e'
bind_alike a u v = both_alike (bound_part a u v) (bound_part (alike_turned a) v u)
