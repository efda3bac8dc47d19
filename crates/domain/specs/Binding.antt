-- The bind rule: what a description becomes when the position x is bound to the term t.
use Rattle.std.specs.Prelude.{◌≡◌, ℕ, ◌^◌, true, ◌≢◌, ◌⊎◌}
use Rattle.domain.specs.Masks.{In}
use Rattle.domain.specs.Groups.{Share, IsGround, Side, Shared, Apart, Near, Paired, Closure, Extended}
use Rattle.domain.specs.Told.{Told, Group, IsFree, IsLinear}
use Rattle.domain.specs.declared.case.Case.{Case}
use Rattle.domain.specs.declared.case.Case.TheVariants.{Free, BothLinear, PositionLinear, TermLinear, Neither}
use Rattle.domain.specs.declared.term.Term.{Term}

-- the term is free when it is bare and its position is free
pub record FreeTerm (d : Told) (t : Term) : Type 0 where
  pub bare : t.bare ≡ true
  pub place : ℕ
  pub only : t.held ≡ 2 ^ place
  pub free : IsFree d place

-- a position of the term that is linear, held once, and shares with no other position of the term
pub record Once (d : Told) (t : Term) (p : ℕ) : Type 0 where
  pub linear : IsLinear d p
  pub single : In p t.repeated → ⊥
  pub apart : (q : ℕ) → In q t.held → q ≢ p → Share (Group d) p q → ⊥

-- the term is linear when each position it holds is ground or such a one
pub record LinearTerm (d : Told) (t : Term) : Type 0 where
  pub each : (p : ℕ) → In p t.held → IsGround d.n (Group d) p ⊎ Once d t p

-- c is the first of the five cases that fits
abbrev pub Fits : Told → ℕ → Term → Case → Type 0
Fits d x t Free = IsFree d x ⊎ FreeTerm d t
Fits d x t BothLinear =
    (IsFree d x → ⊥) × (FreeTerm d t → ⊥) × IsLinear d x × LinearTerm d t
Fits d x t PositionLinear =
    (IsFree d x → ⊥) × (FreeTerm d t → ⊥) × IsLinear d x × (LinearTerm d t → ⊥)
Fits d x t TermLinear =
    (IsFree d x → ⊥) × (FreeTerm d t → ⊥) × (IsLinear d x → ⊥) × LinearTerm d t
Fits d x t Neither =
    (IsFree d x → ⊥) × (FreeTerm d t → ⊥) × (IsLinear d x → ⊥) × (LinearTerm d t → ⊥)

-- the groups that each case makes of the two sides, those that meet a and those that meet b
abbrev pub Made : (ℕ → Type 0) → ℕ → ℕ → Case → ℕ → Type 0
Made G a b Free = Paired (Side G a) (Side G b)
Made G a b BothLinear = Paired (Extended (Side G a) (Shared G a b)) (Extended (Side G b) (Shared G a b))
Made G a b PositionLinear = Paired (Closure (Side G a)) (Extended (Side G b) (Shared G a b))
Made G a b TermLinear = Paired (Extended (Side G a) (Shared G a b)) (Closure (Side G b))
Made G a b Neither = Paired (Closure (Side G a)) (Closure (Side G b))

-- the new groups: the rest, and with them those of the case
pub data NewGroup (G : ℕ → Type 0) (a b : ℕ) (c : Case) (u : ℕ) : Type 0 where
  rest : Apart G a b u → NewGroup G a b c u
  made : Made G a b c u → NewGroup G a b c u

-- Of the two sides of a bind, the position's mask is its own and the term's all that it holds.

-- the free mask loses the positions near x where the term is not free, and those near the term where x is not
pub record StaysFree (d : Told) (x : ℕ) (t : Term) (p : ℕ) : Type 0 where
  pub was : IsFree d p
  pub far_from_x : (FreeTerm d t → ⊥) → Near (Group d) (2 ^ x) p → ⊥
  pub far_from_t : (IsFree d x → ⊥) → Near (Group d) t.held p → ⊥

-- the linear mask loses the positions near both; those near x where the term is not linear, and those
-- near the term where x is not
pub record StaysLinear (d : Told) (x : ℕ) (t : Term) (p : ℕ) : Type 0 where
  pub was : IsLinear d p
  pub far_from_both : Near (Group d) (2 ^ x) p → Near (Group d) t.held p → ⊥
  pub far_from_x : (LinearTerm d t → ⊥) → Near (Group d) (2 ^ x) p → ⊥
  pub far_from_t : (IsLinear d x → ⊥) → Near (Group d) t.held p → ⊥

-- e is exactly what the rule makes of d
pub record Bound (d : Told) (x : ℕ) (t : Term) (e : Told) : Type 0 where
  pub positions : e.n ≡ d.n
  pub case : Case
  pub fits : Fits d x t case
  pub groups_made : (g : ℕ) → NewGroup (Group d) (2 ^ x) t.held case g → Group e g
  pub groups_only : (g : ℕ) → Group e g → NewGroup (Group d) (2 ^ x) t.held case g
  pub free_kept : (p : ℕ) → StaysFree d x t p → IsFree e p
  pub free_only : (p : ℕ) → IsFree e p → StaysFree d x t p
  -- positions free or ground now are added to what stays of the linear mask
  pub linear_kept : (p : ℕ) → StaysLinear d x t p → IsLinear e p
  pub linear_added : (p : ℕ) → IsFree e p ⊎ IsGround e.n (Group e) p → IsLinear e p
  pub linear_only : (p : ℕ) → IsLinear e p → StaysLinear d x t p ⊎ (IsFree e p ⊎ IsGround e.n (Group e) p)
