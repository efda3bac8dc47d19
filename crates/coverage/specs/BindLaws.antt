-- How a bind acts on coverage. C w p q stands for "the pair p, q is covered in the window w" before the bind:
-- what is covered after it is said by C alone, whatever groups stand behind it. The two sides have the masks a and b.
use Rattle.std.specs.Prelude.{ℕ, ◌^◌, ◌↔◌, bit_or}
use Rattle.domain.specs.Masks.{In, Within, Meets, without}
use Rattle.domain.specs.Told.{Told, Group}
use Rattle.domain.specs.Coverage.{Covers}
use Rattle.domain.specs.Binding.{NewGroup, Bound}
use Rattle.domain.specs.declared.case.Case.{Case}
use Rattle.domain.specs.declared.case.Case.TheVariants.{Free, BothLinear, PositionLinear, TermLinear, Neither}
use Rattle.domain.specs.declared.term.Term.{Term}

-- the pair is covered in a part of the window that meets neither mask
pub record CoversApart (C : ℕ → ℕ → ℕ → Type 0) (a b w p q : ℕ) : Type 0 where
  pub part : ℕ
  pub inside : Within part w
  pub left : Meets part a → ⊥
  pub right : Meets part b → ⊥
  pub covered : C part p q

-- q is covered together with some position of the side
pub record WithSide (C : ℕ → ℕ → ℕ → Type 0) (a w q : ℕ) : Type 0 where
  pub place : ℕ
  pub held : In place a
  pub covered : C w place q

-- some position of the side is covered
pub record SideCovered (C : ℕ → ℕ → ℕ → Type 0) (a w : ℕ) : Type 0 where
  pub place : ℕ
  pub held : In place a
  pub covered : C w place place

-- the cases in which the groups of a side are united among themselves
abbrev pub UnitesLeft : Case → Type 0
UnitesLeft Free = ⊥
UnitesLeft BothLinear = ⊥
UnitesLeft PositionLinear = Unit {0}
UnitesLeft TermLinear = ⊥
UnitesLeft Neither = Unit {0}

abbrev pub UnitesRight : Case → Type 0
UnitesRight Free = ⊥
UnitesRight BothLinear = ⊥
UnitesRight PositionLinear = ⊥
UnitesRight TermLinear = Unit {0}
UnitesRight Neither = Unit {0}

-- how p and q come together where a group of one side meets one of the other
pub data Linked (C : ℕ → ℕ → ℕ → Type 0) (a b : ℕ) (c : Case) (w p q : ℕ) : Type 0 where
  before : C w p q → Linked C a b c w p q
  across : WithSide C a w p → WithSide C b w q → Linked C a b c w p q
  back : WithSide C b w p → WithSide C a w q → Linked C a b c w p q
  by_left : UnitesLeft c → WithSide C a w p → WithSide C a w q → Linked C a b c w p q
  by_right : UnitesRight c → WithSide C b w p → WithSide C b w q → Linked C a b c w p q

-- the pair is covered after a bind of the two sides
pub data BindCovers (C : ℕ → ℕ → ℕ → Type 0) (a b : ℕ) (c : Case) (w p q : ℕ) : Type 0 where
  untouched : CoversApart C a b w p q → BindCovers C a b c w p q
  met : SideCovered C a w → SideCovered C b w → Linked C a b c w p q → BindCovers C a b c w p q

-- exactly those pairs are covered by the new groups
abbrev pub BindCoverage : Type 0
BindCoverage =
    (d : Told) (a b : ℕ) (c : Case) (w p q : ℕ)
    → Covers (NewGroup (Group d) a b c) w p q ↔ BindCovers (Covers (Group d)) a b c w p q

-- and so by what a bind makes of a position and a term
abbrev pub BoundCoverage : Type 0
BoundCoverage =
    (d e : Told) (x : ℕ) (t : Term) (b : Bound d x t e) (w p q : ℕ)
    → Covers (Group e) w p q ↔ BindCovers (Covers (Group d)) (2 ^ x) t.held b.case w p q

-- the part of a window that serves best is the window without both masks
abbrev pub RestWindow : Type 0
RestWindow =
    (d : Told) (a b w p q : ℕ)
    → CoversApart (Covers (Group d)) a b w p q ↔ Covers (Group d) (without w (bit_or a b)) p q
