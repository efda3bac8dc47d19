-- What the bind rule asks of the position and of the term, as answers of yes and no.
use Rattle.std.specs.Prelude.{◌≡◌, ℕ, ◌^◌, ◌<◌, true, false, ◌↔◌, ◌⊎◌, IsTrue, count_ones}
use Rattle.domain.specs.Binding.{FreeTerm, LinearTerm}
use Rattle.domain.specs.Told.{Told, IsFree, IsLinear}
use Rattle.domain.specs.declared.case.Case.{Case}
use Rattle.domain.specs.declared.case.Case.TheVariants.{Free, BothLinear, PositionLinear, TermLinear, Neither}
use Rattle.domain.specs.declared.term.Term.{Term}
use Rattle.rules.specs.declared.rule.sides.Signs.{Signs}

-- a bind of the position x to the term t that a description of n positions does not refuse
pub record IsBindable (n x : ℕ) (t : Term) : Type 0 where
  pub position : x < n
  pub held : t.held < 2 ^ n
  pub bare : t.bare ≡ true → count_ones t.held ≡ 1

-- the answers are those for the position x and the term t
pub record Seen (d : Told) (x : ℕ) (t : Term) (s : Signs) : Type 0 where
  pub position_free : IsTrue s.position.free ↔ IsFree d x
  pub position_linear : IsTrue s.position.linear ↔ IsLinear d x
  pub term_free : IsTrue s.term.free ↔ FreeTerm d t
  pub term_linear : IsTrue s.term.linear ↔ LinearTerm d t

-- c is the first case that the answers allow
abbrev pub Chosen : Signs → Case → Type 0
Chosen s Free = (s.position.free ≡ true) ⊎ (s.term.free ≡ true)
Chosen s BothLinear =
    (s.position.free ≡ false) × (s.term.free ≡ false) × (s.position.linear ≡ true) × (s.term.linear ≡ true)
Chosen s PositionLinear =
    (s.position.free ≡ false) × (s.term.free ≡ false) × (s.position.linear ≡ true) × (s.term.linear ≡ false)
Chosen s TermLinear =
    (s.position.free ≡ false) × (s.term.free ≡ false) × (s.position.linear ≡ false) × (s.term.linear ≡ true)
Chosen s Neither =
    (s.position.free ≡ false) × (s.term.free ≡ false) × (s.position.linear ≡ false) × (s.term.linear ≡ false)
