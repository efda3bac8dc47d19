-- Alike descriptions cannot be told apart by what is asked of them.
use Rattle.std.specs.Prelude.{ℕ, ◌↔◌}
use Rattle.domain.specs.Groups.{Share, IsGround}
use Rattle.domain.specs.Told.{Told, Group, IsFree, IsLinear}
use Rattle.domain.specs.Coverage.{Alike}

-- likeness is an equivalence
pub record Equivalence : Type 0 where
  pub same : (d : Told) → Alike d d
  pub turned : (d e : Told) → Alike d e → Alike e d
  pub chained : (d e f : Told) → Alike d e → Alike e f → Alike d f

-- the four questions
pub record SameAnswers (d e : Told) : Type 0 where
  pub share : (p q : ℕ) → Share (Group d) p q ↔ Share (Group e) p q
  pub ground : (p : ℕ) → IsGround d.n (Group d) p ↔ IsGround e.n (Group e) p
  pub free : (p : ℕ) → IsFree d p ↔ IsFree e p
  pub linear : (p : ℕ) → IsLinear d p ↔ IsLinear e p

abbrev pub AlikeAnswerAlike : Type 0
AlikeAnswerAlike = (d e : Told) → Alike d e → SameAnswers d e
