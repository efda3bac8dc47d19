-- The laws of every change: what it makes keeps the rules, is alike where it was made of what is alike, exists, and
-- is one. With them those of a new description.
use Rattle.std.specs.Prelude.{◌≡◌, ℕ, ◌<◌, ◌≤◌, List}
use Rattle.domain.specs.Changes.{Makes, IsAllowed}
use Rattle.domain.specs.Coverage.{Alike}
use Rattle.domain.specs.Forgetting.{Forgotten}
use Rattle.domain.specs.Joining.{Joined}
use Rattle.domain.specs.Opening.{New}
use Rattle.domain.specs.Told.{Told, Lawful}
use Rattle.domain.specs.declared.change.Change.{Change}
use Rattle.domain.specs.declared.limits.TheConstants.{MOST_POSITIONS}
use Rattle.domain.specs.declared.listing.Listing.{Listing}

-- ---- the rules

abbrev pub NewIsLawful : Type 0
NewIsLawful = (n : ℕ) (e : Told) → 0 < n → n ≤ MOST_POSITIONS → New n e → Lawful e

abbrev pub ChangeKeepsRules : Type 0
ChangeKeepsRules =
    (c : Change (List ℕ)) (d e : Told) → IsAllowed d.n c → Lawful d → Makes c d e → Lawful e

-- ---- likeness

abbrev pub NewAreAlike : Type 0
NewAreAlike = (n : ℕ) (d e : Told) → New n d → New n e → Alike d e

abbrev pub ChangeKeepsAlike : Type 0
ChangeKeepsAlike =
    (c : Change (List ℕ)) (d d' e e' : Told) → Alike d d' → Makes c d e → Makes c d' e' → Alike e e'

-- ---- existence

-- there is a new description of any number of positions
abbrev pub NewExists : Type 0
NewExists = (n : ℕ) → (e : Told) × New n e

-- a change has a result, where the description keeps the rules
abbrev pub ChangeExists : Type 0
ChangeExists = (c : Change (List ℕ)) (d : Told) → Lawful d → (e : Told) × Makes c d e

-- a join and a forget have one whether or not it keeps them
abbrev pub JoinExists : Type 0
JoinExists = (d : Told) (other : Listing (List ℕ)) → (e : Told) × Joined d other e

abbrev pub ForgetExists : Type 0
ForgetExists = (d : Told) (m : ℕ) → (e : Told) × Forgotten d m e

-- two descriptions that are made of the same things are one, whether or not the rules are kept
pub record OneResult : Type 0 where
  pub new : (n : ℕ) (e e' : Told) → New n e → New n e' → e ≡ e'
  pub change : (c : Change (List ℕ)) (d e e' : Told) → Makes c d e → Makes c d e' → e ≡ e'
