-- How a reading goes on after a part of it: the first refusal ends it.
use Rattle.std.specs.Prelude.{ℕ, Bool, true, false, Ok, Err, Result}
use Rattle.domain.specs.declared.refusal.Refusal.{Refusal}
use Rattle.sheet.specs.declared.fault.ReaderFault.{ReaderFault}

-- what is read, or the first fault
abbrev pub Read : Type 0 → Type 0
Read A = Result A ReaderFault

-- a result, and what comes after it
infixl 20 ◌>>=◌
abbrev pub ◌>>=◌ : {A B E : Type 0} → Result A E → (A → Result B E) → Result B E
◌>>=◌ (Ok a) f = f a
◌>>=◌ (Err e) f = Err e

abbrev pub fault : {A : Type 0} → Refusal → ℕ → Read A
fault e p = Err (record { refusal = e; place = p })

-- the refusal where the test is true, and else what comes after
abbrev pub refuse : {A : Type 0} → Bool → Refusal → ℕ → Read A → Read A
refuse true e p later = fault e p
refuse false e p later = later
