-- Comparing two keepers by what they write out.
use Rattle.std.specs.Prelude.{◌≡◌, ℕ, Bool, List, ◌↔◌, Ok, Err, IsTrue, Result}
use Rattle.domain.specs.Coverage.{SameCover}
use Rattle.domain.specs.Told.{Told, Group}
use Rattle.keeper.specs.Calls.{Writes}
use Rattle.keeper.specs.declared.fault.KeeperFault.{KeeperFault}
use Rattle.keeper.specs.declared.write_out.WrittenOut.{WrittenOut}

-- the same marks, and the same pairs covered in every window
pub record SameTold (s t : Told) : Type 0 where
  pub marks : s.marks ≡ t.marks
  pub cover : SameCover (Group s) (Group t)

-- the second keeper writes out only where the first is not refused; the answer is yes exactly when both tell the same
abbrev pub Answered : Told → Told → Result WrittenOut KeeperFault → Result Bool KeeperFault → Type 0
Answered s t (Err f) r = r ≡ Err f
Answered s t (Ok w) r = (yes' : Bool) × (r ≡ Ok yes') × (IsTrue yes' ↔ SameTold s t)

abbrev pub Second : Told → Told → List ℕ → List ℕ → Result WrittenOut KeeperFault → Result Bool KeeperFault → Type 0
Second s t list list' (Err f) r = (list' ≡ list) × (r ≡ Err f)
Second s t list list' (Ok w) r = (two : Result WrittenOut KeeperFault) × Writes t list list' two × Answered s t two r

pub record Compared (s t : Told) (first first' second second' : List ℕ) (r : Result Bool KeeperFault) : Type 0 where
  pub one : Result WrittenOut KeeperFault
  pub written : Writes s first first' one
  pub rest : Second s t second second' one r
