-- What a keeper writes out that was given the calls of a row.
use Rattle.std.specs.Prelude.{◌≡◌, ℕ, ◌<◌, List, [], ◌∷◌, ◌++◌, length, drop, Ok, Err, Result}
use Rattle.agreement.specs.Reckoning.{Given}
use Rattle.agreement.specs.Sessions.{Call, SameCalls}
use Rattle.domain.specs.Told.{Told}
use Rattle.domain.specs.declared.refusal.Refusal.TheVariants.{Room}
use Rattle.keeper.specs.Calls.{fault_of}
use Rattle.keeper.specs.declared.fault.KeeperFault.{KeeperFault}
use Rattle.keeper.specs.declared.write_out.WrittenOut.{WrittenOut}
use Rattle.worked.specs.Rows.{Row, SpeaksOf}

-- the row's core at the start of the list, its count and the row's marks; refused only where the list is too short
abbrev pub WritesRow : Row → List ℕ → List ℕ → Result WrittenOut KeeperFault → Type 0
WritesRow r list list' (Ok w) =
    (w.count ≡ length r.core) × (w.marks ≡ r.marks)
    × (list' ≡ r.core ++ drop (length r.core) list)
WritesRow r list list' (Err f) = (f ≡ fault_of Room) × (length list < length r.core)

-- so for every row of a list that speaks of the keeper, and whose calls are those that it was given
abbrev pub WritesRows : List Row → ℕ → Told → List ℕ → List ℕ → Result WrittenOut KeeperFault → Type 0
WritesRows [] capacity t list list' w = Unit {0}
WritesRows (r ∷ rs) capacity t list list' w =
    (SpeaksOf r capacity → (cs : List Call) → SameCalls r.calls cs → Given r.n capacity cs t
    → WritesRow r list list' w)
    × WritesRows rs capacity t list list' w
