-- A keeper that was given the calls of a row writes out what the row says.
use Rattle.std.proofs.Common.{◌≡◌, ℕ, ◌<◌, true, false, not, ◌⊎◌, List, [], ◌∷◌, ◌++◌, length, drop, Ok, Err, Result, sym, ap, ◌∙◌, subst, inl, inr, arith}
use Rattle.std.proofs.lemmas.Bool.{cases_lt, both_ways, ne_eqb}
use Rattle.agreement.proofs.Cores.{one_core}
use Rattle.agreement.proofs.Reckoned.{reckoned_told}
use Rattle.agreement.proofs.Rules.{reckoned_positions}
use Rattle.agreement.proofs.ToldApart.{core_moved}
use Rattle.agreement.specs.Reckoning.{Reckoned}
use Rattle.agreement.specs.Sessions.{Call}
use Rattle.domain.specs.Coverage.{Alike, CoreFits, CoreList}
use Rattle.domain.specs.Told.{Told, Group}
use Rattle.domain.specs.declared.refusal.Refusal.TheVariants.{Order, Room}
use Rattle.keeper.specs.Calls.{Writes, opened, fault_of}
use Rattle.keeper.specs.declared.fault.KeeperFault.{KeeperFault}
use Rattle.keeper.specs.declared.write_out.WrittenOut.{WrittenOut}
use Rattle.worked.specs.Rows.{Row, Shows, AllWorked}
use Rattle.worked.specs.Writing.{WritesRow, WritesRows}

module _ (r : Row) (k : ℕ) (cs : List Call) (t : Told) (alike : (d : Told) × Reckoned r.n k cs d × Shows r d × Alike d t) where
  core : CoreList (Group t) r.core
  core = core_moved alike.3 alike.2.core

  is_opened : opened t ≡ true
  is_opened =
      let n : alike.0.n ≡ r.n = reckoned_positions alike.1 in
      let m : alike.0.n ≡ t.n = alike.3.positions in
      let some : 0 < r.n = alike.1.opened.0 in
      ap not (ne_eqb t.n 0 (λ e. omega arith))

  row_written : (list list' : List ℕ) (w : Result WrittenOut KeeperFault) → Writes t list list' w → WritesRow r list list' w
  row_written list list' (Ok w) h =
      let same : h.2.0 ≡ r.core = one_core h.2.0 r.core (λ g k. k) (λ g k. k) h.2.1 core in (
        h.2.2 ∙ ap length same,
        h.1 ∙ sym alike.3.marks ∙ alike.2.marks,
        subst (λ (gs : List ℕ). list' ≡ gs ++ drop (length gs) list) same h.2.4,
      )
  row_written list list' (Err f) h = go h.1
    where
      go : ((opened t ≡ false) × (f ≡ fault_of Order)) ⊎ ((opened t ≡ true) × (f ≡ fault_of Room) × (CoreFits (Group t) (length list) → ⊥))
          → (f ≡ fault_of Room) × (length list < length r.core)
      go (inl k) = absurd (both_ways (opened t) k.0 is_opened)
      go (inr k) = (
        k.1,
        elim (cases_lt (length list) (length r.core)) [
          | inl lt ↦ lt
          | inr le ↦ absurd (k.2 (record { groups = r.core; short = le; holds = core.all }))
        ],
      )

pub rows_written : (rs : List Row) → AllWorked rs → (capacity : ℕ) (t : Told) (list list' : List ℕ) (w : Result WrittenOut KeeperFault) → Writes t list list' w
    → WritesRows rs capacity t list list' w
rows_written [] ws k t list list' w h = tt
rows_written (r ∷ rs) ws k t list list' w h = (
  λ speaks cs same given.
      let one = ws.0 k speaks cs same in
      row_written r k cs t
      (one.told, one.reckoned, one.shows one.told one.reckoned, reckoned_told one.reckoned given)
      list list' w h,
  rows_written rs ws.1 k t list list' w h,
)
