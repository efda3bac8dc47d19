-- What a write-out of the core answers.
use Rattle.std.proofs.Common.{◌≡◌, ℕ, ◌<◌, ◌≤◌, not, List, ◌++◌, length, take, drop, Some, Ok, Err, Option, sym, refl, ap, ◌∙◌, subst, inr, arith, length-take-le}
use Rattle.std.proofs.lemmas.Bool.{ne_eqb}
use Rattle.coverage.proofs.Counting.{fits_count, list_counted}
use Rattle.domain.specs.declared.refusal.Refusal.TheVariants.{Room}
use Rattle.keeper.specs.Calls.{Writes, fault_of}
use Rattle.keeper.specs.declared.fault.KeeperFault.{KeeperFault}
use Rattle.list_keeper.proofs.Keeping.{own_core}
use Rattle.list_keeper.specs.Keeping.{Kept}
use Rattle.list_keeper.specs.Tells.{told_by}
use Rattle.list_keeper.specs.declared.head.Head.{Head}

module _ (held : Option Head) (head : Head) (list : List ℕ) (is : held ≡ Some head) (kept : Kept head list) (out : List ℕ) where
  long : length (take head.count list) ≡ head.count
  long = length-take-le head.count list kept.inside

  -- the core, at the start of a list that is long enough
  pub written : (out' : List ℕ) → head.count ≤ length out → (groups : List ℕ) → groups ≡ take head.count list
      → out' ≡ groups ++ drop (length groups) out
      → Writes (told_by held list) out out' (Ok (record { count = head.count; marks = head.outline.marks }))
  written out' room groups same at_start =
      subst (λ (o : Option Head). Writes (told_by o list) out out' (Ok (record { count = head.count; marks = head.outline.marks })))
      (sym is) (
        ap not (ne_eqb head.outline.positions 0 (λ e. let some = kept.lawful.some_positions in omega arith)),
        refl,
        (
          take head.count list,
          own_core head list kept,
          sym long,
          omega (arith, long),
          at_start ∙ ap (λ (gs : List ℕ). gs ++ drop (length gs) out) same,
        ),
      )

  pub too_short : length out < head.count → (f : KeeperFault) → f ≡ fault_of Room → Writes (told_by held list) out out (Err f)
  too_short few f room =
      subst (λ (o : Option Head). Writes (told_by o list) out out (Err f)) (sym is) (
        refl,
        inr (
          ap not (ne_eqb head.outline.positions 0 (λ e. let some = kept.lawful.some_positions in omega arith)),
          room,
          λ fits. omega (arith, long, fits_count (list_counted (own_core head list kept)) fits, few),
        ),
      )
