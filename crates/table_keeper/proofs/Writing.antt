-- The core of the description held, as a write-out gives it.
use Rattle.std.proofs.Common.{◌≡◌, ℕ, not, List, ◌++◌, length, drop, Some, Ok, Option, sym, ap, ◌∙◌, subst, arith, ne_eqb}
use Rattle.coverage.proofs.ListedCores.{fills_inside, fills_given}
use Rattle.coverage.specs.Listing.{WritesCore, FillsCore}
use Rattle.description.specs.Descriptions.{told}
use Rattle.description.specs.declared.Description.{Description}
use Rattle.domain.specs.Refusals.{first_of}
use Rattle.domain.specs.Requests.{open_tests}
use Rattle.domain.specs.Told.{Group}
use Rattle.domain.specs.declared.marks.Marks.{Marks}
use Rattle.keeper.specs.Calls.{Writes}
use Rattle.table_keeper.specs.Tells.{told_by}

pub writes_held : (held : Option Description) (d : Description) → held ≡ Some d → (n : ℕ) (table list list' : List ℕ) (count : ℕ) (marks : Marks)
    → n ≡ d.outline.positions → table ≡ d.table → marks ≡ d.outline.marks → length list' ≡ length list
    → WritesCore n table list list' (Ok count)
    → Writes (told_by held) list list' (Ok (record { count = count; marks = marks }))
writes_held held d is n table list list' count marks en et em long h =
    subst (λ (o : Option Description). Writes (told_by o) list list' (Ok (record { count = count; marks = marks }))) (sym is) (
      ap not (ne_eqb d.outline.positions 0 (λ e. let some = d.lawful.some_positions in omega arith)),
      em,
      (w.groups, w.core, w.counted, omega (arith, w.counted, fills_inside list list' count w long), w.at_start ∙ ap (λ (k : ℕ). w.groups ++ drop k list) w.counted),
    )
  where
    told_same : WritesCore d.outline.positions d.table list list' (Ok count)
    told_same =
        subst (λ (t : List ℕ). WritesCore d.outline.positions t list list' (Ok count)) et
        (subst (λ (m : ℕ). WritesCore m table list list' (Ok count)) en h)

    w : FillsCore (Group (told d)) list list' count
    w = fills_given (first_of (open_tests d.outline.positions)) (Group (told d)) list list' count told_same
