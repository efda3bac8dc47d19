-- What a description gives, as the keeper's contracts want it.
use Rattle.std.proofs.Common.{◌≡◌, ℕ, ◌≤◌, Bool, true, false, not, ◌||◌, eqb, ltb, is_some, List, Some, None, Ok, Option, sym, refl, ap, subst, arith, le-ltb, ne_eqb}
use Rattle.std.proofs.lemmas.Bool.{false≢true}
use Rattle.coverage.proofs.Cover.{alike_refl}
use Rattle.description.specs.Descriptions.{told}
use Rattle.description.specs.declared.Description.{Description}
use Rattle.domain.specs.Changes.{Makes, change_tests}
use Rattle.domain.specs.Opening.{New}
use Rattle.domain.specs.Refusals.{first_of, pick}
use Rattle.domain.specs.Requests.{Gives, open_tests, bytes_for}
use Rattle.domain.specs.Told.{Told}
use Rattle.domain.specs.declared.change.Change.{Change}
use Rattle.domain.specs.declared.limits.TheConstants.{MOST_POSITIONS, MOST_GROUPS}
use Rattle.domain.specs.declared.refusal.Refusal.TheVariants.{Count, Room}
use Rattle.domain.proofs.Refusing.{gave}
use Rattle.keeper.specs.Calls.{Opens, Changes, ChangesBy, Exactly, opened, unopened}
use Rattle.coverage.proofs.MostGroups.{most_fit}
use Rattle.table_keeper.specs.Tells.{told_by}

-- a keeper that holds nothing is not opened
told_none : (o : Option Description) → is_some o ≡ false → told_by o ≡ unopened
told_none None h = refl
told_none (Some d) h = absurd (false≢true (sym h))

-- the new description is what the keeper tells
pub opens_new : (n scratch : ℕ) (o : Option Description) (d : Description) → is_some o ≡ false
    → Gives (first_of (open_tests n)) (Ok d) (λ e. New n (told e)) → bytes_for n ≤ scratch
    → Opens MOST_GROUPS n scratch (told_by o) (told d) (Ok tt)
opens_new n scratch o d none h room =
    subst (λ (x : Told). Opens MOST_GROUPS n scratch x (told d) (Ok tt)) (sym (told_none o none)) (go (eqb n 0 || ltb MOST_POSITIONS n) h)
  where
    go : (b : Bool) → Gives (pick b Count None) (Ok d) (λ e. New n (told e))
        → Changes (pick b Count (pick (ltb scratch (bytes_for n)) Room None)) MOST_GROUPS (New n) Exactly unopened (told d) (Ok tt)
    go true h = absurd (let q = h in cc)
    go false h = rw (le-ltb scratch (bytes_for n) room) (told d, h, most_fit (told d) d.lawful, refl)

open_told : (d : Description) → not (opened (told d)) ≡ false
open_told d = ap (λ (b : Bool). not (not b)) (ne_eqb d.outline.positions 0 (λ e. let some = d.lawful.some_positions in omega arith))

-- a change of the description held, which the description gives
module _ (held : Option Description) (d : Description) (is : held ≡ Some d) (c : Change (List ℕ)) (scratch : ℕ) (e : Description)
    (given : Gives (first_of (change_tests (told d).n c scratch)) (Ok e) (λ x. Makes c (told d) (told x))) where
  made : Makes c (told d) (told e)
  made = (gave _ e (λ x. Makes c (told d) (told x)) given).1

  pub change_keeps : Makes c (told_by held) (told e)
  change_keeps = subst (λ (o : Option Description). Makes c (told_by o) (told e)) (sym is) made

  pub change_made : ChangesBy c MOST_GROUPS scratch (told_by held) (told e) (Ok tt)
  change_made =
      let none = (gave _ e (λ x. Makes c (told d) (told x)) given).0 in
      subst (λ (o : Option Description). ChangesBy c MOST_GROUPS scratch (told_by o) (told e) (Ok tt)) (sym is)
      (rw (open_told d, none) (told e, made, most_fit (told e) e.lawful, alike_refl))
