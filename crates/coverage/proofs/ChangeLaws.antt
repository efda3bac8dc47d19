-- The laws of every change: it takes alike descriptions to alike ones, and makes exactly one.
use Rattle.std.proofs.Common.{◌≡◌, ℕ, ◌^◌, Bool, true, false, List, sym, refl, subst}
use mathlib.Core.Path.{fun_ext}
use Rattle.domain.specs.Told.{Told, Group, Lawful}
use Rattle.domain.specs.Opening.{New}
use Rattle.domain.specs.Binding.{NewGroup}
use Rattle.domain.specs.Changes.{Makes}
use Rattle.domain.specs.Coverage.{Alike}
use Rattle.domain.specs.declared.change.Change.{Change}
use Rattle.domain.specs.declared.change.Change.TheVariants.{Bind, Join, Forget}
use Rattle.coverage.proofs.Cover.{alike_refl}
use Rattle.coverage.proofs.Places.{new_alike}
use Rattle.coverage.proofs.BindAlike.{one_case, bind_alike}
use Rattle.coverage.proofs.JoinCover.{join_alike}
use Rattle.coverage.proofs.ForgetCover.{forget_alike}
use Rattle.coverage.proofs.ExistsBind.{bind_made}
use Rattle.coverage.proofs.ExistsSteps.{join_made, forget_made}

pub change_alike : (c : Change (List ℕ)) → {d d' e e' : Told} → Alike d d' → Makes c d e → Makes c d' e' → Alike e e'
change_alike (Bind x t) a u v = bind_alike a u v
change_alike (Join other) a u v = join_alike a u v
change_alike (Forget m) a u v = forget_alike a u v

pub change_made : (c : Change (List ℕ)) (d : Told) → Lawful d → (e : Told) × Makes c d e
change_made (Bind x t) d l = bind_made d x t l
change_made (Join other) d l = join_made d other
change_made (Forget m) d l = forget_made d m

-- ---- no more than one

same_test : (a b : Bool) → (a ≡ true → b ≡ true) → (b ≡ true → a ≡ true) → a ≡ b
same_test true b f g = sym (f refl)
same_test false true f g = g refl
same_test false false f g = refl

-- alike descriptions with the same groups are one description
pub one_told : {d e : Told} → Alike d e → ((g : ℕ) → Group d g → Group e g) → ((g : ℕ) → Group e g → Group d g) → d ≡ e
one_told {d} {e} a f b =
    λ i. record { n = a.positions i; groups = same i; marks = a.marks i }
  where
    same : d.groups ≡ e.groups
    same =
        fun_ext
        (λ g. same_test (d.groups g) (e.groups g) (λ k. (f g (record { told = k })).told) (λ k. (b g (record { told = k })).told))

pub one_new : {n : ℕ} {e e' : Told} → New n e → New n e' → e ≡ e'
one_new u v =
    one_told (new_alike u v) (λ g k. v.groups_made g (u.groups_only g k)) (λ g k. u.groups_made g (v.groups_only g k))

-- the groups that one result has, another has
made_groups : (c : Change (List ℕ)) (d e e' : Told) → Makes c d e → Makes c d e' → (g : ℕ) → Group e g → Group e' g
made_groups (Bind x t) d e e' u v g k =
    v.groups_made g
    (subst (λ c. NewGroup (Group d) (2 ^ x) t.held c g) (one_case d x t u.case v.case u.fits v.fits)
    (u.groups_only g k))
made_groups (Join other) d e e' u v g k = v.groups_made g (u.groups_only g k)
made_groups (Forget m) d e e' u v g k = v.groups_made g (u.groups_only g k)

pub one_made : (c : Change (List ℕ)) (d : Told) → {e e' : Told} → Makes c d e → Makes c d e' → e ≡ e'
one_made c d {e} {e'} u v =
    one_told (change_alike c alike_refl u v) (made_groups c d e e' u v) (made_groups c d e' e v u)
