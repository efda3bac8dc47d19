-- The calls that change a description: their tests, in order, and what each makes of it.
use Rattle.std.specs.Prelude.{ℕ, ◌^◌, ◌<◌, List, length, All, Some, None, Option}
use Rattle.std.specs.Borrow.{Bor}
use Rattle.domain.specs.Binding.{Bound}
use Rattle.domain.specs.Forgetting.{Forgotten}
use Rattle.domain.specs.Joining.{Joined, LawfulListing}
use Rattle.domain.specs.Refusals.{Test}
use Rattle.domain.specs.Requests.{bind_tests, join_tests, forget_tests}
use Rattle.domain.specs.Told.{Told}
use Rattle.domain.specs.declared.change.Change.{Change}
use Rattle.domain.specs.declared.change.Change.TheVariants.{Bind, Join, Forget}
use Rattle.domain.specs.declared.listing.Listing.{Listing}

-- the same change, its groups carried by something else
abbrev pub map_change : {G H : Type 0} → (G → H) → Change G → Change H
map_change carried (Bind x t) = Bind x t
map_change carried (Join other) = Join (record { marks = other.marks; groups = carried other.groups })
map_change carried (Forget m) = Forget m

-- what carries the groups of a change, where it has any
abbrev pub groups_in : {G : Type 0} → Change G → Option G
groups_in (Bind x t) = None
groups_in (Join other) = Some other.groups
groups_in (Forget m) = None

-- a change whose groups lie in a slice that is lent
abbrev pub lent_change : Change (Bor (List ℕ)) → Change (List ℕ)
lent_change c = map_change (λ groups. groups.now) c

-- the groups of another description, in a slice that is lent
abbrev pub lent_listing : Listing (Bor (List ℕ)) → Listing (List ℕ)
lent_listing other = record { marks = other.marks; groups = other.groups.now }

-- what refuses a change of n positions with so many bytes of scratch
abbrev pub change_tests : ℕ → Change (List ℕ) → ℕ → List Test
change_tests n (Bind x t) scratch = bind_tests n x t scratch
change_tests n (Join other) scratch = join_tests n other scratch
change_tests n (Forget m) scratch = forget_tests n m scratch

-- the change makes exactly e of d
abbrev pub Makes : Change (List ℕ) → Told → Told → Type 0
Makes (Bind x t) d e = Bound d x t e
Makes (Join other) d e = Joined d other e
Makes (Forget m) d e = Forgotten d m e

-- what a change of n positions must be, so that a description comes of one
abbrev pub IsAllowed : ℕ → Change (List ℕ) → Type 0
IsAllowed n (Bind x t) = Unit {0}
IsAllowed n (Join other) = LawfulListing n other
IsAllowed n (Forget m) = m < 2 ^ n

-- the arguments are in the ranges of their types, and the groups of a join lie in a slice that exists
abbrev pub IsTyped : Change (List ℕ) → Type 0
IsTyped (Bind x t) = (x < 2 ^ 8) × (t.held < 2 ^ 16) × (t.repeated < 2 ^ 16)
IsTyped (Join other) =
    (other.marks.free < 2 ^ 16) × (other.marks.linear < 2 ^ 16)
    × (All (λ g. g < 2 ^ 16) other.groups × (length other.groups < 2 ^ 62))
IsTyped (Forget m) = m < 2 ^ 16
