-- Descriptions with their groups in a list, and what each step makes of one, computed.
use Rattle.std.proofs.Common.{ℕ, zero, suc, ◌-◌, ◌^◌, Bool, true, false, not, ◌&&◌, ◌||◌, eqb, ltb, nat_eq, List, [], ◌∷◌}
use Rattle.std.specs.Set.{is_member}
use lib.Bits.{bit_and, bit_or}
use Rattle.domain.specs.Masks.{is_within, without}
use Rattle.domain.specs.Requests.{held_by}
use Rattle.domain.specs.Told.{Told}
use Rattle.domain.specs.declared.case.Case.{Case}
use Rattle.domain.specs.declared.case.Case.TheVariants.{Free, BothLinear, PositionLinear, TermLinear, Neither}
use Rattle.domain.specs.declared.change.Change.{Change}
use Rattle.domain.specs.declared.change.Change.TheVariants.{Bind, Join, Forget}
use Rattle.domain.specs.declared.listing.Listing.{Listing}
use Rattle.domain.specs.declared.marks.Marks.{Marks}
use Rattle.domain.specs.declared.term.Term.{Term}
use Rattle.worked.proofs.Gathering.{add, merged, keep}
use Rattle.worked.proofs.Positions.{has, touches, some, each, unless}
use Rattle.worked.proofs.Unions.{pairs, closed, extended}

pub record State : Type 0 where
  pub n : ℕ
  pub groups : List ℕ
  pub marks : Marks

abbrev pub tell : State → Told
tell s = record { n = s.n; groups = is_member nat_eq s.groups; marks = s.marks }

-- ---- new

-- the groups of one position of m below n
abbrev pub single : Bool → ℕ → List ℕ → List ℕ
single true g gs = add g gs
single false g gs = gs

unfoldable pub singles : ℕ → ℕ → List ℕ
singles zero m = []
singles (suc n) m = single (has n m) (2 ^ n) (singles n m)

unfoldable pub new_of : ℕ → State
new_of n = record { n = n; groups = singles n (2 ^ n - 1); marks = record { free = 2 ^ n - 1; linear = 2 ^ n - 1 } }

-- ---- terms

-- the positions that share with p, where gs are the groups
unfoldable pub sharing : List ℕ → ℕ → ℕ
sharing gs p = held_by (keep (has p) gs)

-- the term is a position, and it is free
unfoldable pub free_term : State → Term → Bool
free_term s t = t.bare && is_within t.held s.marks.free

-- p is linear, held once, and shares with no other position of the term
unfoldable pub once : State → Term → ℕ → Bool
once s t p =
    has p s.marks.linear
    && (not (has p t.repeated) && is_within (bit_and (sharing s.groups p) t.held) (2 ^ p))

unfoldable pub linear_term : State → Term → Bool
linear_term s t =
    each s.n (λ p. not (has p t.held) || (not (has p (held_by s.groups)) || once s t p))

-- ---- bind

abbrev pub case_of : Bool → Bool → Bool → Bool → Case
case_of true ft lp lt = Free
case_of false true lp lt = Free
case_of false false true true = BothLinear
case_of false false true false = PositionLinear
case_of false false false true = TermLinear
case_of false false false false = Neither

-- the groups that each case makes of those of the two sides and those that are shared
abbrev pub made_of : Case → List ℕ → List ℕ → List ℕ → List ℕ
made_of Free ls rs ss = pairs ls rs
made_of BothLinear ls rs ss = pairs (extended ls ss) (extended rs ss)
made_of PositionLinear ls rs ss = pairs (closed ls) (extended rs ss)
made_of TermLinear ls rs ss = pairs (extended ls ss) (closed rs)
made_of Neither ls rs ss = pairs (closed ls) (closed rs)

-- those that meet both masks
unfoldable pub shared_groups : List ℕ → ℕ → ℕ → List ℕ
shared_groups gs a b = keep (λ g. touches g a && touches g b) gs

-- those of one side
abbrev pub side_groups : List ℕ → ℕ → List ℕ
side_groups gs a = shared_groups gs a a

-- those that meet neither
unfoldable pub apart_groups : List ℕ → ℕ → ℕ → List ℕ
apart_groups gs a b = keep (λ g. not (touches g a) && not (touches g b)) gs

unfoldable pub bound_groups : List ℕ → ℕ → ℕ → Case → List ℕ
unfolding shared_groups apart_groups
bound_groups gs a b c =
    merged (made_of c (side_groups gs a) (side_groups gs b) (shared_groups gs a b)) (apart_groups gs a b)

-- what stays of the free mask
unfoldable pub stays_free : State → ℕ → Term → ℕ
stays_free s x t =
    without s.marks.free
    (bit_or (unless (free_term s t) (held_by (side_groups s.groups (2 ^ x)))) (unless (has x s.marks.free) (held_by (side_groups s.groups t.held))))

unfoldable pub stays_linear : Bool → State → ℕ → Term → ℕ
stays_linear verdict s x t =
    let near_x = held_by (side_groups s.groups (2 ^ x)) in
    let near_t = held_by (side_groups s.groups t.held) in
    without s.marks.linear (bit_or (bit_and near_x near_t) (bit_or (unless verdict near_x) (unless (has x s.marks.linear) near_t)))

-- the positions of n that no group holds
unfoldable pub ground_of : ℕ → List ℕ → ℕ
ground_of n gs = without (2 ^ n - 1) (held_by gs)

-- a bind with a verdict on whether the term is linear, and with the positions that are made linear by the new groups
unfoldable pub bind_by : Bool → (List ℕ → ℕ) → State → ℕ → Term → State
bind_by verdict again s x t =
    let groups = bound_groups s.groups (2 ^ x) t.held (case_of (has x s.marks.free) (free_term s t) (has x s.marks.linear) verdict) in
    let free = stays_free s x t in
    record {
      n = s.n;
      groups = groups;
      marks = record { free = free; linear = bit_or (stays_linear verdict s x t) (bit_or free (again groups)) };
    }

unfoldable pub bind_of : State → ℕ → Term → State
unfolding bind_by
bind_of s x t = bind_by (linear_term s t) (ground_of s.n) s x t

-- ---- join and forget

unfoldable pub join_of : State → Listing (List ℕ) → State
join_of s other =
    record {
      n = s.n;
      groups = merged other.groups s.groups;
      marks = record { free = bit_and s.marks.free other.marks.free; linear = bit_and s.marks.linear other.marks.linear };
    }

-- what the groups leave without the positions of m
unfoldable pub stripped : List ℕ → ℕ → List ℕ
stripped [] m = []
stripped (g ∷ gs) m = add (without g m) (stripped gs m)

unfoldable pub forget_of : State → ℕ → State
forget_of s m =
    record {
      n = s.n;
      groups = merged (singles s.n m) (keep (λ g. ltb 0 g) (stripped s.groups m));
      marks = record { free = bit_or s.marks.free m; linear = bit_or s.marks.linear m };
    }

-- ---- any change

unfoldable pub change_of : Change (List ℕ) → State → State
change_of (Bind x t) s = bind_of s x t
change_of (Join other) s = join_of s other
change_of (Forget m) s = forget_of s m

-- ---- core

-- the groups strictly inside g
unfoldable pub inside : List ℕ → ℕ → List ℕ
inside gs g = keep (λ h. is_within h g && not (eqb h g)) gs

-- some position of g, with those that share with it inside g, leaves out another
unfoldable pub is_core : ℕ → List ℕ → ℕ → Bool
is_core n gs g = some n (λ p. has p g && ltb 0 (without g (sharing (inside gs g) p)))

unfoldable pub core_of : ℕ → List ℕ → List ℕ
core_of n gs = merged (keep (is_core n gs) gs) []
