-- The computed new description, join and forget are those of the rules.
use Rattle.std.proofs.Common.{◌≡◌, ℕ, zero, suc, ◌-◌, ◌^◌, ◌<◌, Bool, true, false, ltb, ◌⊎◌, List, [], ◌∷◌, Contains, sym, refl, subst, inl, inr, arith}
use native.Mathlib.Decide.{ℕ_discrete}
use lib.Bits.{bit_and, bit_or}
use Rattle.std.proofs.lemmas.Bool.{ltb-true, lt-ltb}
use Rattle.domain.proofs.Bits.{in_below, in_lacking, lacking_in, same_mask, in_all}
use Rattle.domain.proofs.Lists.{Listed, here, there}
use Rattle.domain.specs.Forgetting.{Stripped, Renewed, Forgotten}
use Rattle.domain.specs.Joining.{Joined}
use Rattle.domain.specs.Masks.{In, without}
use Rattle.domain.specs.Opening.{Single, New}
use Rattle.domain.specs.Told.{Group}
use Rattle.domain.specs.declared.listing.Listing.{Listing}
use Rattle.worked.proofs.BindGroups.{lists_told}
use Rattle.worked.proofs.Gathering.{Lists, lists_as, lists_self, Says, says_not, add, add_only, add_new, add_old, keep, lists_keep, lists_merged}
use Rattle.worked.proofs.Positions.{has, says_has, IsMaskOf, marks_self, marks_below, marks_or, marks_and}
use Rattle.worked.proofs.States.{State, tell, single, singles, new_of, join_of, stripped, forget_of}

-- ---- single positions

-- g is one position of m below n, alone
record Alone (n m g : ℕ) : Type 0 where
  place : ℕ
  position : place < n
  held : In place m
  only : g ≡ 2 ^ place

higher : {n m g : ℕ} → Alone n m g → Alone (suc n) m g
higher a = record { place = a.place; position = omega (arith, a.position); held = a.held; only = a.only }

lists_single : {n m : ℕ} {gs : List ℕ} (b : Bool) → Says b (In n m) → Lists (Alone n m) gs → Lists (Alone (suc n) m) (single b (2 ^ n) gs)
lists_single {n} {m} {gs} true s l =
    record {
      only = λ k. elim (add_only (2 ^ n) gs k) [ inl e ↦ record { place = n; position = omega arith; held = s.yes refl; only = e } | inr j ↦ higher (l.only j) ];
      all = λ {g} a. elim (ℕ_discrete a.place n) [
        | yes e ↦ subst (λ u. Listed u (add (2 ^ n) gs)) (sym (subst (λ q. g ≡ 2 ^ q) e a.only)) (add_new (2 ^ n) gs)
        | no ne ↦ add_old (2 ^ n) gs (l.all (record { place = a.place; position = omega (arith, a.position); held = a.held; only = a.only }))
      ];
    }
lists_single {n} {m} {gs} false s l =
    record {
      only = λ k. higher (l.only k);
      all = λ a. elim (ℕ_discrete a.place n) [
        | yes e ↦ absurd (says_not s refl (subst (λ q. In q m) e a.held))
        | no ne ↦ l.all (record { place = a.place; position = omega (arith, a.position); held = a.held; only = a.only })
      ];
    }

lists_singles : (n m : ℕ) → Lists (Alone n m) (singles n m)
unfolding singles
lists_singles zero m = record { only = λ l. elim l [ ]; all = λ a. absurd (omega (arith, a.position)) }
lists_singles (suc n) m = lists_single (has n m) (says_has n m) (lists_singles n m)

-- ---- new

pub new : (n : ℕ) → New n (tell (new_of n))
unfolding new_of
new n =
    record {
      positions = refl;
      groups_made = λ g s. told.only (groups.all s);
      groups_only = λ g k. groups.only (told.all k);
      free_made = λ p h. marks.all h;
      free_only = λ p i. marks.only i;
      linear_made = λ p h. marks.all h;
      linear_only = λ p i. marks.only i;
    }
  where
    e : State
    e = new_of n

    told : Lists (Group (tell e)) e.groups
    told = lists_told e

    groups : Lists (Single n) e.groups
    groups =
        lists_as (λ g a. record { place = a.place; position = a.position; only = a.only })
        (λ g s. record { place = s.place; position = s.position; held = in_all s.place n s.position; only = s.only })
        (lists_singles n (2 ^ n - 1))

    marks : IsMaskOf (λ p. p < n) (2 ^ n - 1)
    marks = marks_below n

-- ---- join

pub join : (s : State) (other : Listing (List ℕ)) → Joined (tell s) other (tell (join_of s other))
unfolding join_of
join s other =
    record {
      positions = refl;
      groups_made = λ g k. told.only (groups.all k);
      groups_only = λ g k. groups.only (told.all k);
      free_common = λ p i j. frees.all (i, j);
      free_only = λ p i. frees.only i;
      linear_common = λ p i j. linears.all (i, j);
      linear_only = λ p i. linears.only i;
    }
  where
    e : State
    e = join_of s other

    told : Lists (Group (tell e)) e.groups
    told = lists_told e

    groups : Lists (λ g. Group (tell s) g ⊎ Contains other.groups g) e.groups
    groups =
        lists_as (λ g k. elim k [ inl a ↦ inr a | inr b ↦ inl b ]) (λ g k. elim k [ inl a ↦ inr a | inr b ↦ inl b ])
        (lists_merged (lists_self other.groups) (lists_told s))

    frees : IsMaskOf (λ p. In p s.marks.free × In p other.marks.free) (bit_and s.marks.free other.marks.free)
    frees = marks_and (marks_self s.marks.free) (marks_self other.marks.free)

    linears : IsMaskOf (λ p. In p s.marks.linear × In p other.marks.linear) (bit_and s.marks.linear other.marks.linear)
    linears = marks_and (marks_self s.marks.linear) (marks_self other.marks.linear)

-- ---- forget

-- u is what a group of P leaves without m
record Remains (P : ℕ → Type 0) (m u : ℕ) : Type 0 where
  group : ℕ
  told : P group
  left : without group m ≡ u

lists_stripped : {P : ℕ → Type 0} {gs : List ℕ} (m : ℕ) → Lists P gs → Lists (Remains P m) (stripped gs m)
unfolding stripped
lists_stripped {P} {gs} m l =
    record {
      only = λ k. only gs (λ g i. l.only i) k;
      all = λ r. subst (λ u. Listed u (stripped gs m)) r.left (all (l.all r.told));
    }
  where
    only : {u : ℕ} (gs : List ℕ) → ((g : ℕ) → Listed g gs → P g) → Listed u (stripped gs m) → Remains P m u
    only [] f k = elim k [ ]
    only (g ∷ gs) f k =
        elim (add_only (without g m) (stripped gs m) k) [
          | inl e ↦ record { group = g; told = f g here; left = sym e }
          | inr j ↦ only gs (λ h i. f h (there i)) j
        ]

    all : {g : ℕ} {gs : List ℕ} → Listed g gs → Listed (without g m) (stripped gs m)
    all (here {gs = hs}) = add_new (without _ m) (stripped hs m)
    all (there {h = h} {gs = hs} k) = add_old (without h m) (stripped hs m) (all k)

remains_stripped : {G : ℕ → Type 0} {m g : ℕ} → Remains G m g → 0 < g → Stripped G m g
remains_stripped {G} {m} {g} r some =
    record {
      group = r.group;
      told = r.told;
      keeps = λ p i n. subst (In p) r.left (in_lacking i n);
      only = λ p i. lacking_in r.group m (subst (In p) (sym r.left) i);
      not_empty = some;
    }

stripped_remains : {G : ℕ → Type 0} {m g : ℕ} → Stripped G m g → Remains G m g
stripped_remains {G} {m} {g} s =
    record {
      group = s.group;
      told = s.told;
      left =
          same_mask (record { each = λ p i. let r = lacking_in s.group m i in s.keeps p r.0 r.1 })
          (record { each = λ p i. let r = s.only p i in in_lacking r.0 r.1 });
    }

pub forget : (s : State) (m : ℕ) → m < 2 ^ s.n → Forgotten (tell s) m (tell (forget_of s m))
unfolding forget_of
forget s m h =
    record {
      positions = refl;
      groups_made = λ g k. told.only (groups.all k);
      groups_only = λ g k. groups.only (told.all k);
      free_made = λ p k. frees.all k;
      free_only = λ p i. frees.only i;
      linear_made = λ p k. linears.all k;
      linear_only = λ p i. linears.only i;
    }
  where
    e : State
    e = forget_of s m

    told : Lists (Group (tell e)) e.groups
    told = lists_told e

    left : Lists (Stripped (Group (tell s)) m) (keep (λ g. ltb 0 g) (stripped s.groups m))
    left =
        lists_as (λ g w. remains_stripped w.told w.holds) (λ g k. record { told = stripped_remains k; holds = k.not_empty })
        (lists_keep {Q = λ g. 0 < g} (λ g. record { yes = ltb-true 0 g; no = lt-ltb 0 g }) (lists_stripped m (lists_told s)))

    renewed : Lists (Renewed m) (singles s.n m)
    renewed =
        lists_as (λ g a. record { place = a.place; forgotten = a.held; only = a.only })
        (λ g k. record { place = k.place; position = in_below s.n k.forgotten h; held = k.forgotten; only = k.only })
        (lists_singles s.n m)

    groups : Lists (λ g. Stripped (Group (tell s)) m g ⊎ Renewed m g) e.groups
    groups =
        lists_as (λ g k. elim k [ inl a ↦ inr a | inr b ↦ inl b ]) (λ g k. elim k [ inl a ↦ inr a | inr b ↦ inl b ])
        (lists_merged renewed left)

    frees : IsMaskOf (λ p. In p s.marks.free ⊎ In p m) (bit_or s.marks.free m)
    frees = marks_or (marks_self s.marks.free) (marks_self m)

    linears : IsMaskOf (λ p. In p s.marks.linear ⊎ In p m) (bit_or s.marks.linear m)
    linears = marks_or (marks_self s.marks.linear) (marks_self m)
