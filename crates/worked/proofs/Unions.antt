-- Unions of listed groups: pairs, closures, and lists extended by a closure.
use Rattle.std.proofs.Common.{◌≡◌, ℕ, ◌⊎◌, List, [], ◌∷◌, sym, ap, ◌∙◌, subst, inl, inr}
use lib.Bits.{bit_or}
use Rattle.domain.proofs.Bits.{or_comm, same_mask, union_within, within_left, within_right, within_self, within_trans}
use Rattle.domain.proofs.Lists.{Listed, here, there}
use Rattle.domain.specs.Groups.{Paired, Closure, one, more, Extended, alone, joined}
use Rattle.domain.specs.Masks.{Within}
use Rattle.worked.proofs.Gathering.{Lists, lists_as, lists_merged, add, add_only, add_new, add_old, merged}

-- ---- the laws of unions

or_self : (a : ℕ) → bit_or a a ≡ a
or_self a = same_mask (union_within (within_self a) (within_self a)) (within_left a a)

or_again : (a b : ℕ) → bit_or a (bit_or a b) ≡ bit_or a b
or_again a b = same_mask (union_within (within_left a b) (within_self (bit_or a b))) (within_right a (bit_or a b))

or_swapped : (a b c : ℕ) → bit_or a (bit_or b c) ≡ bit_or b (bit_or a c)
or_swapped a b c = same_mask (swap a b c) (swap b a c)
  where
    swap : (a b c : ℕ) → Within (bit_or a (bit_or b c)) (bit_or b (bit_or a c))
    swap a b c =
        union_within (within_trans (within_left a c) (within_right b (bit_or a c)))
        (union_within (within_left b (bit_or a c)) (within_trans (within_right a c) (within_right b (bit_or a c))))

-- ---- one group united with each of a list, and those of another list

unfoldable pub joins : ℕ → List ℕ → List ℕ → List ℕ
joins g [] ks = ks
joins g (h ∷ hs) ks = add (bit_or g h) (joins g hs ks)

-- u is g united with an entry of hs
record United (g : ℕ) (hs : List ℕ) (u : ℕ) : Type 0 where
  part : ℕ
  listed : Listed part hs
  whole : bit_or g part ≡ u

later : {g h u : ℕ} {hs : List ℕ} → United g hs u → United g (h ∷ hs) u
later w = record { part = w.part; listed = there w.listed; whole = w.whole }

joins_only : {u : ℕ} (g : ℕ) (hs ks : List ℕ) → Listed u (joins g hs ks) → United g hs u ⊎ Listed u ks
unfolding joins
joins_only g [] ks l = inr l
joins_only g (h ∷ hs) ks l =
    elim (add_only (bit_or g h) (joins g hs ks) l) [
      | inl e ↦ inl (record { part = h; listed = here; whole = sym e })
      | inr k ↦ elim (joins_only g hs ks k) [ inl w ↦ inl (later w) | inr m ↦ inr m ]
    ]

joins_new : {h : ℕ} (g : ℕ) (hs ks : List ℕ) → Listed h hs → Listed (bit_or g h) (joins g hs ks)
unfolding joins
joins_new g [] ks l = elim l [ ]
joins_new g (h ∷ hs) ks here = add_new (bit_or g h) (joins g hs ks)
joins_new g (k ∷ hs) ks (there l) = add_old (bit_or g k) (joins g hs ks) (joins_new g hs ks l)

joins_old : {u : ℕ} (g : ℕ) (hs ks : List ℕ) → Listed u ks → Listed u (joins g hs ks)
unfolding joins
joins_old g [] ks l = l
joins_old g (h ∷ hs) ks l = add_old (bit_or g h) (joins g hs ks) (joins_old g hs ks l)

-- ---- pairs

unfoldable pub pairs : List ℕ → List ℕ → List ℕ
pairs [] ys = []
pairs (x ∷ xs) ys = joins x ys (pairs xs ys)

pub lists_pairs : {A B : ℕ → Type 0} {xs ys : List ℕ} → Lists A xs → Lists B ys → Lists (Paired A B) (pairs xs ys)
unfolding pairs
lists_pairs {A} {B} {xs} {ys} la lb = record { only = λ l. only xs (λ g k. la.only k) l; all = λ p. whole p }
  where
    only : {u : ℕ} (xs : List ℕ) → ((g : ℕ) → Listed g xs → A g) → Listed u (pairs xs ys) → Paired A B u
    only [] f l = elim l [ ]
    only (x ∷ xs) f l =
        elim (joins_only x ys (pairs xs ys) l) [
          | inl w ↦ record { left = x; right = w.part; in_left = f x here; in_right = lb.only w.listed; whole = w.whole }
          | inr k ↦ only xs (λ g m. f g (there m)) k
        ]

    all : {a b : ℕ} (xs : List ℕ) → Listed a xs → Listed b ys → Listed (bit_or a b) (pairs xs ys)
    all [] l m = elim l [ ]
    all (a ∷ xs) here m = joins_new a ys (pairs xs ys) m
    all (x ∷ xs) (there l) m = joins_old x ys (pairs xs ys) (all xs l m)

    whole : {u : ℕ} → Paired A B u → Listed u (pairs xs ys)
    whole p = subst (λ m. Listed m (pairs xs ys)) p.whole (all xs (la.all p.in_left) (lb.all p.in_right))

-- ---- closures

unfoldable pub closed : List ℕ → List ℕ
closed [] = []
closed (g ∷ gs) = let c = closed gs in add g (joins g c c)

closure_as : {A B : ℕ → Type 0} {u : ℕ} → ((g : ℕ) → A g → B g) → Closure A u → Closure B u
closure_as f (one a) = one (f _ a)
closure_as f (more a c) = more (f _ a) (closure_as f c)

-- the three kinds of entries of the closure of g and gs
data Kind (g : ℕ) (c : List ℕ) (u : ℕ) : Type 0 where
  itself : u ≡ g → Kind g c u
  united : United g c u → Kind g c u
  old : Listed u c → Kind g c u

kind : {u : ℕ} (g : ℕ) (c : List ℕ) → Listed u (add g (joins g c c)) → Kind g c u
kind g c l =
    elim (add_only g (joins g c c) l) [
      | inl e ↦ itself e
      | inr k ↦ elim (joins_only g c c k) [ inl w ↦ united w | inr m ↦ old m ]
    ]

closed_new : (g : ℕ) (c : List ℕ) → Listed g (add g (joins g c c))
closed_new g c = add_new g (joins g c c)

closed_united : {h : ℕ} (g : ℕ) (c : List ℕ) → Listed h c → Listed (bit_or g h) (add g (joins g c c))
closed_united g c l = add_old g (joins g c c) (joins_new g c c l)

closed_old : {u : ℕ} (g : ℕ) (c : List ℕ) → Listed u c → Listed u (add g (joins g c c))
closed_old g c l = add_old g (joins g c c) (joins_old g c c l)

at : {u v : ℕ} {gs : List ℕ} → u ≡ v → Listed u gs → Listed v gs
at {gs = gs} e l = subst (λ m. Listed m gs) e l

kind_closure : {u g : ℕ} {gs c : List ℕ} → ((v : ℕ) → Listed v c → Closure (λ h. Listed h gs) v) → Kind g c u → Closure (λ h. Listed h (g ∷ gs)) u
kind_closure {g = g} {gs = gs} f (itself e) = subst (λ m. Closure (λ h. Listed h (g ∷ gs)) m) (sym e) (one here)
kind_closure {g = g} {gs = gs} f (united w) =
    subst (λ m. Closure (λ h. Listed h (g ∷ gs)) m) w.whole
    (more here (closure_as (λ h k. there k) (f w.part w.listed)))
kind_closure f (old k) = closure_as (λ h k. there k) (f _ k)

closed_only : (gs : List ℕ) (u : ℕ) → Listed u (closed gs) → Closure (λ h. Listed h gs) u
unfolding closed
closed_only [] u l = elim l [ ]
closed_only (g ∷ gs) u l = kind_closure (closed_only gs) (kind g (closed gs) l)

closed_one : (gs : List ℕ) (u : ℕ) → Listed u gs → Listed u (closed gs)
unfolding closed
closed_one [] u l = elim l [ ]
closed_one (g ∷ gs) u here = closed_new g (closed gs)
closed_one (g ∷ gs) u (there l) = closed_old g (closed gs) (closed_one gs u l)

-- the first group with any of the closure, and a later one
with_first : (g : ℕ) (c : List ℕ) (h : ℕ) → Kind g c h → Listed (bit_or g h) (add g (joins g c c))
with_first g c h (itself e) = at (sym (ap (bit_or g) e ∙ or_self g)) (closed_new g c)
with_first g c h (united w) =
    at (sym (ap (bit_or g) (sym w.whole) ∙ or_again g w.part)) (closed_united g c w.listed)
with_first g c h (old k) = closed_united g c k

with_later : (f g : ℕ) (c : List ℕ) (h : ℕ) → Listed f c → ((b : ℕ) → Listed b c → Listed (bit_or f b) c) → Kind g c h
    → Listed (bit_or f h) (add g (joins g c c))
with_later f g c h l ih (itself e) = at (or_comm g f ∙ ap (bit_or f) (sym e)) (closed_united g c l)
with_later f g c h l ih (united w) =
    at (sym (ap (bit_or f) (sym w.whole) ∙ or_swapped f g w.part)) (closed_united g c (ih w.part w.listed))
with_later f g c h l ih (old k) = closed_old g c (ih h k)

closed_more : (gs : List ℕ) (f h : ℕ) → Listed f gs → Listed h (closed gs) → Listed (bit_or f h) (closed gs)
unfolding closed
closed_more [] f h l m = elim l [ ]
closed_more (g ∷ gs) f h here m = with_first g (closed gs) h (kind g (closed gs) m)
closed_more (g ∷ gs) f h (there l) m =
    with_later f g (closed gs) h (closed_one gs f l) (λ b k. closed_more gs f b l k) (kind g (closed gs) m)

closed_all : {gs : List ℕ} {u : ℕ} → Closure (λ h. Listed h gs) u → Listed u (closed gs)
closed_all {gs} (one l) = closed_one gs _ l
closed_all {gs} (more l c) = closed_more gs _ _ l (closed_all c)

pub lists_closed : {A : ℕ → Type 0} {gs : List ℕ} → Lists A gs → Lists (Closure A) (closed gs)
lists_closed {A} {gs} la =
    record {
      only = λ l. closure_as (λ g k. la.only k) (closed_only gs _ l);
      all = λ c. closed_all (closure_as (λ g k. la.all k) c);
    }

-- ---- extensions

unfoldable pub extended : List ℕ → List ℕ → List ℕ
extended gs ss = merged (pairs gs (closed ss)) gs

pub lists_extended : {A S : ℕ → Type 0} {gs ss : List ℕ} → Lists A gs → Lists S ss → Lists (Extended A S) (extended gs ss)
unfolding extended
lists_extended la ls =
    lists_as (λ g s. elim s [ inl p ↦ joined p | inr a ↦ alone a ]) (λ g e. elim e [ alone a ↦ inr a | joined p ↦ inl p ])
    (lists_merged (lists_pairs la (lists_closed ls)) la)
