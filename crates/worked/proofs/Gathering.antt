-- Lists of groups: tests, additions and kept entries. A list is read as the set of its entries.
use Rattle.std.proofs.Common.{◌≡◌, ℕ, ◌<◌, Bool, true, false, eqb, ltb, nat_eq, ◌⊎◌, List, [], ◌∷◌, Contains, refl, subst, inl, inr, arith}
use Rattle.std.specs.Cmp.{unsigned_Decides}
use Rattle.std.specs.Set.{is_member}
use Rattle.std.proofs.lemmas.Map.Made.{is_member-Decides}
use Rattle.std.proofs.lemmas.Bool.{eqb-true, ltb-true, ltb-false, eqb-false, both_ways}
use Rattle.domain.proofs.Lists.{Listed, here, there, contains, listed, Above, none, next}

-- ---- what a list holds

-- gs holds exactly the groups of P
pub record Lists (P : ℕ → Type 0) (gs : List ℕ) : Type 0 where
  pub only : {g : ℕ} → Listed g gs → P g
  pub all : {g : ℕ} → P g → Listed g gs

pub lists_self : (gs : List ℕ) → Lists (Contains gs) gs
lists_self gs = record { only = λ l. contains l; all = λ {g} c. listed gs g c }

pub lists_as : {P Q : ℕ → Type 0} {gs : List ℕ} → ((g : ℕ) → P g → Q g) → ((g : ℕ) → Q g → P g) → Lists P gs → Lists Q gs
lists_as f b l = record { only = λ {g} k. f g (l.only k); all = λ {g} q. l.all (b g q) }

-- a Bool that is true exactly where P holds
pub record Says (b : Bool) (P : Type 0) : Type 0 where
  pub yes : b ≡ true → P
  pub no : P → b ≡ true

pub says_not : {b : Bool} {P : Type 0} → Says b P → b ≡ false → P → ⊥
says_not {b} s e p = both_ways b e (s.no p)

-- ---- membership

pub says_member : (g : ℕ) (gs : List ℕ) → Says (is_member nat_eq gs g) (Listed g gs)
says_member g gs =
    let d = is_member-Decides unsigned_Decides gs g in
    record { yes = λ e. listed gs g (d.0 e); no = λ l. d.1 (contains l) }

-- ---- one more entry, in its place, once

abbrev placed : Bool → Bool → ℕ → ℕ → List ℕ → List ℕ → List ℕ
placed true same g h hs more = g ∷ h ∷ hs
placed false true g h hs more = h ∷ hs
placed false false g h hs more = h ∷ more

unfoldable pub add : ℕ → List ℕ → List ℕ
add g [] = g ∷ []
add g (h ∷ hs) = placed (ltb g h) (eqb g h) g h hs (add g hs)

placed_only : {u g h : ℕ} {hs more : List ℕ} (b c : Bool) → (Listed u more → (u ≡ g) ⊎ Listed u hs)
    → Listed u (placed b c g h hs more) → (u ≡ g) ⊎ Listed u (h ∷ hs)
placed_only true c f here = inl refl
placed_only true c f (there l) = inr l
placed_only false true f l = inr l
placed_only false false f here = inr here
placed_only false false f (there l) = elim (f l) [ inl e ↦ inl e | inr m ↦ inr (there m) ]

pub add_only : {u : ℕ} (g : ℕ) (gs : List ℕ) → Listed u (add g gs) → (u ≡ g) ⊎ Listed u gs
unfolding add
add_only g [] here = inl refl
add_only g [] (there l) = inr l
add_only g (h ∷ hs) l = placed_only (ltb g h) (eqb g h) (add_only g hs) l

placed_new : (g h : ℕ) (hs : List ℕ) {more : List ℕ} (b c : Bool) → (c ≡ true → g ≡ h) → Listed g more → Listed g (placed b c g h hs more)
placed_new g h hs true c e l = here
placed_new g h hs false true e l = subst (λ m. Listed g (m ∷ hs)) (e refl) here
placed_new g h hs false false e l = there l

placed_old : {u h : ℕ} (g : ℕ) {hs more : List ℕ} (b c : Bool) → (Listed u hs → Listed u more) → Listed u (h ∷ hs) → Listed u (placed b c g h hs more)
placed_old g true c f l = there l
placed_old g false true f l = l
placed_old g false false f here = here
placed_old g false false f (there l) = there (f l)

pub add_new : (g : ℕ) (gs : List ℕ) → Listed g (add g gs)
unfolding add
add_new g [] = here
add_new g (h ∷ hs) = placed_new g h hs (ltb g h) (eqb g h) (eqb-true g h) (add_new g hs)

pub add_old : {u : ℕ} (g : ℕ) (gs : List ℕ) → Listed u gs → Listed u (add g gs)
unfolding add
add_old g [] l = there l
add_old g (h ∷ hs) l = placed_old g (ltb g h) (eqb g h) (add_old g hs) l

placed_above : {last g h : ℕ} {hs more : List ℕ} (b c : Bool) → (b ≡ true → g < h) → last < g → Above last (h ∷ hs)
    → (b ≡ false → c ≡ false → Above h more) → Above last (placed b c g h hs more)
placed_above true c lt i (next j a) f = next i (next (lt refl) a)
placed_above false true lt i a f = a
placed_above false false lt i (next j a) f = next j (f refl refl)

add_above : {last : ℕ} (g : ℕ) (gs : List ℕ) → last < g → Above last gs → Above last (add g gs)
unfolding add
add_above g [] i none = next i none
add_above g (h ∷ hs) i (next j a) =
    placed_above (ltb g h) (eqb g h) (ltb-true g h) i (next j a) (λ b c. add_above g hs (above g h b c) a)
  where
    above : (g h : ℕ) → ltb g h ≡ false → eqb g h ≡ false → h < g
    above g h b c = let n : g ≡ h → ⊥ = eqb-false g h c in omega (arith, ltb-false g h b, n)

-- ---- two lists in one, ascending where the second is

unfoldable pub merged : List ℕ → List ℕ → List ℕ
merged [] hs = hs
merged (g ∷ gs) hs = add g (merged gs hs)

pub lists_merged : {A B : ℕ → Type 0} {xs ys : List ℕ} → Lists A xs → Lists B ys → Lists (λ g. A g ⊎ B g) (merged xs ys)
unfolding merged
lists_merged {A} {B} {xs} {ys} la lb =
    record {
      only = λ l. elim (only xs l) [ inl k ↦ inl (la.only k) | inr k ↦ inr (lb.only k) ];
      all = λ s. elim s [ inl a ↦ left xs (la.all a) | inr b ↦ right xs (lb.all b) ];
    }
  where
    only : {u : ℕ} (xs : List ℕ) → Listed u (merged xs ys) → Listed u xs ⊎ Listed u ys
    only [] l = inr l
    only {u} (a ∷ xs) l =
        elim (add_only a (merged xs ys) l) [
          | inl e ↦ inl (subst (λ m. Listed u (m ∷ xs)) e here)
          | inr k ↦ elim (only xs k) [ inl m ↦ inl (there m) | inr m ↦ inr m ]
        ]

    left : {u : ℕ} (xs : List ℕ) → Listed u xs → Listed u (merged xs ys)
    left [] l = elim l [ ]
    left (a ∷ xs) here = add_new a (merged xs ys)
    left (a ∷ xs) (there l) = add_old a (merged xs ys) (left xs l)

    right : {u : ℕ} (xs : List ℕ) → Listed u ys → Listed u (merged xs ys)
    right [] l = l
    right (a ∷ xs) l = add_old a (merged xs ys) (right xs l)

pub merged_above : {last : ℕ} (xs : List ℕ) {ys : List ℕ} → ((g : ℕ) → Listed g xs → last < g) → Above last ys → Above last (merged xs ys)
unfolding merged
merged_above [] f a = a
merged_above (g ∷ gs) {ys} f a = add_above g (merged gs ys) (f g here) (merged_above gs (λ h l. f h (there l)) a)

-- ---- the entries that pass a test

abbrev kept : Bool → ℕ → List ℕ → List ℕ
kept true g gs = g ∷ gs
kept false g gs = gs

unfoldable pub keep : (ℕ → Bool) → List ℕ → List ℕ
keep test [] = []
keep test (g ∷ gs) = kept (test g) g (keep test gs)

-- those of P of which Q holds too
pub record Which (P Q : ℕ → Type 0) (g : ℕ) : Type 0 where
  pub told : P g
  pub holds : Q g

pub lists_keep : {P Q : ℕ → Type 0} {test : ℕ → Bool} {gs : List ℕ} → ((g : ℕ) → Says (test g) (Q g)) → Lists P gs
    → Lists (Which P Q) (keep test gs)
unfolding keep
lists_keep {P} {Q} {test} {gs} s lp =
    record {
      only = λ l. let r = only gs l in record { told = lp.only r.0; holds = (s _).yes r.1 };
      all = λ w. all (lp.all w.told) ((s _).no w.holds);
    }
  where
    kept_only : {u g : ℕ} {gs hs : List ℕ} (b : Bool) → (test g ≡ b) → (Listed u hs → Listed u gs × (test u ≡ true))
        → Listed u (kept b g hs) → Listed u (g ∷ gs) × (test u ≡ true)
    kept_only true e f here = (here, e)
    kept_only true e f (there l) = let r = f l in (there r.0, r.1)
    kept_only false e f l = let r = f l in (there r.0, r.1)

    only : {u : ℕ} (gs : List ℕ) → Listed u (keep test gs) → Listed u gs × (test u ≡ true)
    only [] l = elim l [ ]
    only (g ∷ gs) l = kept_only (test g) refl (only gs) l

    kept_here : (g : ℕ) (hs : List ℕ) (b : Bool) → b ≡ true → Listed g (kept b g hs)
    kept_here g hs true e = here
    kept_here g hs false e = absurd (both_ways false refl e)

    kept_there : {u : ℕ} (g : ℕ) (hs : List ℕ) (b : Bool) → Listed u hs → Listed u (kept b g hs)
    kept_there g hs true l = there l
    kept_there g hs false l = l

    all : {u : ℕ} {gs : List ℕ} → Listed u gs → test u ≡ true → Listed u (keep test gs)
    all (here {gs = hs}) e = kept_here _ (keep test hs) (test _) e
    all (there {h = h} {gs = hs} l) e = kept_there h (keep test hs) (test h) (all l e)
