-- A set of groups has one core list, and alike descriptions have the same.
use Rattle.std.proofs.Common.{◌≡◌, ℕ, ◌<◌, List, [], ◌∷◌, sym, refl, ap, ◌∙◌, inl, inr, arith}
use Rattle.domain.specs.Coverage.{Core, CoreList}
use Rattle.domain.proofs.Lists.{Listed, here, there, contains, listed, listed_cases, Above, next, above_listed, core_above}

-- the heads of two ascending lists with the same entries
one_head : (g h : ℕ) (gs hs : List ℕ) → Above g gs → Above h hs → Listed g (h ∷ hs) → Listed h (g ∷ gs) → g ≡ h
one_head g h gs hs a b l m =
    elim (listed_cases l) [
      | inl e ↦ e
      | inr l' ↦ elim (listed_cases m) [
        | inl e ↦ sym e
        | inr m' ↦ let i : h < g = above_listed b l' in let j : g < h = above_listed a m' in absurd (omega arith)
      ]
    ]

-- an entry behind the head of the one stands behind the equal head of the other
behind : {g h k : ℕ} {gs hs : List ℕ} → g ≡ h → Above g gs → Listed k gs → Listed k (h ∷ hs) → Listed k hs
behind {g} {h} {k} e a l m =
    elim (listed_cases m) [
      | inl same ↦ let i : g < k = above_listed a l in absurd (omega arith)
      | inr m' ↦ m'
    ]

-- two ascending lists with the same entries are one
pub one_list : (last last' : ℕ) (gs hs : List ℕ) → Above last gs → Above last' hs
    → ((g : ℕ) → Listed g gs → Listed g hs) → ((g : ℕ) → Listed g hs → Listed g gs) → gs ≡ hs
one_list last last' [] [] a b to from = refl
one_list last last' [] (h ∷ hs) a b to from = elim (from h here) [ ]
one_list last last' (g ∷ gs) [] a b to from = elim (to g here) [ ]
one_list last last' (g ∷ gs) (h ∷ hs) (next p a) (next q b) to from =
    let same : g ≡ h = one_head g h gs hs a b (to g here) (from h here) in
    let rest : gs ≡ hs = one_list g h gs hs a b (λ k l. behind same a l (to k (there l))) (λ k l. behind (sym same) b l (from k (there l))) in
    ap (λ (x : ℕ). x ∷ gs) same ∙ ap (λ (l : List ℕ). h ∷ l) rest

-- the core lists of alike descriptions are one
pub one_core : {G H : ℕ → Type 0} (gs hs : List ℕ) → ((g : ℕ) → Core G g → Core H g) → ((g : ℕ) → Core H g → Core G g)
    → CoreList G gs → CoreList H hs → gs ≡ hs
one_core gs hs to from c k =
    one_list 0 0 gs hs (core_above c) (core_above k) (λ g l. listed hs g (k.all g (to g (c.only g (contains l)))))
    (λ g l. listed gs g (c.all g (from g (k.only g (contains l)))))
