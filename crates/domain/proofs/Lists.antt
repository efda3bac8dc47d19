-- Lists of groups by cases: what stands in one, and that it ascends.
use Rattle.std.proofs.Common.{◌≡◌, ℕ, zero, suc, ◌+◌, ◌<◌, ◌⊎◌, List, [], ◌∷◌, length, get_or, Contains, sym, refl, subst, inl, inr, arith}
use Rattle.std.specs.List.Sorted.{IsStrictlyIncreasing}
use Rattle.std.proofs.lemmas.List.Elements.{Contains-get_or}
use Rattle.domain.specs.Coverage.{Core, CoreList}
use Rattle.domain.proofs.Bits.{in_pos}

-- g stands in a list
pub data Listed (g : ℕ) : List ℕ → Type 0 where
  here : {gs : List ℕ} → Listed g (g ∷ gs)
  there : {h : ℕ} {gs : List ℕ} → Listed g gs → Listed g (h ∷ gs)

pub contains : {g : ℕ} {gs : List ℕ} → Listed g gs → Contains gs g
contains here = (0, omega arith, refl)
contains (there l) = let c = contains l in (suc c.0, omega (arith, c.1), c.2)

listed_at : {g : ℕ} (gs : List ℕ) (k : ℕ) → k < length gs → get_or gs k g ≡ g → Listed g gs
listed_at [] k h e = absurd (omega arith)
listed_at {g} (h ∷ gs) zero l e = subst (λ m. Listed g (m ∷ gs)) (sym e) here
listed_at (h ∷ gs) (suc k) l e = there (listed_at gs k (omega arith) e)

pub listed : (gs : List ℕ) (g : ℕ) → Contains gs g → Listed g gs
listed gs g c = listed_at gs c.0 c.1 c.2

pub listed_cases : {g h : ℕ} {gs : List ℕ} → Listed g (h ∷ gs) → (g ≡ h) ⊎ Listed g gs
listed_cases here = inl refl
listed_cases (there l) = inr l

-- each entry is above `last` and above those before it
pub data Above : ℕ → List ℕ → Type 0 where
  none : {last : ℕ} → Above last []
  next : {last g : ℕ} {gs : List ℕ} → last < g → Above g gs → Above last (g ∷ gs)

pub above_listed : {last g : ℕ} {gs : List ℕ} → Above last gs → Listed g gs → last < g
above_listed none l = elim l [ ]
above_listed (next l a) here = l
above_listed (next l a) (there m) = omega (arith, l, above_listed a m)

pub above_increasing : {last : ℕ} {gs : List ℕ} → Above last gs → IsStrictlyIncreasing gs
above_increasing none k h = absurd (omega arith)
above_increasing (next l none) k h = absurd (omega arith)
above_increasing (next l (next m a)) zero h = m
above_increasing (next {g = g} {gs = gs} l (next m a)) (suc k) h =
    let later : suc (k + 1) ≡ suc k + 1 = omega arith in
    subst (λ j. get_or (g ∷ gs) (suc k) 0 < get_or (g ∷ gs) j 0) later (above_increasing (next m a) k (omega arith))

pub increasing_above : (last : ℕ) (gs : List ℕ) → (0 < length gs → last < get_or gs 0 0) → IsStrictlyIncreasing gs → Above last gs
increasing_above last [] low up = none
increasing_above last (g ∷ gs) low up =
    next (low (omega arith)) (increasing_above g gs (λ some. up 0 (omega arith)) up_rest)
  where
    up_rest : IsStrictlyIncreasing gs
    up_rest k h =
        let later : suc k + 1 ≡ suc (k + 1) = omega arith in
        subst (λ j. get_or gs k 0 < get_or (g ∷ gs) j 0) later (up (suc k) (omega arith))

-- the core as a list

pub listed_core : {G : ℕ → Type 0} {gs : List ℕ} → ((g : ℕ) → Listed g gs → Core G g) → ((g : ℕ) → Core G g → Listed g gs) → Above 0 gs → CoreList G gs
listed_core {gs = gs} only all above =
    record { only = λ g c. only g (listed gs g c); all = λ g c. contains (all g c); ascending = above_increasing above }

pub core_above : {G : ℕ → Type 0} {gs : List ℕ} → CoreList G gs → Above 0 gs
core_above {gs = gs} c =
    increasing_above 0 gs (λ some. in_pos (c.only (get_or gs 0 0) (Contains-get_or gs 0 0 some)).left) c.ascending
