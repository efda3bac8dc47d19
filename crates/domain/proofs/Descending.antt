-- The list of the subsets of a mask: its first entry, and what stands in it.
use Rattle.std.proofs.Common.{◌≡◌, ℕ, zero, suc, ◌-◌, ◌<◌, ◌≤◌, Bool, true, false, cond, ◌⊎◌, List, [], ◌∷◌, length, get_or, Contains, filter, Option, sym, refl, ap, ◌∙◌, subst, Decides, inl, inr, arith}
use lib.Bits.{bit_and}
use Rattle.std.specs.Bool.{MatchBool}
use denote.Param.Members.{Mut}
use Rattle.std.specs.Fn.{Called}
use Rattle.std.specs.Iterator.{YieldsFirst, YieldsThen}
use Rattle.std.specs.List.{AllWithin, FoldsTo, HoldsAt}
use Rattle.std.specs.Option.{MatchOption}
use Rattle.std.proofs.lemmas.Iterator.{cases_from_any}
use Rattle.std.proofs.lemmas.Iterator.Consumers.{YieldsList-from_first}
use Rattle.std.proofs.lemmas.List.Elements.{Contains-get_or, at_from_Contains}
use Rattle.std.proofs.lemmas.Bool.{cases_eq, cases_Bool, eq-eqb, eqb-true, false≢true}
use Rattle.domain.proofs.Lists.{Listed, contains, listed}
use Rattle.domain.proofs.Lists.Listed.{here, there}
use Rattle.domain.specs.Masks.{Within, is_within}
use Rattle.domain.specs.Subsets.{down_from, subsets_from}
use Rattle.domain.proofs.Bits.{and_within, within_and, within_le, in_first}
use Rattle.domain.proofs.Walk.{next_subset}

-- the masks in between that fail the test are passed over
skipped : (p : ℕ → Bool) (k m : ℕ) → m ≤ k → ((t : ℕ) → m < t → t ≤ k → p t ≡ false) → filter p (down_from k) ≡ filter p (down_from m)
unfolding down_from
skipped p zero m h out = let e : m ≡ zero = omega arith in rw e
skipped p (suc k) m h out = go (cases_eq m (suc k)) (λ h out. skipped p k m h out)
  where
    go : (m ≡ suc k) ⊎ (m ≡ suc k → ⊥)
        → (m ≤ k → ((t : ℕ) → m < t → t ≤ k → p t ≡ false) → filter p (down_from k) ≡ filter p (down_from m))
        → filter p (down_from (suc k)) ≡ filter p (down_from m)
    go (inl e) before = rw e
    go (inr ne) before = rw (out (suc k) (omega (arith, ne)) (omega arith)) (before (omega (arith, ne)) (λ t l g. out t l (omega arith)))

pub subsets_end : (u : ℕ) → subsets_from u 0 ≡ []
unfolding subsets_from down_from
subsets_end u = refl

pub subsets_next : (u s : ℕ) → Within s u → 0 < s → subsets_from u s ≡ s ∷ subsets_from u (bit_and (s - 1) u)
unfolding subsets_from down_from
subsets_next u zero w some = absurd (omega arith)
subsets_next u (suc k) w some =
    let same : suc k - 1 ≡ k = omega arith in
    rw (same, eq-eqb (bit_and (suc k) u) (suc k) (within_and w))
    (ap (λ (rest : List ℕ). suc k ∷ rest)
    (skipped (λ g. is_within g u) k (bit_and k u) (within_le (record { each = λ p i. in_first k u i })) between))
  where
    between : (t : ℕ) → bit_and k u < t → t ≤ k → is_within t u ≡ false
    between t l h = go (cases_Bool (is_within t u))
      where
        go : (is_within t u ≡ true) ⊎ (is_within t u ≡ false) → is_within t u ≡ false
        go (inr e) = e
        go (inl e) =
            absurd
            (let n : t ≤ bit_and (suc k - 1) u = next_subset w (and_within t u (eqb-true (bit_and t u) t e)) (omega arith) in
            let same : suc k - 1 ≡ k = omega arith in
            omega (arith, rw same at n))

-- what stands in the list

pub listed_subset : {g : ℕ} (u s : ℕ) → Listed g (subsets_from u s) → (0 < g) × Within g u
unfolding subsets_from down_from
listed_subset {g} u zero l = elim l [ ]
listed_subset {g} u (suc k) l = go (is_within (suc k) u) refl l (λ m. listed_subset u k m)
  where
    go : {g : ℕ} (b : Bool) → is_within (suc k) u ≡ b → Listed g (cond b (suc k ∷ subsets_from u k) (subsets_from u k))
        → (Listed g (subsets_from u k) → (0 < g) × Within g u) → (0 < g) × Within g u
    go true e here rest = (omega arith, and_within (suc k) u (eqb-true (bit_and (suc k) u) (suc k) e))
    go true e (there m) rest = rest m
    go false e m rest = rest m

pub subset_listed : {g : ℕ} (u s : ℕ) → 0 < g → g ≤ s → Within g u → Listed g (subsets_from u s)
unfolding subsets_from down_from
subset_listed {g} u zero some h w = absurd (omega arith)
subset_listed {g} u (suc k) some h w = go (cases_eq g (suc k)) (is_within (suc k) u) refl (λ h. subset_listed u k some h w)
  where
    go : (g ≡ suc k) ⊎ (g ≡ suc k → ⊥) → (b : Bool) → is_within (suc k) u ≡ b → (g ≤ k → Listed g (subsets_from u k))
        → Listed g (cond b (suc k ∷ subsets_from u k) (subsets_from u k))
    go (inl e) true q rest = subst (λ m. Listed m (suc k ∷ subsets_from u k)) (sym e) here
    go (inl e) false q rest = absurd (false≢true (sym q ∙ eq-eqb (bit_and (suc k) u) (suc k) (within_and (subst (λ m. Within m u) e w))))
    go (inr ne) true q rest = there (rest (omega (arith, ne)))
    go (inr ne) false q rest = rest (omega (arith, ne))

-- what `any` says of a list
pub any_listed :
    {Yes No : ℕ → Type 0} (xs : List ℕ) (r : Bool)
    → MatchBool r ((k : ℕ) × (k < length xs) × HoldsAt Yes xs k) (AllWithin No xs 0 (length xs))
    → (r ≡ true → (g : ℕ) × Contains xs g × Yes g) × (r ≡ false → (g : ℕ) → Contains xs g → No g)
any_listed {Yes} {No} xs true m =
    (λ e. (get_or xs m.0 0, Contains-get_or xs m.0 0 m.1, m.2 0), λ e. absurd (false≢true (sym e)))
any_listed {Yes} {No} xs false m = (
  λ e. absurd (false≢true e),
  λ e g l. let i = at_from_Contains xs g l in subst No (i.2 0) (m i.0 0 (omega arith) i.1),
)

-- some subset of u that is not empty has Q
pub record SomeSubset (Q : ℕ → Type 0) (u : ℕ) : Type 0 where
  pub part : ℕ
  pub some : 0 < part
  pub inside : Within part u
  pub holds : Q part

pub decides_some :
    {Q : ℕ → Type 0} (u : ℕ) (r : Bool)
    → MatchBool r ((k : ℕ) × (k < length (subsets_from u u)) × HoldsAt Q (subsets_from u u) k)
    (AllWithin (λ s. Q s → ⊥) (subsets_from u u) 0 (length (subsets_from u u)))
    → Decides r (SomeSubset Q u)
decides_some {Q} u r m =
    let a = any_listed {Yes = Q} {No = λ s. Q s → ⊥} (subsets_from u u) r m in (
      λ e. let f = a.0 e in let s = listed_subset u u (listed (subsets_from u u) f.0 f.1) in record { part = f.0; some = s.0; inside = s.1; holds = f.2 },
      λ f. go r a.1 f,
    )
  where
    go : (r : Bool) → (r ≡ false → (g : ℕ) → Contains (subsets_from u u) g → Q g → ⊥) → SomeSubset Q u → r ≡ true
    go true none f = refl
    go false none f = absurd (none refl f.part (contains (subset_listed u u f.some (within_le f.inside) f.inside)) f.holds)

-- what `any` answers over the subsets of u, by a test that decides Q
pub any_decides :
    {F : Type 0} {g : Mut F (ℕ × Unit {0}) Bool} {Q : ℕ → Type 0} (u : ℕ) {s left : List ℕ} {f : F} {r : Bool}
    → (xs : List ℕ) × (o : Option ℕ) × (j : F) × YieldsThen (YieldsFirst (λ l. l)) s xs o left × FoldsTo (λ p x q. Called g p (x, tt) false q) f xs j × MatchOption o (r ≡ false) (λ x. (r ≡ true) × ((h : F) × Called g j (x, tt) true h))
    → s ≡ subsets_from u u
    → ((x : ℕ) (q : F) → Called g f (x, tt) true q → Q x)
    → ((x : ℕ) (q : F) → Called g f (x, tt) false q → (q ≡ f) × (Q x → ⊥))
    → Decides r (SomeSubset Q u)
any_decides {Q = Q} u ran of found not_found =
    decides_some u _
    (cases_from_any _ _ _ Q (λ x. Q x → ⊥) ran (YieldsList-from_first (λ x. x) (λ l. l) (subsets_from u u) of) found not_found)

-- what stands in a list and passes a test
pub listed_filter : {g : ℕ} (p : ℕ → Bool) (xs : List ℕ) → Listed g (filter p xs) → Listed g xs × (p g ≡ true)
listed_filter p [] l = elim l [ ]
listed_filter p (x ∷ xs) l = go (p x) refl l (λ m. listed_filter p xs m)
  where
    go : {g : ℕ} (b : Bool) → p x ≡ b → Listed g (cond b (x ∷ filter p xs) (filter p xs))
        → (Listed g (filter p xs) → Listed g xs × (p g ≡ true)) → Listed g (x ∷ xs) × (p g ≡ true)
    go true e here rest = (here, e)
    go true e (there m) rest = let r = rest m in (there r.0, r.1)
    go false e m rest = let r = rest m in (there r.0, r.1)

pub filter_listed : {g : ℕ} (p : ℕ → Bool) (xs : List ℕ) → Listed g xs → p g ≡ true → Listed g (filter p xs)
filter_listed p [] l e = elim l [ ]
filter_listed p (x ∷ xs) here e = rw e here
filter_listed p (x ∷ xs) (there l) e = go (p x) (filter_listed p xs l e)
  where
    go : {g : ℕ} (b : Bool) → Listed g (filter p xs) → Listed g (cond b (x ∷ filter p xs) (filter p xs))
    go true m = there m
    go false m = m
