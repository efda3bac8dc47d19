-- Lists of entries with keys: which hold a key, how many entries have it, and where one more goes.
use Rattle.std.specs.Prelude.{◌≡◌, ℕ, suc, ◌+◌, ◌<◌, if◌then◌else◌, List, [], ◌∷◌, length, take, drop, Ok, Err, Result, ◌≢◌, nat_lt, slice_set}
use Rattle.std.specs.List.{AllByRecursion}
use Rattle.roll.specs.declared.not_added.NotAdded.{NotAdded}
use Rattle.roll.specs.declared.not_added.NotAdded.TheVariants.{Held, Full}

-- some entry has the key
pub data Holds {X K : Type 0} (key : X → K) (k : K) : List X → Type 0 where
  here : {x : X} {xs : List X} → key x ≡ k → Holds key k (x ∷ xs)
  there : {x : X} {xs : List X} → Holds key k xs → Holds key k (x ∷ xs)

-- so many entries have the key
pub data Counts {X K : Type 0} (key : X → K) (k : K) : List X → ℕ → Type 0 where
  none : Counts key k [] 0
  one_more : {x : X} {xs : List X} {n : ℕ} → key x ≡ k → Counts key k xs n → Counts key k (x ∷ xs) (suc n)
  as_many : {x : X} {xs : List X} {n : ℕ} → (key x ≢ k) → Counts key k xs n → Counts key k (x ∷ xs) n

-- the numbers that the entries stand for rise
abbrev pub IsAscendingBy : {X : Type 0} → (X → ℕ) → List X → Type 0
IsAscendingBy rank [] = Unit {0}
IsAscendingBy rank (x ∷ xs) = AllByRecursion (λ y. rank x < rank y) xs × IsAscendingBy rank xs

-- how many entries stand before the first with a larger rank
abbrev pub place : {X : Type 0} → (X → ℕ) → ℕ → List X → ℕ
place rank r [] = 0
place rank r (x ∷ xs) = (if nat_lt r (rank x) then 0 else 1 + place rank r xs)

-- the list with one more entry, before the first with a larger rank
abbrev pub insert : {X : Type 0} → (X → ℕ) → X → List X → List X
insert rank x [] = x ∷ []
insert rank x (y ∷ ys) = (if nat_lt (rank x) (rank y) then x ∷ (y ∷ ys) else y ∷ insert rank x ys)

-- the ranks of the keys rise
abbrev pub IsInOrder : {X K : Type 0} → (X → K) → (K → ℕ) → List X → Type 0
IsInOrder key rank xs = IsAscendingBy (λ e. rank (key e)) xs

-- An entry is added to a slice whose first `used` entries are in use: its key was not held and an
-- entry was left over; it stands in its place among those in use, and the spare ones behind are kept.
pub record Inserts {X K : Type 0} (key : X → K) (rank : K → ℕ) (entry : X) (used : ℕ) (before after : List X) : Type 0 where
  pub fresh : Holds key (key entry) (take used before) → ⊥
  pub room : used < length before
  pub listed : take (used + 1) after ≡ insert (λ e. rank (key e)) entry (take used before)
  pub spare : drop (used + 1) after ≡ drop (used + 1) before

-- What adding does, by its answer: where the key is held, or else no entry is left over, nothing
-- changes.
abbrev pub Adds : {X K : Type 0} → (X → K) → (K → ℕ) → X → ℕ → List X → List X → Result (Unit {0}) NotAdded → Type 0
Adds key rank entry used before after (Ok u) = Inserts key rank entry used before after
Adds key rank entry used before after (Err Held) =
    Holds key (key entry) (take used before) × (after ≡ before)
Adds key rank entry used before after (Err Full) =
    (Holds key (key entry) (take used before) → ⊥) × (used ≡ length before) × (after ≡ before)

-- An entry above all in use is written behind them where one is left over, and no other entry changes.
abbrev pub Appends : {X K : Type 0} → (X → K) → (K → ℕ) → X → ℕ → List X → List X → Result (Unit {0}) NotAdded → Type 0
Appends key rank entry used before after r =
    used < length before → AllByRecursion (λ e. rank (key e) < rank (key entry)) (take used before) →
    (r ≡ Ok tt) × (after ≡ slice_set before used entry)

-- how many entries are in use after adding
abbrev pub used_after : ℕ → Result (Unit {0}) NotAdded → ℕ
used_after used (Ok u) = used + 1
used_after used (Err Held) = used
used_after used (Err Full) = used
