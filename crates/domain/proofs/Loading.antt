-- The loop that puts the groups of a list into a table.
use Rattle.std.proofs.Common.{◌≡◌, ℕ, ◌+◌, ◌/◌, ◌^◌, ◌<◌, ◌≤◌, true, ◌≢◌, ◌⊎◌, List, length, get_or, Contains, Decides, sym, ◌∙◌, subst, inl, inr, arith}
use Rattle.std.proofs.lemmas.Bool.{cases_eq, cases_lt}
use Rattle.std.proofs.lemmas.List.Elements.{Contains-get_or, at_from_Contains}
use Rattle.domain.specs.Requests.{bytes_for}
use Rattle.domain.specs.Tables.{holds_bit, TableGroup}
use Rattle.domain.specs.declared.limits.TheConstants.{MOST_POSITIONS}
use Rattle.domain.proofs.Laws.{group_of, of_group}
use Rattle.domain.proofs.Tables.{room_for}

-- the table t has the groups of s, and the first i of the list
pub record Loaded (gs s t : List ℕ) (i : ℕ) : Type 0 where
  pub put : (j : ℕ) → j < i → get_or gs j 0 / 8 < length s → holds_bit t (get_or gs j 0) ≡ true
  pub grown : (g : ℕ) → holds_bit s g ≡ true → holds_bit t g ≡ true
  pub only : (g : ℕ) → holds_bit t g ≡ true → (holds_bit s g ≡ true) ⊎ Contains gs g

module _ (gs s t u : List ℕ) (i : ℕ) (long : length t ≡ length s) (inside : i < length gs) (before : Loaded gs s t i)
    (at : get_or gs i 0 / 8 < length t → holds_bit u (get_or gs i 0) ≡ true)
    (others : (h : ℕ) → h ≢ get_or gs i 0 → holds_bit u h ≡ holds_bit t h)
    (past : length t ≤ get_or gs i 0 / 8 → u ≡ t) where
  grows : (g : ℕ) → holds_bit t g ≡ true → holds_bit u g ≡ true
  grows g e = go (cases_eq g (get_or gs i 0)) (cases_lt (get_or gs i 0 / 8) (length t))
    where
      go : (g ≡ get_or gs i 0) ⊎ (g ≡ get_or gs i 0 → ⊥) → (get_or gs i 0 / 8 < length t) ⊎ (length t ≤ get_or gs i 0 / 8) → holds_bit u g ≡ true
      go (inl q) (inl h) = rw q (at h)
      go (inl q) (inr h) = rw (past h) e
      go (inr ne) h = others g ne ∙ e

  pub loaded_more : Loaded gs s u (i + 1)
  loaded_more =
      record {
        put = λ j h k. put j h k (cases_eq j i);
        grown = λ g e. grows g (before.grown g e);
        only = λ g e. only g e (cases_eq g (get_or gs i 0));
      }
    where
      put : (j : ℕ) → j < i + 1 → get_or gs j 0 / 8 < length s → (j ≡ i) ⊎ (j ≡ i → ⊥) → holds_bit u (get_or gs j 0) ≡ true
      put j h k (inl e) = rw e (at (rw (long, ← e) k))
      put j h k (inr ne) = grows (get_or gs j 0) (before.put j (omega (arith, ne)) k)

      only : (g : ℕ) → holds_bit u g ≡ true → (g ≡ get_or gs i 0) ⊎ (g ≡ get_or gs i 0 → ⊥) → (holds_bit s g ≡ true) ⊎ Contains gs g
      only g e (inl q) = inr (rw q (Contains-get_or gs i 0 inside))
      only g e (inr ne) = before.only g (sym (others g ne) ∙ e)

pub loaded_put : (gs s t : List ℕ) (i : ℕ) → length gs ≤ i → Loaded gs s t i → (g : ℕ) → g / 8 < length s → Contains gs g → holds_bit t g ≡ true
loaded_put gs s t i all loaded g h l =
    let r = at_from_Contains gs g l in
    subst (λ k. holds_bit t k ≡ true) (r.2 0) (loaded.put r.0 (omega (arith, r.1)) (rw (r.2 0) h))

-- a table loaded with masks in range tells the groups of the list
pub loaded_told :
    (n : ℕ) (t gs : List ℕ) → n ≤ MOST_POSITIONS → bytes_for n ≤ length t
    → ((g : ℕ) → g / 8 < length t → Decides (holds_bit t g) (Contains gs g))
    → ((g : ℕ) → Contains gs g → (0 < g) × (g < 2 ^ n))
    → (g : ℕ) → (TableGroup n t g → Contains gs g) × (Contains gs g → TableGroup n t g)
loaded_told n t gs few room bits range g = (
  λ k.
      let r = of_group n t g k in
      (bits g (room_for n g (length t) few r.1 room)).0 r.2,
  λ l.
      let r = range g l in
      group_of n t g r.0 r.1
      ((bits g (room_for n g (length t) few r.1 room)).1 l),
)
