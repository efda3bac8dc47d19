-- The groups of a join, on the sheet and in the list that they are copied into.
use Rattle.std.proofs.Common.{◌≡◌, ℕ, zero, suc, ◌+◌, ◌*◌, ◌<◌, List, [], ◌∷◌, ◌++◌, length, take, set, sym, refl, ap, ◌∙◌, add-one, arith, take-suc-set}
use Rattle.reader.specs.Records.{pair_at, groups_at}

-- one group more
groups_more : (bytes : List ℕ) (start k : ℕ) → groups_at bytes start (suc k) ≡ groups_at bytes start k ++ (pair_at bytes (start + 2 * k) ∷ [])
groups_more bytes start zero = let same : start + 2 * zero ≡ start = omega arith in rw same refl
groups_more bytes start (suc k) =
    let same : start + 2 + 2 * k ≡ start + 2 * suc k = omega arith in
    ap (λ (l : List ℕ). pair_at bytes start ∷ l) (groups_more bytes (start + 2) k ∙ rw same refl)

-- one group more is copied
pub copied_more : (bytes groups : List ℕ) (start k : ℕ) → k < length groups → take k groups ≡ groups_at bytes start k
    → take (k + 1) (set groups k (pair_at bytes (start + 2 * k))) ≡ groups_at bytes start (k + 1)
copied_more bytes groups start k h e =
    rw (add-one k)
    (take-suc-set groups k (pair_at bytes (start + 2 * k)) h
    ∙ ap (λ (l : List ℕ). l ++ (pair_at bytes (start + 2 * k) ∷ [])) e
    ∙ sym (groups_more bytes start k))
