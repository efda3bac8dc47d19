-- Lists that are written from the start: the entries behind what is written stay.
use Rattle.std.proofs.Common.{◌≡◌, ℕ, suc, ◌+◌, ◌<◌, List, [], ◌∷◌, ◌++◌, length, drop, set, sym, ap, ◌∙◌, append_assoc, add-one, drop-cons}
use lib.Seq.{set_at}

-- one entry more behind those written so far
pub written_more : {A : Type 0} (written list : List A) (k : ℕ) (m : A) → length written ≡ k → k < length list
    → set (written ++ drop k list) k m ≡ (written ++ m ∷ []) ++ drop (k + 1) list
written_more written list k m e h =
    rw (drop-cons list k m h)
    (set_at written _ (drop (suc k) list) m k e
    ∙ sym (append_assoc written (m ∷ []) (drop (k + 1) list) ∙ ap (λ (n : ℕ). written ++ m ∷ drop n list) (add-one k)))
