-- The subsets of a mask, in the order in which they are walked.
use Rattle.std.specs.Prelude.{ℕ, zero, suc, List, [], ◌∷◌, filter}
use Rattle.domain.specs.Masks.{is_within}

-- the masks from s downwards, without 0
unfoldable pub down_from : ℕ → List ℕ
down_from zero = []
down_from (suc s) = suc s ∷ down_from s

-- those of them that are subsets of the mask u
unfoldable pub subsets_from : ℕ → ℕ → List ℕ
subsets_from u s = filter (λ g. is_within g u) (down_from s)
