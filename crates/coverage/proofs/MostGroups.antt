-- No description has more groups than there are masks.
use Rattle.std.proofs.Common.{◌≡◌, ℕ, zero, suc, ◌^◌, ◌<◌, ◌≤◌, List, [], ◌∷◌, length, refl, ap, subst, lt_of_not-le, arith, pow_mono}
use native.Mathlib.Decide.{dec_le}
use Rattle.domain.proofs.Lists.{Listed, here, there, contains}
use Rattle.domain.specs.Coverage.{CoreFits, CoreList}
use Rattle.domain.specs.Told.{Told, Group, Lawful}
use Rattle.coverage.proofs.Counting.{fits_count, list_counted}
use Rattle.domain.specs.declared.limits.TheConstants.{MOST_POSITIONS, MOST_GROUPS}

-- the masks from k down to 1
down : ℕ → List ℕ
down zero = []
down (suc k) = suc k ∷ down k

down_length : (k : ℕ) → length (down k) ≡ k
unfolding down
down_length zero = refl
down_length (suc k) = ap suc (down_length k)

down_lists : (k g : ℕ) → 0 < g → g ≤ k → Listed g (down k)
unfolding down
down_lists zero g pos small = absurd (omega arith)
down_lists (suc k) g pos small = go (dec_le g k) (down_lists k g pos)
  where
    go : Dec (g ≤ k) → (g ≤ k → Listed g (down k)) → Listed g (suc k ∷ down k)
    go (yes below) rest = there (rest below)
    go (no above) rest =
        let over : k < g = lt_of_not-le above in
        let same : g ≡ suc k = omega arith in subst (λ (x : ℕ). Listed g (x ∷ down k)) same here

pub most_fit : (e : Told) → Lawful e → CoreFits (Group e) MOST_GROUPS
most_fit e law =
    record {
      groups = down MOST_GROUPS;
      short = let long = down_length MOST_GROUPS in omega arith;
      holds = λ g core.
          let range = law.in_range g core.told in
          let few : e.n ≤ MOST_POSITIONS = law.few_positions in
          let high : 2 ^ e.n ≤ 2 ^ MOST_POSITIONS = pow_mono few in
          let below : g < 2 ^ e.n = range.1 in
          contains (down_lists MOST_GROUPS g range.0 (omega arith));
    }

pub most_listed : (e : Told) → Lawful e → (gs : List ℕ) → CoreList (Group e) gs → length gs ≤ MOST_GROUPS
most_listed e law gs c = fits_count (list_counted c) (most_fit e law)
