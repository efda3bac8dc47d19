-- The table of single positions, and the description that it makes.
use Rattle.std.proofs.Common.{◌≡◌, ℕ, ◌+◌, ◌-◌, ◌/◌, ◌%◌, ◌^◌, ◌<◌, ◌≤◌, true, false, ◌≢◌, ◌⊎◌, List, replicate, Decides, sym, refl, ◌∙◌, inl, inr, arith, pow_pos}
use native.Mathlib.Nat.{div-eq_of_lt}
use lib.ListN.{get_or-replicate, length-replicate}
use lib.Pow.{pow-lt}
use Rattle.std.proofs.lemmas.Bool.{cases_eq, cases_lt, ne_eqb, false≢true}
use Rattle.domain.specs.Opening.{New, Single}
use Rattle.domain.specs.Tables.{holds_bit, told_of}
use Rattle.domain.specs.Told.{Told, Lawful}
use Rattle.domain.specs.declared.limits.TheConstants.{MOST_POSITIONS}
use Rattle.domain.proofs.Bits.{in_all, all_in, in_single, below_lt}
use Rattle.domain.proofs.Laws.{group_of, of_group}
use Rattle.domain.proofs.Tables.{past_bit}

-- a table of zeros holds nothing
zero_bit : (k g : ℕ) → g / 8 < k → holds_bit (replicate k 0) g ≡ false
unfolding holds_bit
zero_bit k g h =
    rw (get_or-replicate {A = ℕ} k (g / 8) 0 0 h) (ne_eqb _ 1 (omega (arith, div-eq_of_lt {n = 0} (pow_pos (g % 8)))))

pub no_bits : (k g : ℕ) → holds_bit (replicate k 0) g ≡ false
no_bits k g = go (cases_lt (g / 8) k)
  where
    go : (g / 8 < k) ⊎ (k ≤ g / 8) → holds_bit (replicate k 0) g ≡ false
    go (inl h) = zero_bit k g h
    go (inr h) = past_bit (replicate k 0) g (omega (arith, length-replicate {A = ℕ} k 0, h))

-- t holds the single positions below k, and nothing else
abbrev pub Singles : List ℕ → ℕ → Type 0
Singles t k = (g : ℕ) → Decides (holds_bit t g) (Single k g)

pub singles_none : (t : List ℕ) → ((g : ℕ) → holds_bit t g ≡ false) → Singles t 0
singles_none t empty g = (λ e. absurd (false≢true (sym (empty g) ∙ e)), λ s. absurd (omega (arith, s.position)))

pub singles_more : (t u : List ℕ) (k m : ℕ) → m ≡ 2 ^ k → Singles t k → holds_bit u m ≡ true → ((h : ℕ) → h ≢ m → holds_bit u h ≡ holds_bit t h) → Singles u (k + 1)
singles_more t u k m single before here others g = go (cases_eq g m)
  where
    go : (g ≡ m) ⊎ (g ≡ m → ⊥) → Decides (holds_bit u g) (Single (k + 1) g)
    go (inl e) = (λ b. record { place = k; position = omega arith; only = e ∙ single }, λ s. rw e here)
    go (inr ne) = (
      λ b. let s = (before g).0 (sym (others g ne) ∙ b) in
          record { place = s.place; position = omega (arith, s.position); only = s.only },
      λ s. others g ne ∙ (before g).1 (record { place = s.place; position = lower s (cases_eq s.place k); only = s.only }),
    )
      where
        lower : (s : Single (k + 1) g) → (s.place ≡ k) ⊎ (s.place ≡ k → ⊥) → s.place < k
        lower s (inl e) = absurd (ne (s.only ∙ rw e (sym single)))
        lower s (inr n) = omega (arith, n, s.position)

pub single_range : (n : ℕ) {g : ℕ} → Single n g → (0 < g) × (g < 2 ^ n)
single_range n {g} s =
    (omega (arith, s.only, pow_pos s.place), omega (arith, s.only, pow-lt s.position))

pub new_of_lem : (n : ℕ) (t : List ℕ) → Singles t n → (m : ℕ) → m ≡ 2 ^ n - 1 → New n (told_of n t (record { free = m; linear = m }))
new_of_lem n t singles m whole =
    rw whole
    (record {
      positions = refl;
      groups_made = λ g s. group_of n t g (single_range n s).0 (single_range n s).1 ((singles g).1 s);
      groups_only = λ g m. (singles g).0 (of_group n t g m).2;
      free_made = λ p h. in_all p n h;
      free_only = λ p i. all_in p n i;
      linear_made = λ p h. in_all p n h;
      linear_only = λ p i. all_in p n i;
    })

-- a new description keeps the rules
pub new_lawful : {n : ℕ} {e : Told} → 0 < n → n ≤ MOST_POSITIONS → New n e → Lawful e
new_lawful {n} {e} some few new =
    record {
      some_positions = omega (arith, same);
      few_positions = rw same few;
      in_range = λ g m. rw same (single_range n (new.groups_only g m));
      marks = record {
        linear_in_range = rw same (below_lt e.marks.linear n new.linear_only);
        free_is_linear = λ p i. new.linear_made p (new.free_only p i);
        ground_is_linear = λ p g. new.linear_made p (omega (arith, same, g.position));
        free_is_not_ground = λ p i g.
            g.none (2 ^ p) (new.groups_made (2 ^ p) (record { place = p; position = new.free_only p i; only = refl })) (in_single p);
      };
    }
  where
    same : e.n ≡ n
    same = new.positions
