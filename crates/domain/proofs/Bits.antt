-- Masks digit by digit: unions, common parts, single positions, and their order as numbers.
use Rattle.std.proofs.Common.{◌≡◌, ℕ, zero, suc, ◌+◌, ◌-◌, ◌/◌, ◌%◌, ◌^◌, ◌<◌, ◌≤◌, ◌≢◌, ◌⊎◌, refl, subst, inl, inr, one-mul, pow-suc, one-add, arith, pow_pos, pow_mono, pow-add, shr-shr}
use native.Mathlib.Nat.{div-eq_of_lt}
use lib.Arith.{bin_ind}
use lib.Bits.{bit_and, bit_or, bit_xor, and_shr, or_shr, xor_shr, and_step, or_step, xor_add_and}
use lib.Count.{ones, ones_step}
use lib.Pow.{pow-lt, shl-shr, ones_split, high}
use Rattle.std.proofs.lemmas.Bool.{cases_lt, cases_order}
use Rattle.domain.specs.Masks.{In, Within, Meets}

-- every digit is 0 or 1

pub in_or_not : (p m : ℕ) → In p m ⊎ (In p m → ⊥)
in_or_not p m = go (m / 2 ^ p % 2) refl
  where
    go : (d : ℕ) → m / 2 ^ p % 2 ≡ d → In p m ⊎ (In p m → ⊥)
    go zero e = inr (λ i. omega (arith, i.digit))
    go (suc zero) e = inl (record { digit = e })
    go (suc (suc d)) e = absurd (omega arith)

-- the empty mask holds nothing

pub none_in : {p : ℕ} → In p 0 → ⊥
none_in {p} i = omega (arith, i.digit, div-eq_of_lt {n = 0} (pow_pos p))

-- unions

pub in_left : {p a : ℕ} (b : ℕ) → In p a → In p (bit_or a b)
in_left {p} {a} b i =
    record { digit = omega (arith, i.digit, or_shr a b p, or_step (a / 2 ^ p) (b / 2 ^ p)) }

pub in_right : {p b : ℕ} (a : ℕ) → In p b → In p (bit_or a b)
in_right {p} {b} a i =
    record { digit = omega (arith, i.digit, or_shr a b p, or_step (a / 2 ^ p) (b / 2 ^ p)) }

pub in_either : {p : ℕ} (a b : ℕ) → In p (bit_or a b) → In p a ⊎ In p b
in_either {p} a b i = go (a / 2 ^ p % 2) refl
  where
    go : (d : ℕ) → a / 2 ^ p % 2 ≡ d → In p a ⊎ In p b
    go zero e =
        inr (record { digit = omega (arith, i.digit, or_shr a b p, or_step (a / 2 ^ p) (b / 2 ^ p)) })
    go (suc zero) e = inl (record { digit = e })
    go (suc (suc d)) e = absurd (omega arith)

-- common parts

pub in_both : {p a b : ℕ} → In p a → In p b → In p (bit_and a b)
in_both {p} {a} {b} i j =
    record { digit = omega (arith, i.digit, j.digit, and_shr a b p, and_step (a / 2 ^ p) (b / 2 ^ p)) }

pub in_first : {p : ℕ} (a b : ℕ) → In p (bit_and a b) → In p a
in_first {p} a b i =
    record { digit = omega (arith, i.digit, and_shr a b p, and_step (a / 2 ^ p) (b / 2 ^ p)) }

pub in_second : {p : ℕ} (a b : ℕ) → In p (bit_and a b) → In p b
in_second {p} a b i =
    record { digit = omega (arith, i.digit, and_shr a b p, and_step (a / 2 ^ p) (b / 2 ^ p)) }

-- what a mask has and another lacks

pub in_lacking : {p a b : ℕ} → In p a → (In p b → ⊥) → In p (bit_xor a (bit_and a b))
in_lacking {p} {a} {b} i out = go (in_or_not p (bit_and a b))
  where
    go : In p (bit_and a b) ⊎ (In p (bit_and a b) → ⊥) → In p (bit_xor a (bit_and a b))
    go (inl j) = absurd (out (in_second a b j))
    go (inr n) = record { digit = differs (bit_and a b) n }
      where
        differs : (c : ℕ) → (In p c → ⊥) → bit_xor a c / 2 ^ p % 2 ≡ 1
        differs c no_c =
            let q : c / 2 ^ p % 2 ≢ 1 = λ e. no_c (record { digit = e }) in
            omega (arith, i.digit, q, xor_shr a c p, xor_add_and (a / 2 ^ p) (c / 2 ^ p))

pub lacking_in : {p : ℕ} (a b : ℕ) → In p (bit_xor a (bit_and a b)) → In p a × (In p b → ⊥)
lacking_in {p} a b i = (go (in_or_not p a), λ j. both j (in_or_not p a))
  where
    digits : (c : ℕ) → bit_xor a c / 2 ^ p % 2 ≡ 1 → (a / 2 ^ p % 2 + c / 2 ^ p % 2) % 2 ≡ 1
    digits c e = omega (arith, e, xor_shr a c p, xor_add_and (a / 2 ^ p) (c / 2 ^ p))

    go : In p a ⊎ (In p a → ⊥) → In p a
    go (inl j) = j
    go (inr n) =
        let q : a / 2 ^ p % 2 ≢ 1 = λ e. n (record { digit = e }) in
        in_first a b (record { digit = omega (arith, q, digits (bit_and a b) i.digit) })

    both : In p b → In p a ⊎ (In p a → ⊥) → ⊥
    both j (inl k) = omega (arith, digits (bit_and a b) i.digit, k.digit, (in_both k j).digit)
    both j (inr n) = n (go (inr n))

-- the digits of a half

pub in_half : {p m : ℕ} → In (suc p) m → In p (m / 2)
in_half {p} {m} i = record { digit = rw (shr-shr m 1 p, one-add p) i.digit }

pub half_in : {p m : ℕ} → In p (m / 2) → In (suc p) m
half_in {p} {m} i = record { digit = rw (shr-shr m 1 p, one-add p) at i.digit }

pub lowest_in : {m : ℕ} → m % 2 ≡ 1 → In 0 m
lowest_in {m} e = record { digit = omega (arith, e) }

pub in_lowest : {m : ℕ} → In 0 m → m % 2 ≡ 1
in_lowest {m} i = omega (arith, i.digit)

pub within_half : {a b : ℕ} → Within a b → Within (a / 2) (b / 2)
within_half w = record { each = λ p i. in_half (w.each (suc p) (half_in i)) }

-- a subset is never a larger number

pub within_lowest : {a b : ℕ} → Within a b → a % 2 ≤ b % 2
within_lowest {a} {b} w = go (a % 2) refl
  where
    go : (d : ℕ) → a % 2 ≡ d → a % 2 ≤ b % 2
    go zero e = omega arith
    go (suc zero) e = omega (arith, in_lowest (w.each 0 (lowest_in e)))
    go (suc (suc d)) e = absurd (omega arith)

pub within_le : {a b : ℕ} → Within a b → a ≤ b
within_le {a} {b} w =
    bin_ind (λ a. (b : ℕ) → Within a b → a ≤ b) (λ b w. omega arith)
    (λ a ih b w. omega (arith, ih (b / 2) (within_half w), within_lowest w)) a b w

-- masks with the same positions are one mask

pub same_mask : {a b : ℕ} → Within a b → Within b a → a ≡ b
same_mask v w = omega (arith, within_le v, within_le w)

-- a mask that is not 0 holds some position

pub some_in : (m : ℕ) → 0 < m → (p : ℕ) × In p m
some_in =
    bin_ind (λ m. 0 < m → (p : ℕ) × In p m) (λ h. absurd (omega arith)) (λ m ih h. go m ih h (m % 2) refl)
  where
    go : (m : ℕ) → (0 < m / 2 → (p : ℕ) × In p (m / 2)) → 0 < m → (d : ℕ) → m % 2 ≡ d → (p : ℕ) × In p m
    go m ih h zero e = let r = ih (omega arith) in (suc r.0, half_in r.1)
    go m ih h (suc zero) e = (0, lowest_in e)
    go m ih h (suc (suc d)) e = absurd (omega arith)

pub in_pos : {p m : ℕ} → In p m → 0 < m
in_pos {p} {m = zero} i = absurd (none_in i)
in_pos {p} {m = suc m} i = omega arith

-- masks of positions below n

pub in_below : {p m : ℕ} (n : ℕ) → In p m → m < 2 ^ n → p < n
in_below {p} {m} n i h = go (cases_lt p n)
  where
    go : (p < n) ⊎ (n ≤ p) → p < n
    go (inl k) = k
    go (inr k) =
        let l : m < 2 ^ p = omega (arith, h, pow_mono k) in
        absurd (omega (arith, i.digit, div-eq_of_lt l))

-- the mask of all positions below n
pub in_all : (p n : ℕ) → p < n → In p (2 ^ n - 1)
in_all p n h = record { digit = go (n - suc p) (omega arith) }
  where
    go : (j : ℕ) → n ≡ suc j + p → (2 ^ n - 1) / 2 ^ p % 2 ≡ 1
    go j e =
        let odd : (2 ^ suc j - 1) % 2 ≡ 1 = omega (arith, pow-suc 2 j, pow_pos j) in
        let low : 2 ^ p - 1 < 2 ^ p = omega (arith, pow_pos p) in
        rw (e, ones_split (suc j) p, high (2 ^ suc j - 1) p low) odd

pub all_in : (p n : ℕ) → In p (2 ^ n - 1) → p < n
all_in p n i = in_below n i (omega (arith, pow_pos n))

pub below_lt : (m n : ℕ) → ((p : ℕ) → In p m → p < n) → m < 2 ^ n
below_lt m n below =
    let w : Within m (2 ^ n - 1) = record { each = λ p i. in_all p n (below p i) } in
    omega (arith, within_le w, pow_pos n)

-- single positions

pub in_single : (p : ℕ) → In p (2 ^ p)
in_single p = record { digit = go }
  where
    go : 2 ^ p / 2 ^ p % 2 ≡ 1
    go = omega (arith, rw one-mul at (shl-shr 1 p))

pub single_in : {p q : ℕ} → In p (2 ^ q) → p ≡ q
single_in {p} {q} i =
    go (cases_order p q)
  where
    go : (p ≡ q) ⊎ ((p < q) ⊎ (q < p)) → p ≡ q
    go (inl e) = e
    go (inr (inl k)) = absurd (even (q - suc p) (omega arith))
      where
        even : (j : ℕ) → q ≡ suc j + p → ⊥
        even j e = omega (arith, rw (e, pow-add 2 (suc j) p, shl-shr (2 ^ suc j) p) at i.digit, pow-suc 2 j)
    go (inr (inr k)) = absurd (omega (arith, i.digit, div-eq_of_lt (pow-lt k)))

-- Within and Meets as tests

pub within_and : {a b : ℕ} → Within a b → bit_and a b ≡ a
within_and {a} {b} w =
    same_mask (record { each = λ p i. in_first a b i }) (record { each = λ p i. in_both i (w.each p i) })

pub and_within : (a b : ℕ) → bit_and a b ≡ a → Within a b
and_within a b e = record { each = λ p i. in_second a b (rw e i) }

pub meets_and : {a b : ℕ} → Meets a b → 0 < bit_and a b
meets_and m = in_pos (in_both m.left m.right)

pub and_meets : (a b : ℕ) → 0 < bit_and a b → Meets a b
and_meets a b h =
    let r = some_in (bit_and a b) h in
    record { place = r.0; left = in_first a b r.1; right = in_second a b r.1 }

pub meets_or_not : (a b : ℕ) → Meets a b ⊎ (Meets a b → ⊥)
meets_or_not a b = go (bit_and a b) refl
  where
    go : (c : ℕ) → bit_and a b ≡ c → Meets a b ⊎ (Meets a b → ⊥)
    go zero e = inr (λ m. omega (arith, e, meets_and m))
    go (suc c) e = inl (and_meets a b (omega (arith, e)))

-- subsets and unions

pub within_self : (a : ℕ) → Within a a
within_self a = record { each = λ p i. i }

pub within_trans : {a b c : ℕ} → Within a b → Within b c → Within a c
within_trans v w = record { each = λ p i. w.each p (v.each p i) }

pub within_left : (a b : ℕ) → Within a (bit_or a b)
within_left a b = record { each = λ p i. in_left b i }

pub within_right : (a b : ℕ) → Within b (bit_or a b)
within_right a b = record { each = λ p i. in_right a i }

pub union_within : {a b c : ℕ} → Within a c → Within b c → Within (bit_or a b) c
union_within {a} {b} {c} v w = record { each = λ p i. go p (in_either a b i) }
  where
    go : (p : ℕ) → In p a ⊎ In p b → In p c
    go p (inl i) = v.each p i
    go p (inr i) = w.each p i

pub union_grows : {a b c d : ℕ} → Within a c → Within b d → Within (bit_or a b) (bit_or c d)
union_grows {a} {b} {c} {d} v w =
    union_within (within_trans v (within_left c d)) (within_trans w (within_right c d))

pub or_assoc : (a b c : ℕ) → bit_or (bit_or a b) c ≡ bit_or a (bit_or b c)
or_assoc a b c =
    same_mask
    (union_within (union_grows (within_self a) (within_left b c)) (within_trans (within_right b c) (within_right a (bit_or b c))))
    (union_within (within_trans (within_left a b) (within_left (bit_or a b) c)) (union_grows (within_right a b) (within_self c)))

pub or_comm : (a b : ℕ) → bit_or a b ≡ bit_or b a
or_comm a b = same_mask (union_within (within_right b a) (within_left b a)) (union_within (within_right a b) (within_left a b))

pub nothing_within : (a : ℕ) → Within 0 a
nothing_within a = record { each = λ p i. absurd (none_in i) }

pub meets_more : {a b c : ℕ} → Meets a c → Within a b → Meets b c
meets_more m w = record { place = m.place; left = w.each m.place m.left; right = m.right }

pub meets_single : {g x : ℕ} → In x g → Meets g (2 ^ x)
meets_single {g} {x} i = record { place = x; left = i; right = in_single x }

pub single_meets : {g x : ℕ} → Meets g (2 ^ x) → In x g
single_meets {g} {x} m = subst (λ q. In q g) (single_in m.right) m.left

-- a mask with one position

zero_ones : ones 0 ≡ 0
unfolding ones
zero_ones = refl

pub no_ones : (m : ℕ) → ones m ≡ 0 → m ≡ 0
no_ones =
    bin_ind (λ m. ones m ≡ 0 → m ≡ 0) (λ e. refl)
    (λ m ih e. omega (arith, e, ones_step m, ih (omega (arith, e, ones_step m))))

pub one_position : (m : ℕ) → ones m ≡ 1 → (p : ℕ) × (m ≡ 2 ^ p)
one_position =
    bin_ind (λ m. ones m ≡ 1 → (p : ℕ) × (m ≡ 2 ^ p)) (λ e. absurd (omega (arith, e, zero_ones))) (λ m ih e. go m ih e (m % 2) refl)
  where
    go : (m : ℕ) → (ones (m / 2) ≡ 1 → (p : ℕ) × (m / 2 ≡ 2 ^ p)) → ones m ≡ 1 → (d : ℕ) → m % 2 ≡ d → (p : ℕ) × (m ≡ 2 ^ p)
    go m ih e zero z =
        let r = ih (omega (arith, e, z, ones_step m)) in
        (suc r.0, omega (arith, r.1, z, pow-suc 2 r.0))
    go m ih e (suc zero) z = (0, omega (arith, z, no_ones (m / 2) (omega (arith, e, z, ones_step m))))
    go m ih e (suc (suc d)) z = absurd (omega arith)
