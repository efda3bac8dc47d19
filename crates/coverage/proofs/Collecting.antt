-- What is collected of the numbers of which a decidable statement holds: a test, a mask.
use Rattle.std.proofs.Common.{◌≡◌, ℕ, zero, suc, ◌^◌, ◌<◌, Bool, true, false, sym, refl, subst, inl, inr, pow-suc, arith}
use native.Mathlib.Decide.{ℕ_discrete}
use lib.Bits.{bit_or}
use Rattle.std.proofs.lemmas.Bool.{false≢true}
use Rattle.domain.specs.Masks.{In}
use Rattle.domain.specs.Told.{Passes}
use Rattle.domain.proofs.Bits.{none_in, in_left, in_right, in_either, in_single, single_in, within_le}

-- ---- a test

pub record Tested (P : ℕ → Type 0) : Type 0 where
  pub test : ℕ → Bool
  pub only : (k : ℕ) → Passes test k → P k
  pub all : (k : ℕ) → P k → Passes test k

abbrev verdict : {P : Type 0} → Dec P → Bool
verdict (yes p) = true
verdict (no n) = false

verdict_only : {P : Type 0} (d : Dec P) → verdict d ≡ true → P
verdict_only (yes p) e = p
verdict_only (no n) e = absurd (false≢true e)

verdict_all : {P : Type 0} (d : Dec P) → P → verdict d ≡ true
verdict_all (yes p) q = refl
verdict_all (no n) q = absurd (n q)

pub tested : {P : ℕ → Type 0} → ((k : ℕ) → Dec (P k)) → Tested P
tested dec =
    record {
      test = λ k. verdict (dec k);
      only = λ k t. verdict_only (dec k) t.told;
      all = λ k p. record { told = verdict_all (dec k) p };
    }

-- ---- a mask

-- a position is below the mask that holds it
lt_power : (p : ℕ) → p < 2 ^ p
lt_power zero = omega arith
lt_power (suc p) = omega (arith, lt_power p, pow-suc 2 p)

pub in_lt : {p m : ℕ} → In p m → p < m
in_lt {p} {m} i = omega (arith, lt_power p, within_le {a = 2 ^ p} {b = m} (record { each = λ q j. rw (single_in j) i }))

pub power_lt : {p m : ℕ} → m ≡ 2 ^ p → p < m
power_lt {p} e = rw e (lt_power p)

pub record Positions (P : ℕ → Type 0) : Type 0 where
  pub mask : ℕ
  pub only : (p : ℕ) → In p mask → P p
  pub all : (p : ℕ) → P p → In p mask

module _ {P : ℕ → Type 0} (dec : (p : ℕ) → Dec (P p)) where
  -- the positions below k
  record PositionsTo (k : ℕ) : Type 0 where
    mask : ℕ
    only : (p : ℕ) → In p mask → P p
    all : (p : ℕ) → p < k → P p → In p mask

  positions_to : (k : ℕ) → PositionsTo k
  positions_to zero = record { mask = 0; only = λ p i. absurd (none_in i); all = λ p h t. absurd (omega arith) }
  positions_to (suc k) =
      let r = positions_to k in
      elim (dec k) [
        | yes t ↦
            record {
              mask = bit_or r.mask (2 ^ k);
              only =
                  λ p i.
                  elim (in_either r.mask (2 ^ k) i) [ inl j ↦ r.only p j | inr j ↦ subst P (sym (single_in j)) t ];
              all =
                  λ p h s.
                  elim (ℕ_discrete p k) [
                    | yes e ↦ in_right r.mask (subst (λ q. In p (2 ^ q)) e (in_single p))
                    | no ne ↦ in_left (2 ^ k) (r.all p (omega arith) s)
                  ];
            }
        | no n ↦
            record {
              mask = r.mask;
              only = r.only;
              all =
                  λ p h s.
                  elim (ℕ_discrete p k) [ yes e ↦ absurd (n (subst P e s)) | no ne ↦ r.all p (omega arith) s ];
            }
      ]

  pub positions : (n : ℕ) → ((p : ℕ) → P p → p < n) → Positions P
  positions n below =
      let r = positions_to n in
      record { mask = r.mask; only = r.only; all = λ p t. r.all p (below p t) t }
