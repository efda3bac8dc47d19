-- What the reach of one position says of it: whether it is ground, and with which positions it shares.
use Rattle.std.proofs.Common.{◌≡◌, ℕ, zero, suc, ◌^◌, ◌<◌, Bool, true, eqb, Decides, refl, arith}
use Rattle.std.proofs.lemmas.Bool.{eq-eqb, eqb-true}
use Rattle.std.proofs.lemmas.Bool.Decides.{Decides-like}
use Rattle.domain.specs.Groups.{IsGround, Near, Share}
use Rattle.domain.specs.Masks.{In}
use Rattle.rules.specs.Reaching.{Reach}
use Rattle.domain.proofs.Bits.{none_in, some_in, meets_single, single_meets}

module _ (G : ℕ → Type 0) where
  -- a group that holds p is one that meets the mask of p alone
  pub in_group : {p q g : ℕ} → G g → In p g → In q g → Near G (2 ^ p) q
  in_group {p} {q} {g} m i j =
      record { group = g; told = record { group = m; left = meets_single i; right = meets_single i }; holds = j }

  pub in_share : {p q : ℕ} → Near G (2 ^ p) q → Share G p q
  in_share t =
      record { group = t.group; told = t.told.group; left = single_meets t.told.left; right = t.holds }

  pub decides_ground : (n p r : ℕ) → p < n → Reach G (2 ^ p) r → Decides (eqb r 0) (IsGround n G p)
  decides_ground n p r h reach =
      (λ e. record { position = h; none = λ g m i. empty e g m i }, λ g. eq-eqb r 0 (none r reach g))
    where
      empty : eqb r 0 ≡ true → (g : ℕ) → G g → In p g → ⊥
      empty e g m i = let k : In p r = reach.all p (in_group m i i) in none_in (rw (eqb-true r 0 e) at k)

      none : (r : ℕ) → Reach G (2 ^ p) r → IsGround n G p → r ≡ 0
      none zero reach g = refl
      none (suc r) reach g =
          let s = some_in (suc r) (omega arith) in
          let t = reach.made s.0 s.1 in
          absurd (g.none t.group t.told.group (single_meets t.told.left))

  pub decides_share : (p q r : ℕ) (b : Bool) → Reach G (2 ^ p) r → Decides b (In q r) → Decides b (Share G p q)
  decides_share p q r b reach =
      Decides-like b (λ i. in_share (reach.made q i)) (λ s. reach.all q (in_group s.told s.left s.right))
