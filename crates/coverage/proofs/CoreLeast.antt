-- The core of a set: it covers the same pairs, and every set that does so holds it.
use Rattle.std.proofs.Common.{◌≡◌, ℕ, true, sym, subst, arith}
use mathlib.Core.Bool.{Bool-discrete}
use native.Mathlib.Decide.{ℕ_discrete, map_dec}
use Rattle.domain.specs.Masks.{Within}
use Rattle.domain.specs.Told.{Told, Group}
use Rattle.domain.specs.Coverage.{Covers, SameCover, Alike, Core, CoreFits}
use Rattle.coverage.specs.Walks.{Holding}
use Rattle.domain.proofs.Bits.{within_le, same_mask, within_trans}
use Rattle.coverage.proofs.Searching.{dec_both, dec_in, dec_within, Least, least}
use Rattle.coverage.proofs.Cover.{covers_own, same_turned, same_trans, same_groups}

-- ---- the core covers the same pairs

pub dec_holding : {G : ℕ → Type 0} → ((g : ℕ) → Dec (G g)) → (p q g : ℕ) → Dec (Holding G p q g)
dec_holding dec p q g =
    map_dec (λ r. record { told = r.0; left = r.1.0; right = r.1.1 }) (λ h. (h.told, (h.left, h.right)))
    (dec_both (dec g) (dec_both (dec_in p g) (dec_in q g)))

-- the least group inside w that holds both positions is a core group
least_core : {G : ℕ → Type 0} {w p q : ℕ} (l : Least (λ g. Holding G p q g × Within g w)) → Core G l.at
least_core {p = p} {q = q} l =
    record {
      told = l.holds.0.told;
      p = p;
      q = q;
      left = l.holds.0.left;
      right = l.holds.0.right;
      uncovered =
          λ h t u ne i j.
          l.first h (omega (arith, within_le u)) (record { told = t; left = i; right = j }, within_trans u l.holds.1);
    }

pub core_covers : {G : ℕ → Type 0} {w p q : ℕ} → ((g : ℕ) → Dec (G g)) → Covers G w p q → Covers (Core G) w p q
core_covers {G} {w} {p} {q} dec c =
    let l : Least (λ g. Holding G p q g × Within g w) =
    least (λ g. dec_both (dec_holding dec p q g) (dec_within g w)) c.group (record { told = c.told; left = c.left; right = c.right }, c.inside) in
    record { group = l.at; told = least_core l; left = l.holds.0.left; right = l.holds.0.right; inside = l.holds.1 }

pub core_told : {G : ℕ → Type 0} {w p q : ℕ} → Covers (Core G) w p q → Covers G w p q
core_told c =
    record { group = c.group; told = c.told.told; left = c.left; right = c.right; inside = c.inside }

pub core_same : {G : ℕ → Type 0} → ((g : ℕ) → Dec (G g)) → SameCover (Core G) G
core_same dec = record { to = λ w p q c. core_told c; from = λ w p q c. core_covers dec c }

-- ---- the core is the least

module _ {G H : ℕ → Type 0} (s : SameCover G H) where
  -- what covers the core group's pair inside the core group is the group itself
  back : {g : ℕ} (c : Core G g) (h : ℕ) → Within h g → Covers H h c.p c.q → g ≡ h
  back {g} c h u k =
      let b = s.from h c.p c.q k in
      elim (ℕ_discrete b.group g) [
        | yes e ↦ same_mask (subst (λ m. Within m h) e b.inside) u
        | no ne ↦ absurd (c.uncovered b.group b.told (within_trans b.inside u) ne b.left b.right)
      ]

  pub core_held : {g : ℕ} → Core G g → H g
  core_held {g} c =
      let k = s.to g c.p c.q (covers_own c.told c.left c.right) in
      subst H (sym (back c k.group k.inside (covers_own k.told k.left k.right))) k.told

  pub core_kept : {g : ℕ} → Core G g → Core H g
  core_kept c =
      record {
        told = core_held c;
        p = c.p;
        q = c.q;
        left = c.left;
        right = c.right;
        uncovered = λ h t u ne i j. ne (sym (back c h u (covers_own t i j)));
      }

-- ---- descriptions

pub dec_group : (d : Told) (g : ℕ) → Dec (Group d g)
dec_group d g =
    elim (Bool-discrete (d.groups g) true) [ yes e ↦ yes (record { told = e }) | no n ↦ no (λ t. n t.told) ]

pub same_core : (d e : Told) → ((g : ℕ) → Core (Group d) g → Core (Group e) g) → ((g : ℕ) → Core (Group e) g → Core (Group d) g) → SameCover (Group d) (Group e)
same_core d e f b =
    same_trans (same_turned (core_same (dec_group d))) (same_trans (same_groups f b) (core_same (dec_group e)))

pub core_fits : {d e : Told} {k : ℕ} → Alike d e → CoreFits (Group d) k → CoreFits (Group e) k
core_fits a f =
    record { groups = f.groups; short = f.short; holds = λ g c. f.holds g (core_kept (same_turned a.cover) c) }
