-- What sets and descriptions that cover the same pairs say alike of positions: sharing, groundness, nearness, marks.
use Rattle.std.proofs.Common.{◌≡◌, ℕ, sym, ◌∙◌}
use Rattle.domain.specs.Groups.{Share, IsGround, Near}
use Rattle.domain.specs.Opening.{New}
use Rattle.domain.specs.Told.{Told, IsFree, IsLinear}
use Rattle.domain.specs.Coverage.{SameCover, Alike}
use Rattle.coverage.specs.Likeness.{SameAnswers}
use Rattle.coverage.proofs.Cover.{covers_own, covers_more, alike_turned, PartOf, both_alike, side_group}

module _ {G H : ℕ → Type 0} where
  pub share_kept : {p q : ℕ} → SameCover G H → Share G p q → Share H p q
  share_kept {p} {q} s h =
      let k = s.to h.group p q (covers_own h.told h.left h.right) in
      record { group = k.group; told = k.told; left = k.left; right = k.right }

  pub ground_kept : {n m p : ℕ} → n ≡ m → SameCover G H → IsGround n G p → IsGround m H p
  ground_kept {p = p} n s g =
      record {
        position = rw (← n) g.position;
        none = λ h t i. let k = s.from h p p (covers_own t i i) in g.none k.group k.told k.left;
      }

  pub near_kept : {a p : ℕ} → SameCover G H → Near G a p → Near H a p
  near_kept {p = p} s k =
      let m = k.told.left in
      let c = s.to k.group m.place p (covers_own k.told.group m.left k.holds) in
      record { group = c.group; told = side_group c.told c.left m.right; holds = c.right }

pub free_kept : {d e : Told} {p : ℕ} → Alike d e → IsFree d p → IsFree e p
free_kept a i = rw (← a.marks) i

pub linear_kept : {d e : Told} {p : ℕ} → Alike d e → IsLinear d p → IsLinear e p
linear_kept a i = rw (← a.marks) i

pub same_answers : {d e : Told} → Alike d e → SameAnswers d e
same_answers a =
    let b = alike_turned a in
    record {
      share = λ p q. (λ s. share_kept a.cover s, λ s. share_kept b.cover s);
      ground = λ p. (λ g. ground_kept a.positions a.cover g, λ g. ground_kept b.positions b.cover g);
      free = λ p. (λ i. free_kept a i, λ i. free_kept b i);
      linear = λ p. (λ i. linear_kept a i, λ i. linear_kept b i);
    }

-- ---- new descriptions

new_part : {n : ℕ} {d e : Told} → New n d → New n e → PartOf d e
new_part u v =
    record {
      positions = u.positions ∙ sym v.positions;
      free = record { each = λ p i. v.free_made p (u.free_only p i) };
      linear = record { each = λ p i. v.linear_made p (u.linear_only p i) };
      cover = λ w p q k. covers_more (λ g t. v.groups_made g (u.groups_only g t)) k;
    }

pub new_alike : {n : ℕ} {d e : Told} → New n d → New n e → Alike d e
new_alike u v = both_alike (new_part u v) (new_part v u)
