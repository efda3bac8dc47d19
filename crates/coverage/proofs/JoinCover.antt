-- What a join covers, and that it takes alike descriptions to alike ones.
use Rattle.std.proofs.Common.{ℕ, ◌⊎◌, List, Contains, sym, ◌∙◌, inl, inr}
use Rattle.domain.specs.Told.{Told, Group}
use Rattle.domain.specs.Coverage.{Covers, Alike}
use Rattle.domain.specs.Joining.{Joined}
use Rattle.domain.specs.declared.listing.Listing.{Listing}
use Rattle.coverage.proofs.Cover.{covers_more, alike_turned, PartOf, both_alike}
use Rattle.coverage.proofs.Places.{free_kept, linear_kept}

-- the union of two sets covers what one of them covers
union_cover : {G A B : ℕ → Type 0} {w p q : ℕ} → ((g : ℕ) → G g → A g ⊎ B g) → Covers G w p q → Covers A w p q ⊎ Covers B w p q
union_cover f k =
    elim (f k.group k.told) [
      | inl a ↦ inl (record { group = k.group; told = a; left = k.left; right = k.right; inside = k.inside })
      | inr b ↦ inr (record { group = k.group; told = b; left = k.left; right = k.right; inside = k.inside })
    ]

module _ {d e : Told} {other : Listing (List ℕ)} (j : Joined d other e) {w p q : ℕ} where
  pub join_cover_to : Covers (Group e) w p q → Covers (Group d) w p q ⊎ Covers (Contains other.groups) w p q
  join_cover_to k = union_cover j.groups_only k

  pub join_cover_from : Covers (Group d) w p q ⊎ Covers (Contains other.groups) w p q → Covers (Group e) w p q
  join_cover_from (inl k) = covers_more (λ g t. j.groups_made g (inl t)) k
  join_cover_from (inr k) = covers_more (λ g t. j.groups_made g (inr t)) k

joined_part : {d d' e e' : Told} {other : Listing (List ℕ)} → Alike d d' → Joined d other e → Joined d' other e' → PartOf e e'
joined_part a u v =
    record {
      positions = u.positions ∙ (a.positions ∙ sym v.positions);
      free = record { each = λ p i. let h = u.free_only p i in v.free_common p (free_kept a h.0) h.1 };
      linear = record { each = λ p i. let h = u.linear_only p i in v.linear_common p (linear_kept a h.0) h.1 };
      cover = λ w p q k. join_cover_from v (elim (join_cover_to u k) [ inl c ↦ inl (a.cover.to w p q c) | inr c ↦ inr c ]);
    }

pub join_alike : {d d' e e' : Told} {other : Listing (List ℕ)} → Alike d d' → Joined d other e → Joined d' other e' → Alike e e'
join_alike a u v = both_alike (joined_part a u v) (joined_part (alike_turned a) v u)
