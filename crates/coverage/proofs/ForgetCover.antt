-- What a forget covers, and that it takes alike descriptions to alike ones.
use Rattle.std.proofs.Common.{◌≡◌, ℕ, ◌^◌, sym, refl, ◌∙◌, subst, inl, inr}
use Rattle.domain.specs.Masks.{In, Within, without}
use Rattle.domain.specs.Told.{Told, Group}
use Rattle.domain.specs.Coverage.{Covers, Alike}
use Rattle.domain.specs.Forgetting.{Stripped, Renewed, Forgotten}
use Rattle.coverage.specs.JoinForgetLaws.{ForgetCovers, others, itself}
use Rattle.domain.proofs.Bits.{in_either, in_left, in_right, in_single, single_in, in_lacking, lacking_in}
use Rattle.domain.proofs.Forgetting.{stripped}
use Rattle.coverage.proofs.Searching.{dec_in}
use Rattle.coverage.proofs.Cover.{alike_turned, PartOf, both_alike}
use Rattle.coverage.proofs.Places.{free_kept, linear_kept}

stripped_cover : {G : ℕ → Type 0} {m w p q g : ℕ} → Stripped G m g → In p g → In q g → Within g w → ForgetCovers (Covers G) m w p q
stripped_cover {m = m} {w = w} {p = p} {q = q} s i j h =
    others (s.only p i).1 (s.only q j).1
    (record {
      group = s.group;
      told = s.told;
      left = (s.only p i).0;
      right = (s.only q j).0;
      inside =
          record {
            each =
                λ r k.
                elim (dec_in r m) [ yes y ↦ in_right w y | no n ↦ in_left m (h.each r (s.keeps r k n)) ];
          };
    })

renewed_cover : {C : ℕ → ℕ → ℕ → Type 0} {m w p q g : ℕ} → Renewed m g → In p g → In q g → Within g w → ForgetCovers C m w p q
renewed_cover {p = p} {q = q} r i j h =
    let ep : p ≡ r.place = single_in (rw (← r.only) i) in
    let eq : q ≡ r.place = single_in (rw (← r.only) j) in
    itself (rw ep r.forgotten) (ep ∙ sym eq) (h.each p i)

module _ {d e : Told} {m : ℕ} (f : Forgotten d m e) where
  pub forget_cover_to : {w p q : ℕ} → Covers (Group e) w p q → ForgetCovers (Covers (Group d)) m w p q
  forget_cover_to k =
      elim (f.groups_only k.group k.told)
      [ inl s ↦ stripped_cover s k.left k.right k.inside | inr r ↦ renewed_cover r k.left k.right k.inside ]

  pub forget_cover_from : {w p q : ℕ} → ForgetCovers (Covers (Group d)) m w p q → Covers (Group e) w p q
  forget_cover_from {w} (others i j k) =
      let g = k.group in
      record {
        group = without g m;
        told = f.groups_made (without g m) (inl (stripped k.told k.left i));
        left = in_lacking k.left i;
        right = in_lacking k.right j;
        inside =
            record {
              each =
                  λ r h.
                  elim (in_either w m (k.inside.each r (lacking_in g m h).0))
                  [ inl y ↦ y | inr y ↦ absurd ((lacking_in g m h).1 y) ];
            };
      }
  forget_cover_from {w} {p} {q} (itself i e h) =
      record {
        group = 2 ^ p;
        told = f.groups_made (2 ^ p) (inr (record { place = p; forgotten = i; only = refl }));
        left = in_single p;
        right = subst (λ r. In r (2 ^ p)) e (in_single p);
        inside = record { each = λ r j. rw (single_in j) h };
      }

forget_more : {C D : ℕ → ℕ → ℕ → Type 0} {m w p q : ℕ} → ((w p q : ℕ) → C w p q → D w p q) → ForgetCovers C m w p q → ForgetCovers D m w p q
forget_more f (others i j k) = others i j (f _ _ _ k)
forget_more f (itself i e h) = itself i e h

forgotten_part : {d d' e e' : Told} {m : ℕ} → Alike d d' → Forgotten d m e → Forgotten d' m e' → PartOf e e'
forgotten_part a u v =
    record {
      positions = u.positions ∙ (a.positions ∙ sym v.positions);
      free = record { each = λ p i. v.free_made p (elim (u.free_only p i) [ inl h ↦ inl (free_kept a h) | inr h ↦ inr h ]) };
      linear =
          record { each = λ p i. v.linear_made p (elim (u.linear_only p i) [ inl h ↦ inl (linear_kept a h) | inr h ↦ inr h ]) };
      cover = λ w p q k. forget_cover_from v (forget_more a.cover.to (forget_cover_to u k));
    }

pub forget_alike : {d d' e e' : Told} {m : ℕ} → Alike d d' → Forgotten d m e → Forgotten d' m e' → Alike e e'
forget_alike a u v = both_alike (forgotten_part a u v) (forgotten_part (alike_turned a) v u)
