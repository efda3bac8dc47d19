-- What two write-outs say of two descriptions.
use Rattle.std.proofs.Common.{◌≡◌, ℕ, Bool, true, false, List, length, take, drop, Contains, Ok, Err, Decides, Result, sym, refl, ap, ◌∙◌, subst, take_at}
use Rattle.std.proofs.lemmas.Bool.{false≢true}
use Rattle.coverage.proofs.CoreLeast.{core_kept, same_core}
use Rattle.coverage.proofs.Cover.{same_turned}
use Rattle.domain.specs.Told.{Told}
use Rattle.domain.specs.declared.marks.Marks.{Marks}
use Rattle.keeper.specs.Calls.{Writes}
use Rattle.keeper.specs.declared.fault.KeeperFault.{KeeperFault}
use Rattle.keeper.specs.declared.write_out.WrittenOut.{WrittenOut}
use Rattle.agreement.proofs.Cores.{one_core}
use Rattle.agreement.specs.Comparing.{Compared, SameTold}

pub compared_first : (s t : Told) (first first' second : List ℕ) (f : KeeperFault) (r : Result Bool KeeperFault)
    → Writes s first first' (Err f) → r ≡ Err f → Compared s t first first' second second r
compared_first s t first first' second f r h e = record { one = Err f; written = h; rest = (refl, e) }

pub compared_second : (s t : Told) (first first' second second' : List ℕ) (w : WrittenOut) (f : KeeperFault) (r : Result Bool KeeperFault)
    → Writes s first first' (Ok w) → Writes t second second' (Err f) → r ≡ Err f → Compared s t first first' second second' r
compared_second s t first first' second second' w f r h k e = record { one = Ok w; written = h; rest = (Err f, k, e) }

written_one : (w v : WrittenOut) → w.count ≡ v.count → w.marks ≡ v.marks → w ≡ v
written_one w v a b =
    ap (λ (x : ℕ). record { count = x; marks = w.marks }) a
    ∙ ap (λ (x : Marks). record { count = v.count; marks = x }) b

module _ (s t : Told) (first first' second second' : List ℕ) (w v : WrittenOut)
    (h : Writes s first first' (Ok w)) (k : Writes t second second' (Ok v)) where
  one_groups : List ℕ
  one_groups = h.2.0

  two_groups : List ℕ
  two_groups = k.2.0

  one_front : take w.count first' ≡ one_groups
  unfolding one_groups
  one_front = ap (λ (l : List ℕ). take w.count l) h.2.4 ∙ take_at h.2.0 (drop (length h.2.0) first) w.count (sym h.2.2)

  two_front : take v.count second' ≡ two_groups
  unfolding two_groups
  two_front = ap (λ (l : List ℕ). take v.count l) k.2.4 ∙ take_at k.2.0 (drop (length k.2.0) second) v.count (sym k.2.2)

  -- the same answers and groups, so the same descriptions
  same_to : w ≡ v → take w.count first' ≡ take w.count second' → SameTold s t
  unfolding one_groups two_groups
  same_to e g =
      let count : w.count ≡ v.count = ap (λ (x : WrittenOut). x.count) e in
      let groups : h.2.0 ≡ k.2.0 = sym one_front ∙ g ∙ ap (λ (n : ℕ). take n second') count ∙ two_front in
      record {
        marks = sym h.1 ∙ ap (λ (x : WrittenOut). x.marks) e ∙ k.1;
        cover = same_core s t
            (λ u i. k.2.1.only u (subst (λ (l : List ℕ). Contains l u) groups (h.2.1.all u i)))
            (λ u i. h.2.1.only u (subst (λ (l : List ℕ). Contains l u) (sym groups) (k.2.1.all u i)));
      }

  -- and the other way round
  same_from : SameTold s t → (w ≡ v) × (take w.count first' ≡ take w.count second')
  unfolding one_groups two_groups
  same_from m =
      let groups : h.2.0 ≡ k.2.0 =
      one_core h.2.0 k.2.0 (λ u. core_kept m.cover) (λ u. core_kept (same_turned m.cover)) h.2.1 k.2.1 in
      let count : w.count ≡ v.count = h.2.2 ∙ ap length groups ∙ sym k.2.2 in (
        written_one w v count (h.1 ∙ m.marks ∙ sym k.1),
        one_front ∙ groups ∙ sym two_front ∙ ap (λ (n : ℕ). take n second') (sym count),
      )

  pub compared_apart : Decides false (w ≡ v) → Compared s t first first' second second' (Ok false)
  compared_apart d =
      record {
        one = Ok w;
        written = h;
        rest = (Ok v, k, (false, refl, ((λ e. absurd (false≢true e)), λ m. d.1 (same_from m).0)));
      }

  pub compared_by : (b : Bool) → Decides true (w ≡ v) → Decides b (take w.count first' ≡ take w.count second') → Compared s t first first' second second' (Ok b)
  compared_by b d g =
      record {
        one = Ok w;
        written = h;
        rest = (Ok v, k, (b, refl, ((λ e. same_to (d.0 refl) (g.0 e)), λ m. g.1 (same_from m).1)));
      }
