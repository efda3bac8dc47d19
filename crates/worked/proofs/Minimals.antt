-- Minimal groups beside core groups.
use Rattle.std.proofs.Common.{◌≡◌, ℕ, ◌^◌, Bool, true, false, ltb, List, [], ◌∷◌, Contains, sym, refl, subst}
use Rattle.std.proofs.lemmas.Bool.{both_ways}
use Rattle.domain.specs.Coverage.{CoreList}
use Rattle.domain.proofs.Lists.{here, contains, listed}
use Rattle.domain.specs.Requests.{held_by}
use Rattle.worked.specs.Shortcuts.{Minimal, Beside, MinimalIsTooFew}
use Rattle.worked.proofs.CoreLists.{Smaller, lists_inside, core_within}
use Rattle.worked.proofs.Gathering.{Lists, lists_as, lists_self, Says, Which, add, merged, keep, lists_keep}
use Rattle.worked.proofs.Positions.{has, some}
use Rattle.worked.proofs.States.{sharing, inside, is_core, core_of}

abbrev is_empty : List ℕ → Bool
is_empty [] = true
is_empty (g ∷ gs) = false

says_empty : {Q : ℕ → Type 0} (gs : List ℕ) → Lists Q gs → Says (is_empty gs) ((h : ℕ) → Q h → ⊥)
says_empty [] l = record { yes = λ e h q. elim (l.all q) [ ]; no = λ n. refl }
says_empty (g ∷ gs) l = record { yes = λ e. absurd (both_ways false refl e); no = λ n. absurd (n g (l.only here)) }

minimal_of : List ℕ → List ℕ
minimal_of gs = keep (λ g. is_empty (inside gs g)) gs

lists_minimal : {P : ℕ → Type 0} {gs : List ℕ} → Lists P gs → Lists (Minimal P) (minimal_of gs)
unfolding minimal_of
lists_minimal {P} {gs} l =
    lists_as
    (λ g w. record { told = w.told; least = λ h k u ne. w.holds h (record { told = k; holds = (u, ne) }) })
    (λ g m. record { told = m.told; holds = λ h w. m.least h w.told w.holds.0 w.holds.1 })
    (lists_keep {Q = λ g. (h : ℕ) → Which P (Smaller l g) h → ⊥} (λ g. says_empty (inside gs g) (lists_inside l g)) l)

beside : (n : ℕ) {gs cs ms : List ℕ} → ltb (held_by gs) (2 ^ n) ≡ true → core_of n gs ≡ cs → minimal_of gs ≡ ms → Beside gs cs ms
beside n {gs} h c m =
    record {
      core = subst (CoreList (Contains gs)) c (core_within n (lists_self gs) h);
      minimal = λ g. (λ k. subst (λ hs. Contains hs g) m (contains (lists.all k)), λ k. lists.only (listed (minimal_of gs) g (subst (λ hs. Contains hs g) (sym m) k)));
    }
  where
    lists : Lists (Minimal (Contains gs)) (minimal_of gs)
    lists = lists_minimal (lists_self gs)

pub minimal_is_too_few : MinimalIsTooFew
unfolding add merged keep has some sharing inside is_core core_of minimal_of
minimal_is_too_few =
    record { pair_left_out = beside 3 refl refl refl; all_pairs = beside 3 refl refl refl; in_a_row = beside 5 refl refl refl }
