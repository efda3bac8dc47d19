-- What the entries of a list keeper answer.
use Rattle.std.proofs.Common.{◌≡◌, ℕ, ◌<◌, Bool, not, List, take, Contains, Some, Ok, Decides, Option, sym, subst, arith}
use Rattle.std.proofs.lemmas.Bool.{ne_eqb, lt-leb}
use Rattle.std.proofs.lemmas.Bool.Decides.{Decides-like, Decides-not}
use Rattle.domain.specs.Groups.{Share, IsGround}
use Rattle.domain.specs.Told.{Told, Group}
use Rattle.keeper.specs.Calls.{Answers, ask_refusal, pair_refusal}
use Rattle.list_keeper.proofs.Listing.{group_entry}
use Rattle.list_keeper.specs.Tells.{tells, told_by}
use Rattle.list_keeper.specs.declared.head.Head.{Head}

-- a question that no test refuses
answer_ask : (d : Told) (p : ℕ) (Holds : Type 0) (b : Bool) → 0 < d.n → p < d.n → Decides b Holds → Answers (ask_refusal d p) Holds (Ok b)
answer_ask d p Holds b some low h = rw (ne_eqb d.n 0 (λ e. omega arith), lt-leb d.n p low) h

answer_pair : (d : Told) (p q : ℕ) (Holds : Type 0) (b : Bool) → 0 < d.n → p < d.n → q < d.n → Decides b Holds
    → Answers (pair_refusal d p q) Holds (Ok b)
answer_pair d p q Holds b some low high h =
    rw (ne_eqb d.n 0 (λ e. omega arith), lt-leb d.n p low, lt-leb d.n q high) h

share_as : {G H : ℕ → Type 0} {p q : ℕ} → ((g : ℕ) → G g → H g) → Share G p q → Share H p q
share_as f s = record { group = s.group; told = f s.group s.told; left = s.left; right = s.right }

decides_share : (head : Head) (list : List ℕ) (p q : ℕ) {b : Bool} → Decides b (Share (Contains (take head.count list)) p q)
    → Decides b (Share (Group (tells head list)) p q)
decides_share head list p q h =
    Decides-like _ (share_as (λ g c. (group_entry head list g).1 c)) (share_as (λ g t. (group_entry head list g).0 t)) h

decides_ground : (head : Head) (list : List ℕ) (p : ℕ) → p < head.outline.positions → (b : Bool) → Decides b (Share (Contains (take head.count list)) p p)
    → Decides (not b) (IsGround head.outline.positions (Group (tells head list)) p)
decides_ground head list p low b h =
    Decides-like (not b)
    (λ n. record { position = low; none = λ g t i. n (record { group = g; told = t; left = i; right = i }) })
    (λ g s. g.none s.group s.told s.left)
    (Decides-not b (decides_share head list p p h))

-- a question of an opened keeper
module _ (held : Option Head) (head : Head) (list : List ℕ) (is : held ≡ Some head) (some : 0 < head.outline.positions) (p : ℕ) where
  pub ground_answered : p < head.outline.positions → (groups : List ℕ) → groups ≡ take head.count list → (b : Bool) → Decides b (Share (Contains groups) p p)
      → Answers (ask_refusal (told_by held list) p) (IsGround (told_by held list).n (Group (told_by held list)) p) (Ok (not b))
  ground_answered low groups same b decides =
      subst (λ (o : Option Head). Answers (ask_refusal (told_by o list) p) (IsGround (told_by o list).n (Group (told_by o list)) p) (Ok (not b))) (sym is)
      (answer_ask (tells head list) p _ _ some low
      (decides_ground head list p low b (subst (λ (gs : List ℕ). Decides b (Share (Contains gs) p p)) same decides)))

  pub share_answered : (q : ℕ) → p < head.outline.positions → q < head.outline.positions → (groups : List ℕ) → groups ≡ take head.count list → (b : Bool)
      → Decides b (Share (Contains groups) p q) → Answers (pair_refusal (told_by held list) p q) (Share (Group (told_by held list)) p q) (Ok b)
  share_answered q low high groups same b decides =
      subst (λ (o : Option Head). Answers (pair_refusal (told_by o list) p q) (Share (Group (told_by o list)) p q) (Ok b)) (sym is)
      (answer_pair (tells head list) p q _ _ some low high
      (decides_share head list p q (subst (λ (gs : List ℕ). Decides b (Share (Contains gs) p q)) same decides)))
