-- A join from its parts, and that it keeps the rules.
use Rattle.std.proofs.Common.{◌≡◌, ℕ, ◌-◌, ◌/◌, ◌^◌, ◌<◌, ◌≤◌, true, false, not, ◌||◌, ltb, ◌⊎◌, List, [], ◌∷◌, length, Contains, None, sym, refl, ◌∙◌, inl, inr, arith}
use lib.Bits.{bit_and, bit_or, or_zero_r}
use Rattle.std.specs.List.{fold}
use Rattle.std.proofs.lemmas.Bool.{and_parts, or_parts, not-true, not-false, ltb-true, ltb-false, leb-false, eqb-true}
use Rattle.domain.proofs.Lists.{Listed, contains, listed}
use Rattle.domain.proofs.Lists.Listed.{here, there}
use Rattle.domain.specs.Groups.{IsGround}
use Rattle.domain.specs.Joining.{Joined, LawfulListing}
use Rattle.domain.specs.Masks.{In, is_within, without}
use Rattle.domain.specs.Refusals.{first_of}
use Rattle.domain.specs.Requests.{ascend, held_by, ill_marks, reaches, bytes_for, join_tests}
use Rattle.domain.specs.Tables.{holds_bit, TableGroup, told_of}
use Rattle.domain.specs.Told.{Told, Group, Lawful}
use Rattle.domain.specs.declared.limits.TheConstants.{MOST_POSITIONS}
use Rattle.domain.specs.declared.listing.Listing.{Listing}
use Rattle.domain.specs.declared.marks.Marks.{Marks}
use Rattle.domain.proofs.Bits.{and_within, in_first, in_second, in_both, in_either, none_in, in_lacking, in_all, in_below, below_lt, or_assoc}
use Rattle.domain.proofs.Laws.{group_of, of_group}
use Rattle.domain.proofs.Refusing.{passed}
use Rattle.domain.proofs.Tables.{room_for}

-- the new table has the groups of the old one and those of the list
pub joined_of :
    (n : ℕ) (old new : List ℕ) (m : Marks) (other : Listing (List ℕ)) → n ≤ MOST_POSITIONS → bytes_for n ≤ length old
    → ((g : ℕ) → Contains other.groups g → (0 < g) × (g < 2 ^ n))
    → ((g : ℕ) → g / 8 < length old → Contains other.groups g → holds_bit new g ≡ true)
    → ((g : ℕ) → holds_bit old g ≡ true → holds_bit new g ≡ true)
    → ((g : ℕ) → holds_bit new g ≡ true → (holds_bit old g ≡ true) ⊎ Contains other.groups g)
    → Joined (told_of n old m) other (told_of n new (record { free = bit_and m.free other.marks.free; linear = bit_and m.linear other.marks.linear }))
joined_of n old new m other few room range put grown only =
    record {
      positions = refl;
      groups_made = λ g k. made g k;
      groups_only = λ g k. let r = of_group n new g k in was g r.0 r.1 (only g r.2);
      free_common = λ p i j. in_both i j;
      free_only = λ p i. (in_first m.free other.marks.free i, in_second m.free other.marks.free i);
      linear_common = λ p i j. in_both i j;
      linear_only = λ p i. (in_first m.linear other.marks.linear i, in_second m.linear other.marks.linear i);
    }
  where
    made : (g : ℕ) → TableGroup n old g ⊎ Contains other.groups g → TableGroup n new g
    made g (inl k) = let r = of_group n old g k in group_of n new g r.0 r.1 (grown g r.2)
    made g (inr k) =
        let r = range g k in group_of n new g r.0 r.1 (put g (room_for n g (length old) few r.1 room) k)

    was : (g : ℕ) → 0 < g → g < 2 ^ n → (holds_bit old g ≡ true) ⊎ Contains other.groups g → TableGroup n old g ⊎ Contains other.groups g
    was g some below (inl e) = inl (group_of n old g some below e)
    was g some below (inr k) = inr k

-- a join keeps the rules
pub join_lawful : {d e : Told} {other : Listing (List ℕ)} → Lawful d → LawfulListing d.n other → Joined d other e → Lawful e
join_lawful {d} {e} {other} l k j =
    record {
      some_positions = rw j.positions l.some_positions;
      few_positions = rw j.positions l.few_positions;
      in_range =
          λ g t.
          rw j.positions (elim (j.groups_only g t) [ inl h ↦ l.in_range g h | inr h ↦ k.in_range g h ]);
      marks = record {
        linear_in_range = rw j.positions (below_lt e.marks.linear d.n (λ p i. in_below d.n (j.linear_only p i).0 l.marks.linear_in_range));
        free_is_linear =
            λ p i.
            let h = j.free_only p i in
            j.linear_common p (l.marks.free_is_linear p h.0) (k.marks.free_is_linear p h.1);
        ground_is_linear =
            λ p g.
            j.linear_common p (l.marks.ground_is_linear p (was g))
            (k.marks.ground_is_linear p
            (record { position = rw j.positions at g.position; none = λ h m. g.none h (j.groups_made h (inr m)) }));
        free_is_not_ground = λ p i g. l.marks.free_is_not_ground p (j.free_only p i).0 (was g);
      };
    }
  where
    was : {p : ℕ} → IsGround e.n (Group e) p → IsGround d.n (Group d) p
    was g =
        record {
          position = rw j.positions at g.position;
          none = λ h t. g.none h (j.groups_made h (inl t));
        }

-- what the tests of a join let through

pub ascend_range : (n last : ℕ) (hs : List ℕ) → ascend n last hs ≡ true → (g : ℕ) → Listed g hs → (last < g) × (g < 2 ^ n)
ascend_range n last [] h g l = elim l [ ]
ascend_range n last (k ∷ hs) h g here =
    let a = and_parts (ltb last k) _ h in
    let b = and_parts (not (reaches n k)) _ a.1 in
    (ltb-true last k a.0, leb-false (2 ^ n) k (not-true (reaches n k) b.0))
ascend_range n last (k ∷ hs) h g (there l) =
    let a = and_parts (ltb last k) _ h in
    let b = and_parts (not (reaches n k)) _ a.1 in
    let rest = ascend_range n k hs b.1 g l in
    (omega (arith, ltb-true last k a.0, rest.0), rest.1)

-- a position of held_by is one that some group of the list holds
pub held_listed : (hs : List ℕ) (p : ℕ) → In p (held_by hs) → (g : ℕ) × Listed g hs × In p g
held_listed [] p i = absurd (none_in i)
held_listed (h ∷ hs) p i = go (in_either h (held_by hs) i) (held_listed hs p)
  where
    go : In p h ⊎ In p (held_by hs) → (In p (held_by hs) → (g : ℕ) × Listed g hs × In p g) → (g : ℕ) × Listed g (h ∷ hs) × In p g
    go (inl i) rest = (h, here, i)
    go (inr i) rest = let r = rest i in (r.0, there r.1, r.2)

-- the union of a list, taken from the left
pub fold_held : (a : ℕ) (hs : List ℕ) → fold (λ m h. bit_or m h) a hs ≡ bit_or a (held_by hs)
fold_held a [] = sym (or_zero_r a)
fold_held a (h ∷ hs) = fold_held (bit_or a h) hs ∙ or_assoc a h (held_by hs)

within_contained : (a b : ℕ) → is_within a b ≡ true → (p : ℕ) → In p a → In p b
within_contained a b h p i = (and_within a b (eqb-true (bit_and a b) a h)).each p i

-- they are a description of their own
pub listing_lawful : (n : ℕ) (other : Listing (List ℕ)) → ascend n 0 other.groups ≡ true
    → ill_marks n other.marks (held_by other.groups) ≡ false → LawfulListing n other
listing_lawful n other ascends ill =
    let f = other.marks.free in
    let l = other.marks.linear in
    let hs = other.groups in
    let m = or_parts (reaches n f || reaches n l) _ ill in
    let r = or_parts (reaches n f) _ m.0 in
    let k = and_parts (is_within f l) _ (not-false _ m.1) in
    let e = and_parts (is_within (without (2 ^ n - 1) (held_by hs)) l) _ k.1 in
    record {
      in_range = λ g c. ascend_range n 0 hs ascends g (listed hs g c);
      marks = record {
        linear_in_range = leb-false (2 ^ n) l r.1;
        free_is_linear = within_contained f l k.0;
        ground_is_linear = λ p g. within_contained (without (2 ^ n - 1) (held_by hs)) l e.0 p
            (in_lacking (in_all p n g.position) (λ q. let w = held_listed hs p q in g.none w.0 (contains w.1) w.2));
        free_is_not_ground = λ p i g.
            let w = held_listed hs p (within_contained f (held_by hs) e.1 p i) in g.none w.0 (contains w.1) w.2;
      };
    }

-- and there is room
pub join_allowed : (n : ℕ) (other : Listing (List ℕ)) (scratch : ℕ) → None ≡ first_of (join_tests n other scratch)
    → LawfulListing n other × (bytes_for n ≤ scratch)
join_allowed n other scratch h =
    let a = passed _ _ _ h in
    let b = passed _ _ _ a.1 in
    let c = passed _ _ _ b.1 in
    (listing_lawful n other (not-false _ a.0) b.0, ltb-false scratch (bytes_for n) c.0)
