-- The computed core is the core.
use Rattle.std.proofs.Common.{◌≡◌, ℕ, ◌^◌, ◌<◌, true, ◌&&◌, ltb, ◌⊎◌, List, [], inl, inr, arith}
use Rattle.std.proofs.lemmas.Bool.{ltb-true, lt-ltb, eqb-true, eq-eqb}
use Rattle.domain.proofs.Bits.{in_pos, in_below, some_in, within_le}
use Rattle.domain.specs.Coverage.{Core, CoreList}
use Rattle.domain.proofs.Lists.{Listed, none, listed_core}
use Rattle.domain.specs.Masks.{In, Within, without}
use Rattle.domain.specs.Requests.{held_by}
use Rattle.worked.proofs.Verdicts.{marks_sharing}
use Rattle.worked.proofs.Gathering.{Lists, lists_as, Says, Which, keep, lists_keep, merged, lists_merged, merged_above}
use Rattle.worked.proofs.Positions.{has, says_has, says_contained, says_both, says_none, says_some, IsMaskOf, marks_self, marks_without, Held, marks_held}
use Rattle.worked.proofs.States.{sharing, inside, is_core, core_of}

module _ {P : ℕ → Type 0} {gs : List ℕ} (l : Lists P gs) where
  -- h lies strictly inside g
  abbrev pub Smaller : ℕ → ℕ → Type 0
  Smaller g h = Within h g × (h ≡ g → ⊥)

  pub lists_inside : (g : ℕ) → Lists (Which P (Smaller g)) (inside gs g)
  unfolding inside
  lists_inside g =
      lists_keep {Q = Smaller g}
      (λ h. says_both (says_contained h g) (says_none (record { yes = eqb-true h g; no = eq-eqb h g }))) l

  -- q is a position of g that no group strictly inside g holds together with p
  abbrev Open : ℕ → ℕ → ℕ → Type 0
  Open g p q = In q g × (Held (Which (Which P (Smaller g)) (In p)) q → ⊥)

  marks_open : (g p : ℕ) → IsMaskOf (Open g p) (without g (sharing (inside gs g) p))
  marks_open g p = marks_without (marks_self g) (marks_sharing (lists_inside g) p)

  says_open : (g p : ℕ) → Says (has p g && ltb 0 (without g (sharing (inside gs g) p))) (In p g × ((q : ℕ) × Open g p q))
  says_open g p =
      says_both (says_has p g)
      (record {
        yes = λ e. let r = some_in (without g (sharing (inside gs g) p)) (ltb-true 0 (without g (sharing (inside gs g) p)) e) in (r.0, (marks_open g p).only r.1);
        no = λ r. lt-ltb 0 (without g (sharing (inside gs g) p)) (in_pos ((marks_open g p).all r.1));
      })

  says_core : (n : ℕ) (g : ℕ) → Says (is_core n gs g) ((p : ℕ) × (p < n) × (In p g × ((q : ℕ) × Open g p q)))
  unfolding is_core
  says_core n g = says_some n (says_open g)

  module _ (n : ℕ) (in_range : (g : ℕ) → P g → g < 2 ^ n) where
    lists_core : Lists (Core P) (keep (is_core n gs) gs)
    lists_core = lists_as to from (lists_keep {Q = λ g. (p : ℕ) × (p < n) × (In p g × ((q : ℕ) × Open g p q))} (says_core n) l)
      where
        to : (g : ℕ) → Which P (λ g. (p : ℕ) × (p < n) × (In p g × ((q : ℕ) × Open g p q))) g → Core P g
        to g w =
            let r = w.holds in
            record {
              told = w.told;
              p = r.0;
              q = r.2.1.0;
              left = r.2.0;
              right = r.2.1.1.0;
              uncovered =
                  λ h k u ne i j.
                  r.2.1.1.1 (record { group = h; told = record { told = record { told = k; holds = (u, ne) }; holds = i }; holds = j });
            }

        from : (g : ℕ) → Core P g → Which P (λ g. (p : ℕ) × (p < n) × (In p g × ((q : ℕ) × Open g p q))) g
        from g c =
            record {
              told = c.told;
              holds = (
                c.p,
                in_below n c.left (in_range g c.told),
                (
                  c.left,
                  (
                    c.q,
                    (
                      c.right,
                      λ h.
                          c.uncovered h.group h.told.told.told h.told.told.holds.0 h.told.told.holds.1 h.told.holds h.holds,
                    ),
                  ),
                ),
              );
            }

    pub core_list : CoreList P (core_of n gs)
    unfolding core_of
    core_list =
        listed_core (λ g k. elim (all.only k) [ inl c ↦ c | inr e ↦ elim e [ ] ]) (λ g c. all.all (inl c))
        (merged_above (keep (is_core n gs) gs) (λ g k. in_pos (lists_core.only k).left) none)
      where
        empty : Lists (λ g. Listed g []) []
        empty = record { only = λ k. k; all = λ k. k }

        all : Lists (λ g. Core P g ⊎ Listed g []) (merged (keep (is_core n gs) gs) [])
        all = lists_merged lists_core empty

-- the core of a list whose groups hold positions below n alone
pub core_within : {P : ℕ → Type 0} {gs : List ℕ} (n : ℕ) → Lists P gs → ltb (held_by gs) (2 ^ n) ≡ true → CoreList P (core_of n gs)
core_within {P} {gs} n l h = core_list l n below
  where
    below : (g : ℕ) → P g → g < 2 ^ n
    below g k =
        let w : Within g (held_by gs) = record { each = λ p i. (marks_held l).all (record { group = g; told = k; holds = i }) } in
        omega (arith, within_le w, ltb-true (held_by gs) (2 ^ n) h)
