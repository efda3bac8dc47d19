-- Closures inside a mask u, tested by the hull: u is a union of groups exactly where their hull in u is u.
use Rattle.std.proofs.Common.{◌≡◌, ℕ, zero, suc, ◌<◌, refl, ap, ◌∙◌, subst, arith}
use lib.Bits.{bit_or}
use Rattle.domain.specs.Masks.{Within}
use Rattle.domain.specs.Groups.{Paired, Closure, Extended}
use Rattle.domain.specs.Groups.Closure.{one, more}
use Rattle.domain.specs.Groups.Extended.{alone, joined}
use Rattle.domain.specs.Filling.{Hull, Filled, FilledBoth}
use Rattle.domain.proofs.Bits.{within_le, within_self, within_trans, within_left, within_right, union_within, union_grows, same_mask, or_comm}

-- A is part of B
abbrev pub Sub : (ℕ → Type 0) → (ℕ → Type 0) → Type 0
Sub A B = (g : ℕ) → A g → B g

-- some group of A inside u
pub record Inside (A : ℕ → Type 0) (u : ℕ) : Type 0 where
  pub group : ℕ
  pub told : A group
  pub inside : Within group u

pub inside_more : {A : ℕ → Type 0} {u v : ℕ} → Inside A u → Within u v → Inside A v
inside_more s w = record { group = s.group; told = s.told; inside = within_trans s.inside w }

pub closure_like : {A B : ℕ → Type 0} {u : ℕ} → Sub A B → Closure A u → Closure B u
closure_like f (one {g} a) = one (f g a)
closure_like f (more {g} a c) = more (f g a) (closure_like f c)

pub closure_some : {A : ℕ → Type 0} {u : ℕ} → Closure A u → Inside A u
closure_some (one {g} a) = record { group = g; told = a; inside = within_self g }
closure_some (more {g} {h} a c) = record { group = g; told = a; inside = within_left g h }

pub closure_hull : {A : ℕ → Type 0} {u h c : ℕ} → Hull A u h → Closure A c → Within c u → Within c h
closure_hull hull (one {g} a) w = hull.holds g a w
closure_hull hull (more {g} {h} a c) w =
    union_within (hull.holds g a (within_trans (within_left g h) w)) (closure_hull hull c (within_trans (within_right g h) w))

-- an extended group is one group and part of the hull of the shared ones
pub record Part (A : ℕ → Type 0) (h e : ℕ) : Type 0 where
  pub group : ℕ
  pub told : A group
  pub inside : Within group e
  pub covers : Within e (bit_or h group)

pub extended_part : {A S : ℕ → Type 0} {u h e : ℕ} → Hull S u h → Within e u → Extended A S e → Part A h e
extended_part {A} {S} {u} {h} {e} hull w (alone a) =
    record { group = e; told = a; inside = within_self e; covers = within_right h e }
extended_part {A} {S} {u} {h} {e} hull w (joined p) =
    record { group = p.left; told = p.in_left; inside = left; covers = subst (λ m. Within m (bit_or h p.left)) p.whole both }
  where
    left : Within p.left e
    left = subst (Within p.left) p.whole (within_left p.left p.right)

    right : Within p.right e
    right = subst (Within p.right) p.whole (within_right p.left p.right)

    both : Within (bit_or p.left p.right) (bit_or h p.left)
    both =
        union_within (within_right h p.left)
        (within_trans (closure_hull hull p.in_right (within_trans right w)) (within_left h p.left))

pub pair_left : {A B : ℕ → Type 0} {u : ℕ} (p : Paired A B u) → Within p.left u
pair_left p = subst (Within p.left) p.whole (within_left p.left p.right)

pub pair_right : {A B : ℕ → Type 0} {u : ℕ} (p : Paired A B u) → Within p.right u
pair_right p = subst (Within p.right) p.whole (within_right p.left p.right)

pub pair_swap : {A B : ℕ → Type 0} {u : ℕ} → Paired A B u → Paired B A u
pair_swap p =
    record { left = p.right; right = p.left; in_left = p.in_right; in_right = p.in_left; whole = or_comm p.right p.left ∙ p.whole }

-- u, by what it is united of
whole_of : {A B : ℕ → Type 0} {u c : ℕ} (p : Paired A B u) → Within c u → Within p.left c → Within p.right c → c ≡ u
whole_of {A} {B} {u} {c} p w l r =
    same_mask w (subst (λ m. Within m c) p.whole (union_within l r))

-- one group of each

pub two_paired : {A B : ℕ → Type 0} {u : ℕ} → FilledBoth A B 0 u → Paired A B u
two_paired f =
    record {
      left = f.group;
      right = f.fills.rest.group;
      in_left = f.fills.told;
      in_right = f.fills.rest.fills.told;
      whole = f.fills.rest.fills.whole;
    }

pub paired_two : {A B : ℕ → Type 0} {u : ℕ} → Paired A B u → FilledBoth A B 0 u
paired_two p =
    record {
      group = p.left;
      fills =
          record {
            told = p.in_left;
            inside = pair_left p;
            rest = record { group = p.right; fills = record { told = p.in_right; inside = pair_right p; whole = p.whole } };
          };
    }

-- one group of each, and the hull of the shared ones

pub both_extended : {A B S : ℕ → Type 0} {u h : ℕ} → Hull S u h → FilledBoth A B h u → Paired (Extended A S) (Extended B S) u
both_extended {A} {B} {S} {u} {h} hull f = go h hull.made f.fills.rest.fills.whole
  where
    a : ℕ
    a = f.group

    b : ℕ
    b = f.fills.rest.group

    go : (h : ℕ) → (0 < h → Closure S h) → bit_or (bit_or h a) b ≡ u → Paired (Extended A S) (Extended B S) u
    go zero made e =
        record { left = a; right = b; in_left = alone f.fills.told; in_right = alone f.fills.rest.fills.told; whole = e }
    go (suc h) made e =
        record {
          left = bit_or a (suc h);
          right = b;
          in_left = joined (record { left = a; right = suc h; in_left = f.fills.told; in_right = made (omega arith); whole = refl });
          in_right = alone f.fills.rest.fills.told;
          whole = ap (λ m. bit_or m b) (or_comm a (suc h)) ∙ e;
        }

pub extended_both : {A B S : ℕ → Type 0} {u h : ℕ} → Hull S u h → Paired (Extended A S) (Extended B S) u → FilledBoth A B h u
extended_both {A} {B} {S} {u} {h} hull p =
    let l = extended_part hull (pair_left p) p.in_left in
    let r = extended_part hull (pair_right p) p.in_right in
    let a = l.group in
    let b = r.group in
    let a_in = within_trans l.inside (pair_left p) in
    let b_in = within_trans r.inside (pair_right p) in
    record {
      group = a;
      fills =
          record {
            told = l.told;
            inside = a_in;
            rest =
                record {
                  group = b;
                  fills =
                      record {
                        told = r.told;
                        inside = b_in;
                        whole =
                            whole_of p (union_within (union_within hull.inside a_in) b_in)
                            (within_trans l.covers (within_left (bit_or h a) b))
                            (within_trans r.covers (union_grows (within_left h a) (within_self b)));
                      };
                };
          };
    }

-- the closure of one side: its hull, and one group of the other

module _ {A : ℕ → Type 0} (pos : (g : ℕ) → A g → 0 < g) where
  pub hull_some : {u h : ℕ} → Hull A u h → Inside A u → 0 < h
  hull_some hull s = omega (arith, pos s.group s.told, within_le (hull.holds s.group s.told s.inside))

  pub one_closed : {B S : ℕ → Type 0} {u h : ℕ} → Hull A u h → 0 < h → Filled B h u → Paired (Closure A) (Extended B S) u
  one_closed {B} {S} {u} {h} hull some f =
      record {
        left = h;
        right = f.group;
        in_left = hull.made some;
        in_right = alone f.fills.told;
        whole = f.fills.whole;
      }

  pub closed_some : {C : ℕ → Type 0} {u h : ℕ} → Hull A u h → Paired (Closure A) C u → 0 < h
  closed_some hull p = hull_some hull (inside_more (closure_some p.in_left) (pair_left p))

  pub closed_one : {B S : ℕ → Type 0} {u h : ℕ} → Sub S A → Hull A u h → Paired (Closure A) (Extended B S) u → Filled B h u
  closed_one {B} {S} {u} {h} sub hull p =
      let r = part p.right (pair_right p) p.in_right in
      let b_in = within_trans r.inside (pair_right p) in
      record {
        group = r.group;
        fills =
            record {
              told = r.told;
              inside = b_in;
              whole =
                  whole_of p (union_within hull.inside b_in)
                  (within_trans (closure_hull hull p.in_left (pair_left p)) (within_left h r.group))
                  r.covers;
            };
      }
    where
      part : (e : ℕ) → Within e u → Extended B S e → Part B h e
      part e w (alone b) = record { group = e; told = b; inside = within_self e; covers = within_right h e }
      part e w (joined q) =
          record {
            group = q.left;
            told = q.in_left;
            inside = pair_left q;
            covers =
                subst (λ m. Within m (bit_or h q.left)) q.whole
                (union_within (within_right h q.left)
                (within_trans (closure_hull hull (closure_like sub q.in_right) (within_trans (pair_right q) w)) (within_left h q.left)));
          }

-- the closures of both sides

pub hulls_closed : {A B : ℕ → Type 0} {u h k : ℕ} → Hull A u h → Hull B u k → 0 < h → 0 < k → bit_or h k ≡ u → Paired (Closure A) (Closure B) u
hulls_closed {A} {B} {u} {h} {k} hull other h_some k_some whole =
    record { left = h; right = k; in_left = hull.made h_some; in_right = other.made k_some; whole = whole }

pub closed_hulls : {A B : ℕ → Type 0} {u h k : ℕ} → Hull A u h → Hull B u k → Paired (Closure A) (Closure B) u → bit_or h k ≡ u
closed_hulls {A} {B} {u} {h} {k} hull other p =
    whole_of p (union_within hull.inside other.inside)
    (within_trans (closure_hull hull p.in_left (pair_left p)) (within_left h k))
    (within_trans (closure_hull other p.in_right (pair_right p)) (within_right h k))

-- the same groups, told in another way

pub hull_like : {A B : ℕ → Type 0} {u h : ℕ} → Sub A B → Sub B A → Hull A u h → Hull B u h
hull_like to from hull =
    record { inside = hull.inside; holds = λ g b w. hull.holds g (from g b) w; made = λ k. closure_like to (hull.made k) }

pub filled_like : {A B : ℕ → Type 0} {base u : ℕ} → Sub A B → Filled A base u → Filled B base u
filled_like to f =
    record { group = f.group; fills = record { told = to f.group f.fills.told; inside = f.fills.inside; whole = f.fills.whole } }

pub both_like : {A B C D : ℕ → Type 0} {base u : ℕ} → Sub A C → Sub B D → FilledBoth A B base u → FilledBoth C D base u
both_like l r f =
    record {
      group = f.group;
      fills = record { told = l f.group f.fills.told; inside = f.fills.inside; rest = filled_like r f.fills.rest };
    }
