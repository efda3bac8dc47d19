-- What a summary holds is what occurs in the tree, and so in a bind's step.
use Rattle.std.proofs.Common.{◌≡◌, ℕ, ◌+◌, ◌-◌, ◌==◌, nat_lt, not, min, Bool, true, false, List, IfOk, Ok, Err, refl, sym, add-zero, add_assoc, zero-add, arith}
use Rattle.std.specs.Int.{bit_at}
use Rattle.std.proofs.lemmas.Bool.Decides.{nat_tests}
use Rattle.std.proofs.lemmas.Nat.Bits.{bit_at_and, bit_at_or, bit_at-zero, bit_at-pow_same, bit_at-pow_other}
use Rattle.domain.specs.declared.term.Term.{Term}
use Rattle.domain.specs.declared.refusal.Refusal.{Refusal}
use Rattle.domain.specs.declared.change.Change.TheVariants.{Bind}
use Rattle.sheet.specs.declared.steps.Step.{Step}
use Rattle.sheet.specs.declared.steps.Step.TheVariants.{Change}
use Rattle.reader.specs.declared.record.Record.{Record}
use Rattle.reader.specs.Reading.{Read, ◌>>=◌, refuse}
use Rattle.reader.specs.Payloads.{bind_of, SumsTerm}
use Rattle.reader.specs.Records.{record_at, payload, position_at}
use Rattle.reader.specs.Trees.{tree_of, sum_of, term_of, SumsUp}
use Rattle.reader.specs.declared.term.TheConstants.{DEEPEST}
use Rattle.domain.specs.Terms.{Tree, Args, position, constant, compound, none, more, occurrences, occurrences_in, constant_term, beside, summary, sum_onto, is_position, Sums}

-- the digits at p are those of a term that holds the position p n times
record Digits (p n : ℕ) (t : Term) : Type 0 where
  held : bit_at t.held p ≡ min 1 n
  repeated : bit_at t.repeated p ≡ min 1 (n - 1)

digits_constant : (p : ℕ) → Digits p 0 constant_term
digits_constant p = record { held = bit_at-zero p; repeated = bit_at-zero p }

-- repeated in all: repeated in either, or held by both
digits_beside : (p a b : ℕ) (s t : Term) → Digits p a s → Digits p b t → Digits p (a + b) (beside s t)
digits_beside p a b s t cs ct =
    record {
      held = rw (bit_at_or s.held t.held p, cs.held, ct.held) (omega arith);
      repeated =
          rw (bit_at_or, bit_at_or, bit_at_and, cs.held, ct.held, cs.repeated, ct.repeated) (omega arith);
    }

mutual
  counted : (tree : Tree) (p : ℕ) → Digits p (occurrences tree p) (summary tree)
  counted (position q) p =
      record {
        held = grind (arith, nat_tests, bit_at-pow_same, bit_at-pow_other);
        repeated = grind (arith, nat_tests, bit_at-zero);
      }
  counted (constant f) p = digits_constant p
  counted (compound f args) p = rw zero-add at (counted_args args p 0 constant_term (digits_constant p))

  counted_args : (args : Args) (p n : ℕ) (before : Term) → Digits p n before → Digits p (n + occurrences_in args p) (sum_onto args before)
  counted_args none p n before h = rw add-zero h
  counted_args (more t args) p n before h =
      rw add_assoc at
      (counted_args args p (n + occurrences t p) (beside before (summary t)) (digits_beside p n (occurrences t p) before (summary t) h (counted t p)))

not_bare : (args : Args) (before : Term) → before.bare ≡ false → (sum_onto args before).bare ≡ false
not_bare none before h = h
not_bare (more t args) before h = not_bare args (beside before (summary t)) refl

bare_of : (tree : Tree) → (summary tree).bare ≡ is_position tree
bare_of (position p) = refl
bare_of (constant f) = refl
bare_of (compound f args) = not_bare args constant_term refl

pub sums : (tree : Tree) → Sums tree (summary tree)
sums tree = (
  bare_of tree,
  (λ p. let h = counted tree p in ((λ i. omega (arith, i.digit)), (λ n. record { digit = omega arith }))),
  (λ p. let h = counted tree p in ((λ i. omega (arith, i.digit)), (λ n. record { digit = omega arith }))),
)

sums_read : (read : Read Tree) → IfOk (sum_of read) (λ t. (tree : Tree) × (read ≡ Ok tree) × Sums tree t)
sums_read (Ok tree) = (tree, refl, sums tree)
sums_read (Err e) = tt

pub sums_up : (bytes : List ℕ) (r : Record) (read : Read Term) → read ≡ term_of bytes r → SumsUp bytes r read
sums_up bytes r read e = rw e (sums_read (tree_of bytes DEEPEST r))

-- what holds of all that may come after a test or after a part holds of the whole
tested : {A : Type 0} (P : A → Type 0) (b : Bool) (e : Refusal) (place : ℕ) (later : Read A) → IfOk later P → IfOk (refuse b e place later) P
tested P true e place later h = tt
tested P false e place later h = h

after : {A B : Type 0} (P : B → Type 0) (f : A → Read B) (read : Read A) → ((a : A) → read ≡ Ok a → IfOk (f a) P) → IfOk (read >>= f) P
after P f (Ok a) h = h a refl
after P f (Err e) h = tt

-- a term that is read from the record at a place
summed_at : (bytes : List ℕ) (r : Record) (x : ℕ) (inner : Record) (t : Term) → record_at bytes (r.start + 1) r.end ≡ Ok inner → term_of bytes inner ≡ Ok t → SumsTerm bytes r (Change (Bind x t))
summed_at bytes r x inner t is read =
    let held = sums_up bytes inner (Ok t) (sym read) in (held.0, rw is held.1, held.2)

bind_of_sums : (bytes : List ℕ) (r : Record) → IfOk (bind_of bytes r) (SumsTerm bytes r)
bind_of_sums bytes r =
    tested (SumsTerm bytes r) (nat_lt (payload r) 5) _ _ _
    (after (SumsTerm bytes r) _ (position_at bytes r r.start) (λ x _.
    after (SumsTerm bytes r) _ (record_at bytes (r.start + 1) r.end) (λ inner is.
    after (SumsTerm bytes r) _ (term_of bytes inner) (λ t read.
    tested (SumsTerm bytes r) (not (inner.end == r.end)) _ _ (Ok (Change (Bind x t))) (summed_at bytes r x inner t is read)))))

pub bind_sums : (bytes : List ℕ) (r : Record) (read : Read Step) → read ≡ bind_of bytes r → IfOk read (SumsTerm bytes r)
bind_sums bytes r read e = rw e (bind_of_sums bytes r)
