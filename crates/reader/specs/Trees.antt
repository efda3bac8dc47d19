-- Reading a term: the tree that the bytes of its record hold, or the first fault.
use Rattle.std.specs.Prelude.{◌≡◌, ℕ, zero, suc, ◌+◌, not, if◌then◌else◌, List, IfOk, Some, None, Ok, Option, ◌==◌, nat_lt}
use Rattle.domain.specs.declared.refusal.Refusal.TheVariants.{Kind, Length, Depth}
use Rattle.domain.specs.declared.term.Term.{Term}
use Rattle.reader.specs.declared.record.Record.{Record}
use Rattle.reader.specs.declared.term.TheConstants.{DEEPEST}
use Rattle.reader.specs.declared.term.TermKind.{TermKind}
use Rattle.reader.specs.declared.term.TermKind.TheVariants.{Position, Constant, Compound}
use Rattle.reader.specs.Reading.{Read, ◌>>=◌, fault, refuse}
use Rattle.reader.specs.TermKinds.{term_kind}
use Rattle.reader.specs.Records.{pair_at, record_at, payload, position_at}
use Rattle.domain.specs.Terms.{Tree, Args, position, constant, compound, none, more, summary, sum_onto, Sums}

abbrev pub position_of : List ℕ → Record → Read Tree
position_of bytes r =
    refuse (not (payload r == 1)) Length r.place
    (position_at bytes r r.start >>= λ p. Ok (position p))

abbrev pub constant_of : List ℕ → Record → Read Tree
constant_of bytes r =
    refuse (not (payload r == 2)) Length r.place (Ok (constant (pair_at bytes r.start)))

-- a compound, where `inner` reads what it holds
abbrev pub compound_by : List ℕ → (Record → Read Tree) → Record → Read Tree
compound_by bytes inner r = refuse (nat_lt (payload r) 6) Length r.place (inner r)

-- a term by its kind, where `inner` reads what a compound holds
abbrev pub tree_by : List ℕ → (Record → Read Tree) → Record → Option TermKind → Read Tree
tree_by bytes inner r None = fault Kind r.place
tree_by bytes inner r (Some Position) = position_of bytes r
tree_by bytes inner r (Some Constant) = constant_of bytes r
tree_by bytes inner r (Some Compound) = compound_by bytes inner r

-- the terms from a place to an end, each read by `tree`, in at most so many turns
unfoldable pub args_by : List ℕ → (Record → Read Tree) → ℕ → ℕ → ℕ → Read Args
args_by bytes tree zero at end = Ok none
args_by bytes tree (suc turns) at end =
    (if at == end then Ok none
    else (record_at bytes at end >>= λ r.
    tree r >>= λ t.
    args_by bytes tree turns r.end end >>= λ ts.
    Ok (more t ts)))

-- the terms after the functor number. No record is empty, so as many turns as bytes are enough
abbrev pub args_of : List ℕ → (Record → Read Tree) → Record → Read Args
args_of bytes tree r = args_by bytes tree (payload r) (r.start + 2) r.end

-- a compound, where `depth` may nest, this one counted
unfoldable pub compound_of : List ℕ → ℕ → Record → Read Tree
compound_of bytes zero r = fault Depth r.place
compound_of bytes (suc depth) r =
    args_of bytes (λ x. tree_by bytes (compound_of bytes depth) x (term_kind x.kind)) r >>= λ args.
    Ok (compound (pair_at bytes r.start) args)

-- the term of a record
abbrev pub tree_of : List ℕ → ℕ → Record → Read Tree
tree_of bytes depth r = tree_by bytes (compound_of bytes depth) r (term_kind r.kind)

-- the term of the record at a place
abbrev pub tree_at : List ℕ → ℕ → ℕ → ℕ → Read Tree
tree_at bytes depth at end = record_at bytes at end >>= tree_of bytes depth

-- what a bind has to know of the term that is read
abbrev pub sum_of : Read Tree → Read Term
sum_of read = read >>= λ tree. Ok (summary tree)

-- the same of terms that are read, beside what came before them
abbrev pub onto : Term → Read Args → Read Term
onto before read = read >>= λ args. Ok (sum_onto args before)

abbrev pub term_of : List ℕ → Record → Read Term
term_of bytes r = sum_of (tree_of bytes DEEPEST r)

-- the law of what is read: it sums up the term that the bytes hold
abbrev pub SumsUp : List ℕ → Record → Read Term → Type 0
SumsUp bytes r read = IfOk read (λ t. (tree : Tree) × (tree_of bytes DEEPEST r ≡ Ok tree) × Sums tree t)
