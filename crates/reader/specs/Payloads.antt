-- The step that the payload of a record holds, or the first fault.
use Rattle.std.specs.Prelude.{◌≡◌, ℕ, ◌+◌, ◌-◌, ◌/◌, ◌%◌, if◌then◌else◌, not, ◌||◌, List, Ok, ◌==◌, nat_lt}
use Rattle.domain.specs.Terms.{Tree, Sums}
use Rattle.domain.specs.declared.change.Change.{Change}
use Rattle.domain.specs.declared.change.Change.TheVariants as change
use Rattle.domain.specs.declared.refusal.Refusal.TheVariants.{Length, Letter}
use Rattle.keeper.specs.declared.questions.Question.{Question}
use Rattle.keeper.specs.declared.questions.Question.TheVariants.{Ground, Free, Linear, Pair}
use Rattle.sheet.specs.declared.kind.StepKind.{StepKind}
use Rattle.sheet.specs.declared.kind.StepKind.TheVariants.{Open, Bind, Join, Forget, Ask, End}
use Rattle.sheet.specs.declared.steps.Span.{Span}
use Rattle.sheet.specs.declared.steps.Step.{Step}
use Rattle.sheet.specs.declared.steps.Step.TheVariants as step
use Rattle.reader.specs.Reading.{Read, ◌>>=◌, fault, refuse}
use Rattle.reader.specs.Records.{byte_at, pair_at, record_at, payload, position_at}
use Rattle.reader.specs.Heads.{Head}
use Rattle.reader.specs.Trees.{term_of, tree_at}
use Rattle.reader.specs.declared.record.Record.{Record}
use Rattle.reader.specs.declared.term.TheConstants.{DEEPEST}

-- the position after the letter, and nothing more
abbrev pub one_of : List ℕ → Record → Read ℕ
one_of bytes r = refuse (not (payload r == 2)) Length r.place (position_at bytes r (r.start + 1))

-- the two positions after the letter
abbrev pub two_of : List ℕ → Record → Read (ℕ × ℕ)
two_of bytes r =
    refuse (not (payload r == 3)) Length r.place
    (position_at bytes r (r.start + 1) >>= λ a. position_at bytes r (r.start + 2) >>= λ b. Ok (a, b))

-- a question by its letter: g is 103, f 102, l 108 and p 112
abbrev pub question_by : List ℕ → Record → ℕ → Read Question
question_by bytes r letter =
    (if letter == 103 then (one_of bytes r >>= λ p. Ok (Ground p))
    else if letter == 102 then (one_of bytes r >>= λ p. Ok (Free p))
    else if letter == 108 then (one_of bytes r >>= λ p. Ok (Linear p))
    else if letter == 112 then (two_of bytes r >>= λ ab. Ok (Pair ab.0 ab.1))
    else fault Letter r.place)

abbrev pub question_of : List ℕ → Record → Read Question
question_of bytes r = question_by bytes r (byte_at bytes r.start)

abbrev pub open_of : List ℕ → Record → Read Step
open_of bytes r = refuse (not (payload r == 1)) Length r.place (Ok (step.Open (byte_at bytes r.start)))

abbrev pub bind_of : List ℕ → Record → Read Step
bind_of bytes r =
    refuse (nat_lt (payload r) 5) Length r.place
    (position_at bytes r r.start >>= λ x.
    record_at bytes (r.start + 1) r.end >>= λ inner.
    term_of bytes inner >>= λ t.
    refuse (not (inner.end == r.end)) Length r.place
    (Ok (step.Change (change.Bind x t))))

-- two masks, and then the groups
abbrev pub join_of : List ℕ → Record → Read Step
join_of bytes r =
    refuse (nat_lt (payload r) 4 || not (payload r % 2 == 0)) Length r.place
    (Ok (step.Change (change.Join (record {
      marks = record { free = pair_at bytes r.start; linear = pair_at bytes (r.start + 2) };
      groups = record { start = r.start + 4; count = (payload r - 4) / 2 };
    }))))

-- the mask of the positions
abbrev pub forget_of : List ℕ → Record → Read Step
forget_of bytes r =
    refuse (not (payload r == 2)) Length r.place (Ok (step.Change (change.Forget (pair_at bytes r.start))))

abbrev pub ask_of : List ℕ → Record → Read Step
ask_of bytes r =
    refuse (nat_lt (payload r) 2 || nat_lt 3 (payload r)) Length r.place
    (question_of bytes r >>= λ q. Ok (step.Ask q))

abbrev pub end_of : Record → Read Step
end_of r = refuse (not (payload r == 0)) Length r.place (Ok step.End)

-- the step of a record, by its kind
abbrev pub payload_of : List ℕ → Record → StepKind → Read Step
payload_of bytes r Open = open_of bytes r
payload_of bytes r Bind = bind_of bytes r
payload_of bytes r Join = join_of bytes r
payload_of bytes r Forget = forget_of bytes r
payload_of bytes r Ask = ask_of bytes r
payload_of bytes r End = end_of r

abbrev pub step_of : List ℕ → Head → Read Step
step_of bytes head = payload_of bytes head.frame head.kind

-- the term of a bind sums up the tree that the payload holds after the position
abbrev pub SumsIn : List ℕ → Record → Change Span → Type 0
SumsIn bytes r (change.Bind x t) =
    (tree : Tree) × (tree_at bytes DEEPEST (r.start + 1) r.end ≡ Ok tree) × Sums tree t
SumsIn bytes r (change.Join other) = Unit {0}
SumsIn bytes r (change.Forget m) = Unit {0}

-- the law of a step that is read
abbrev pub SumsTerm : List ℕ → Record → Step → Type 0
SumsTerm bytes r (step.Open n) = Unit {0}
SumsTerm bytes r (step.Change c) = SumsIn bytes r c
SumsTerm bytes r (step.Ask q) = Unit {0}
SumsTerm bytes r step.End = Unit {0}
