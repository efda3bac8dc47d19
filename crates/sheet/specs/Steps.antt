-- Steps: the kind of each, and the groups that it has on its sheet.
use Rattle.std.specs.Prelude.{ℕ, ◌+◌, ◌*◌, ◌≤◌, List, length, IfSome, None, Option}
use Rattle.std.specs.Option.{option_map_or}
use Rattle.domain.specs.Changes.{groups_in}
use Rattle.sheet.specs.Kinds.{change_kind}
use Rattle.sheet.specs.declared.kind.StepKind.{StepKind}
use Rattle.sheet.specs.declared.kind.StepKind.TheVariants as kind
use Rattle.sheet.specs.declared.steps.Span.{Span}
use Rattle.sheet.specs.declared.steps.Step.{Step}
use Rattle.sheet.specs.declared.steps.Step.TheVariants.{Open, Change, Ask, End}

abbrev pub kind_of : Step → StepKind
kind_of (Open n) = kind.Open
kind_of (Change c) = change_kind c
kind_of (Ask q) = kind.Ask
kind_of End = kind.End

-- where on its sheet the step's groups lie, if it has any
abbrev pub span_of : Step → Option Span
span_of (Open n) = None
span_of (Change c) = groups_in c
span_of (Ask q) = None
span_of End = None

-- how many they are
abbrev pub group_count : Step → ℕ
group_count s = option_map_or (λ span. span.count) (span_of s) 0

-- they lie on the sheet
abbrev pub LiesOn : List ℕ → Step → Type 0
LiesOn sheet s = IfSome (span_of s) (λ span. span.start + 2 * span.count ≤ length sheet)
