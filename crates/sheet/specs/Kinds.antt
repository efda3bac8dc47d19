-- The kinds of steps, each with its number and its printed name.
use Rattle.std.specs.Prelude.{ℕ, if◌then◌else◌, List, [], ◌∷◌, Some, None, codes, Option, ◌==◌}
use Rattle.domain.specs.declared.change.Change.{Change}
use Rattle.domain.specs.declared.change.Change.TheVariants as change
use Rattle.sheet.specs.declared.kind.StepKind.{StepKind}
use Rattle.sheet.specs.declared.kind.StepKind.TheVariants.{Open, Bind, Join, Forget, Ask, End}

abbrev pub step_number : StepKind → ℕ
step_number Open = 1
step_number Bind = 2
step_number Join = 3
step_number Forget = 4
step_number Ask = 5
step_number End = 6

abbrev pub step_name : StepKind → List ℕ
step_name Open = codes "open"
step_name Bind = codes "bind"
step_name Join = codes "join"
step_name Forget = codes "forget"
step_name Ask = codes "ask"
step_name End = codes "end"

-- the first of some kinds that has the number
abbrev pub of_number : {K : Type 0} → (K → ℕ) → List K → ℕ → Option K
of_number number [] n = None
of_number number (k ∷ ks) n = (if n == number k then Some k else of_number number ks n)

abbrev pub step_kind : ℕ → Option StepKind
step_kind n = of_number step_number (Open ∷ (Bind ∷ (Join ∷ (Forget ∷ (Ask ∷ (End ∷ [])))))) n

-- the kind of a step that makes this change
abbrev pub change_kind : {G : Type 0} → Change G → StepKind
change_kind (change.Bind x t) = Bind
change_kind (change.Join other) = Join
change_kind (change.Forget m) = Forget
