-- What a keeper answers to a question, from the description that it tells.
use Rattle.std.specs.Prelude.{◌^◌, ◌<◌, Bool, Result}
use Rattle.domain.specs.Groups.{IsGround, Share}
use Rattle.domain.specs.Told.{Told, Group, IsFree, IsLinear}
use Rattle.keeper.specs.Calls.{Answers, ask_refusal, pair_refusal}
use Rattle.keeper.specs.declared.fault.KeeperFault.{KeeperFault}
use Rattle.keeper.specs.declared.questions.Question.{Question}
use Rattle.keeper.specs.declared.questions.Question.TheVariants.{Ground, Free, Linear, Pair}

-- each question answers from the description told
abbrev pub Asks : Told → Question → Result Bool KeeperFault → Type 0
Asks d (Ground p) r = Answers (ask_refusal d p) (IsGround d.n (Group d) p) r
Asks d (Free p) r = Answers (ask_refusal d p) (IsFree d p) r
Asks d (Linear p) r = Answers (ask_refusal d p) (IsLinear d p) r
Asks d (Pair p q) r = Answers (pair_refusal d p q) (Share (Group d) p q) r

-- the positions are in the range of their type
abbrev pub IsTypedQuestion : Question → Type 0
IsTypedQuestion (Ground p) = p < 2 ^ 8
IsTypedQuestion (Free p) = p < 2 ^ 8
IsTypedQuestion (Linear p) = p < 2 ^ 8
IsTypedQuestion (Pair p q) = (p < 2 ^ 8) × (q < 2 ^ 8)
