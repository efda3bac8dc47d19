-- What a roll shows.
use Rattle.std.specs.Prelude.{ℕ, List, take}
use Rattle.roll.specs.declared.entries.Roll.{Roll}

-- every entry, in use or spare
abbrev pub slots : {X : Type 0} → Roll X → List X
slots roll = roll.entries.now

-- how many are in use
abbrev pub used_in : {X : Type 0} → Roll X → ℕ
used_in roll = roll.used

-- the entries in use
abbrev pub in_use : {X : Type 0} → Roll X → List X
in_use roll = take (used_in roll) (slots roll)

-- the loan of the memory, which a call that takes the roll leaves as it is
abbrev pub loan_of : {X : Type 0} → Roll X → ℕ
loan_of roll = roll.entries.ghost_name
