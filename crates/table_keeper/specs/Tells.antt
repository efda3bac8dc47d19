-- What a table keeper tells.
use native.Mathlib.Nat.{lt_irrefl}
use Rattle.std.specs.Prelude.{◌<◌, Some, None, Option, unwrap_or, option_map}
use Rattle.description.specs.Descriptions as description
use Rattle.description.specs.declared.Description.{Description}
use Rattle.domain.specs.Told.{Told, Lawful}
use Rattle.keeper.specs.Calls.{unopened}
use Rattle.table_keeper.specs.declared.TableKeeper.{TableKeeper}

-- by what is held: nothing until it is opened
abbrev pub told_by : Option Description → Told
told_by held = unwrap_or (option_map description.told held) unopened

-- the description that it holds, once it is opened
abbrev pub told : TableKeeper → Told
told k = told_by k.held

-- a description that is held keeps the rules of descriptions
held_lawful : (held : Option Description) → 0 < (told_by held).n → Lawful (told_by held)
held_lawful None some = absurd (lt_irrefl 0 some)
held_lawful (Some d) some = d.lawful

pub told_lawful : (k : TableKeeper) → 0 < (told k).n → Lawful (told k)
told_lawful k some = held_lawful k.held some
