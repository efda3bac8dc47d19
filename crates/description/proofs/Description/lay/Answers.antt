use Rattle.std.proofs.Common.{◌≡◌, length, drop, arith, length-append, length-drop}
use Rattle.domain.specs.declared.limits.TheConstants.{TABLE_BYTES}
use Rattle.rules.proofs.Laying.{told_laid}
use Rattle.description.proofs.Description.lay.Goals as goal

pub returns-in-Some : goal.returns-in-Some
returns-in-Some c = λ room.
    let d = c.args.self.now in
    let old = c.args.scratch.now in
    let long : length d.table ≡ TABLE_BYTES = omega (arith, length-append d.table (drop TABLE_BYTES old), length-drop TABLE_BYTES old, room) in
    told_laid d.outline d.table _ d.lawful.few_positions long
