use Rattle.std.proofs.Common.{◌≡◌, ◌/◌, ◌<◌, ◌≤◌, length, drop, subst, sym, rules, arith}
use Rattle.std.proofs.lemmas.Bool.{le-ltb}
use Rattle.std.proofs.lemmas.Slice.{drop-append-drop}
use Rattle.domain.specs.Opening.{New}
use Rattle.domain.specs.Requests.{bytes_for}
use Rattle.domain.specs.declared.limits.TheConstants.{MOST_POSITIONS, TABLE_BYTES}
use Rattle.domain.proofs.Opening.{new_of_lem}
use Rattle.rules.proofs.Laying.{told_laid, laid_bit}
use Rattle.rules.proofs.Lending.{counted_told}
use Rattle.rules.proofs.lent.open_table.Goals as goal

pub returns-clause-gives : goal.returns-clause-gives
returns-clause-gives c =
    let n = c.args.positions in
    let some : 0 < n = search rules in
    let few : n ≤ MOST_POSITIONS = search rules in
    let room : bytes_for n ≤ length c.args.table.now = search rules in
    let front = c.put_singles.new.table in
    let long : length front ≡ TABLE_BYTES = search rules in
    rw (counted_told n _ some few, le-ltb (length c.args.table.now) (bytes_for n) room)
    (subst (New n) (sym (told_laid _ front _ few long)) (new_of_lem n front c.put_singles.ensures c.all-every.result c.all-every.ensures))

pub returns-clause-front : goal.returns-clause-front
returns-clause-front c = λ g small.
    let room : bytes_for c.args.positions ≤ length c.args.table.now = search rules in
    let front = c.put_singles.new.table in
    let long : length front ≡ TABLE_BYTES = search rules in
    let inside : g / 8 < length front = omega (arith, small, long) in
    rw (laid_bit front (drop c.bytes_for.result c.args.table.now) g inside) (c.put_singles.ensures g)

pub returns-clause-past : goal.returns-clause-past
returns-clause-past c =
    let room : bytes_for c.args.positions ≤ length c.args.table.now = search rules in
    let front = c.put_singles.new.table in
    let long : length front ≡ TABLE_BYTES = search rules in
    let whole : length front ≡ c.bytes_for.result = omega (arith, long, c.bytes_for.ensures.bytes) in
    let same : c.bytes_for.result ≤ bytes_for c.args.positions = omega (arith, c.bytes_for.ensures.bytes) in
    drop-append-drop c.bytes_for.result c.args.table.now front (bytes_for c.args.positions) same whole
