use Rattle.std.proofs.Common.{◌≤◌, length, refl, arith}
use Rattle.domain.proofs.Refusing.{counted_few}
use Rattle.coverage.proofs.Counting.{fits_count}
use Rattle.coverage.proofs.groups.Groups.write_core.Goals as goal

pub returns-then-list-count : goal.returns-then-list-count
returns-then-list-count c =
    let given = counted_few c.args.self.now.positions _ _ c.in_ok-core_count.ensures in
    rw given.0 (refl, refl, λ fits. let most : c.in_ok-core_count.field-0 ≤ length c.args.list.now = fits_count given.2 fits in omega arith)

pub returns : goal.returns
returns c =
    let given = counted_few c.args.self.now.positions _ _ c.in_ok-core_count.ensures in
    rw given.0 c.fill_core.ensures
