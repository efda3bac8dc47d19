use Rattle.std.proofs.Common.{◌≡◌, true, false, sym}
use Rattle.domain.specs.Changes.{lent_listing}
use Rattle.domain.specs.Requests.{ascend, held_by, ill_marks}
use Rattle.domain.proofs.Joining.{listing_lawful}
use Rattle.rules.proofs.Lending.{gives_like}
use Rattle.rules.proofs.rule.check.Limits.check_join.Goals as goal

pub returns : goal.returns
returns c =
    let n = c.args.self.positions in
    let other = lent_listing c.args.other in
    let ascends : ascend n 0 other.groups ≡ true = sym c.if-not-hold.ensures in
    let ill : ill_marks n other.marks (held_by other.groups) ≡ false = sym c.if-are_ill.ensures in
    rw (ascends, ill) (gives_like _ c.check_room.result (λ u room. (listing_lawful n other ascends ill, room)) c.check_room.ensures)
