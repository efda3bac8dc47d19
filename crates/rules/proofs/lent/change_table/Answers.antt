use Rattle.std.proofs.Common.{rules, ◌≡◌, ◌<◌, ◌≤◌, length, Some, Err}
use Rattle.domain.specs.Changes.{change_tests, lent_change, lent_listing}
use Rattle.domain.specs.Joining.{LawfulListing}
use Rattle.domain.specs.Refusals.{first_of}
use Rattle.domain.specs.Requests.{bytes_for, join_tests}
use Rattle.domain.proofs.Refusing.{gave}
use Rattle.rules.proofs.Lending.{refusal_given, refused_later}
use Rattle.rules.specs.declared.rule.check.Limits.{Limits}
use Rattle.rules.proofs.lent.change_table.Goals as goal

pub joined-requires : goal.joined-requires
joined-requires c =
    let n = c.args.outline.positions in
    let size = length c.args.table.now in
    let l = c.in_ok-limits.limits in
    let other = lent_listing c.in-Join.other in
    let of = (gave _ l (λ (l : Limits). (l.positions ≡ n) × (l.bytes ≡ size) × (0 < n)) c.in_ok-limits.ensures).1 in
    let lawful =
    (gave _ tt (λ u. LawfulListing l.positions other × (bytes_for l.positions ≤ l.bytes)) c.in_ok-check_join-in-Join.ensures).1.0 in
    rw (← of.0) lawful.in_range

pub returns-in_err-check_join-in-Join-clause-gives :
    goal.returns-in_err-check_join-in-Join-clause-gives
returns-in_err-check_join-in-Join-clause-gives c =
    let n = c.args.outline.positions in
    let size = length c.args.table.now in
    let l = c.in_ok-limits.limits in
    let e = c.in_err-check_join-in-Join.field-0.0 in
    let of = (gave _ l (λ (l : Limits). (l.positions ≡ n) × (l.bytes ≡ size) × (0 < n)) c.in_ok-limits.ensures).1 in
    let refused : first_of (join_tests l.positions (lent_listing c.in-Join.other) l.bytes) ≡ Some e =
    refusal_given _ e _ c.in_err-check_join-in-Join.ensures in
    let same : first_of (change_tests n (lent_change c.args.change) size) ≡ Some e = rw (c.in-Join.is, ← of.0, ← of.1) refused in
    let is : c.from_residual-in_err-check_join-in-Join.result ≡ Err e = search rules in
    refused_later _ _ _ _ l e _ c.in_ok-limits.ensures same is
