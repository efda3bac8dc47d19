use Rattle.std.proofs.Common.{◌≡◌, ◌/◌, rules, arith}
use Rattle.domain.proofs.Tables.{put_at, put_others}
use Rattle.domain.proofs.table.put.Goals as goal

pub returns-then-place-table : goal.returns-then-place-table
returns-then-place-table c =
    let place : c.from-place.result ≡ c.args.g / 8 = search rules in
    simp place
    (record {
      at = λ h. put_at _ _ _ _ h c.with_bit.ensures.at;
      others = λ h ne. put_others _ _ _ (rw place at c.if-place-table.true) (simp place at c.with_bit.ensures.others) h ne;
      past = λ h. absurd (omega arith);
    })
