use Rattle.std.proofs.Common.{◌≡◌, false, length, inl, inr, arith}
use Rattle.std.proofs.lemmas.Bool.{both_ways}
use Rattle.domain.specs.Tables.{holds_bit}
use Rattle.domain.proofs.Opening.{no_bits}
use Rattle.rules.proofs.lent.load_table.Goals as goal

pub returns : goal.returns
returns c = λ g h.
    let empty : holds_bit c.fill.new.self g ≡ false =
    rw (c.fill.ensures.after (λ y e. e)) (no_bits (length c.args.table.now) g) in (
      λ e. elim (c.put_groups.ensures.only g e) [ inl k ↦ absurd (both_ways _ empty k) | inr l ↦ l ],
      λ l. c.put_groups.ensures.put g (omega (arith, h, c.fill.ensures.len)) l,
    )
