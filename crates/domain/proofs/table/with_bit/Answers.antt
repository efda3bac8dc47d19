use Rattle.std.proofs.Common.{sym, ◌∙◌}
use Rattle.std.proofs.lemmas.Nat.{one_shl}
use Rattle.domain.proofs.Tables.{set_at, set_other, cleared_at, cleared_other}
use Rattle.domain.proofs.table.with_bit.Goals as goal

pub returns-then-on : goal.returns-then-on
returns-then-on c =
    simp (one_shl c.args.place 8 c.requires)
    (record {
      at = set_at _ c.args.place ∙ sym c.if-on.true;
      others = λ k ne. set_other c.args.byte c.args.place k ne;
    })

pub returns-else-on : goal.returns-else-on
returns-else-on c =
    simp (one_shl c.args.place 8 c.requires)
    (record {
      at = cleared_at _ c.args.place ∙ sym c.if-on.false;
      others = λ k ne. cleared_other c.args.byte c.args.place k ne;
    })
