use Rattle.std.proofs.Common.{Err, refl, arith}
use Rattle.roll.specs.declared.not_added.NotAdded.TheVariants.{Held}
use Rattle.roll.proofs.Rolls.{added_there, added_in_order, added_kept, added_last}
use Rattle.roll.proofs.entries.Roll.add.Goals as goal

pub returns-then-holds-clause-appended : goal.returns-then-holds-clause-appended
returns-then-holds-clause-appended g c =
    added_last g.T.Keyed.key g.T.Key.Ranked.rank c.args.entry c.args.self.now.used c.args.self.now.entries.now
    _ (Err Held) (rw c.key-key.ensures at (c.if-holds.ensures.0 refl), refl)

pub returns : goal.returns
returns g c =
    let key = g.T.Keyed.key in
    let rank = g.T.Key.Ranked.rank in
    let used = c.args.self.now.used in
    let before = c.args.self.now.entries.now in
    let adds =
    added_there key rank c.args.entry used before c.copy_within.new.self c.place_of-place.result c.rank.result c.key-key.result
    c.key-key.ensures c.rank.ensures c.if-holds.ensures.1 (omega arith)
    (rw c.in_use.ensures at c.place_of-place.ensures.first) c.copy_within.ensures.after in
    record {
      adds = adds;
      counted = refl;
      ordered = added_in_order key rank c.args.entry used before _ adds g.met.T.Key.Ranked.apart;
      kept = added_kept key rank c.args.entry used before _ adds;
      appended = added_last key rank c.args.entry used before _ _ adds;
      lent = refl;
    }
