use Rattle.std.proofs.Common.{◌≡◌, ◌-◌, ◌^◌, ◌*◌, ◌%◌, filter, rules, refl, subst, sym, arith}
use Rattle.std.proofs.lemmas.Iterator.{YieldsList-from_range}
use Rattle.std.proofs.lemmas.Iterator.Consumers.{YieldsList-from_filter, YieldsList-at, fold_from_yields_List}
use Rattle.std.proofs.lemmas.Nat.{one_shl}
use lib.Bits.{bit_or}
use Rattle.std.specs.List.{fold, range_with_len}
use Rattle.domain.specs.Tables.{TableGroup}
use Rattle.rules.specs.Reaching.{Reach}
use Rattle.rules.proofs.Reaching.{reached, same_reached, reach_of}
use Rattle.rules.proofs.groups.Groups.reach.Goals as goal

pub returns : goal.returns
returns c =
    let n = c.args.self.positions in
    let bits = c.args.self.table.now in
    let v = c.args.mask in
    let size : (1 * 2 ^ n) % 2 ^ 16 - 1 ≡ 2 ^ n - 1 = omega (arith, one_shl n 16 (omega arith)) in
    let united : c.fold.result ≡ fold (λ m g. bit_or m g) 0 (filter (reached bits v) (range_with_len 1 (2 ^ n - 1))) =
    fold_from_yields_List _ (λ m g. bit_or m g) 0 c.fold.result c.fold.ensures.ran
    (YieldsList-from_filter _ (reached bits v)
    (YieldsList-at c.filter.ensures.source (YieldsList-from_range 1 ((1 * 2 ^ n) % 2 ^ 16) (2 ^ n - 1) refl size))
    c.filter.ensures.closure
    (λ x r q k. (search rules, same_reached bits v x r (λ e. (search rules, search rules)) (λ meets holds. search rules))))
    (λ m x p q k. (search rules, search rules)) in
    subst (Reach (TableGroup n bits) v) (sym united) (reach_of n bits v)
