use Rattle.std.proofs.Common.{◌≤◌, ℕ, Ok, sym, refl, arith}
use Rattle.domain.specs.Opening.{New}
use Rattle.domain.specs.Refusals.{first_of}
use Rattle.domain.specs.Requests.{Gives, open_tests, room_tests, bytes_for}
use Rattle.domain.proofs.Refusing.{gave}
use Rattle.description.specs.Descriptions.{told}
use Rattle.table_keeper.proofs.Gives.{opens_new}
use Rattle.table_keeper.proofs.calls.TableKeeperKeeper.open.Goals as goal

room_given : (n bytes : ℕ) → Gives (first_of (room_tests n bytes)) (Ok tt) (λ (u : Unit {0}). bytes_for n ≤ bytes) → bytes_for n ≤ bytes
room_given n bytes h = (gave (first_of (room_tests n bytes)) tt (λ (u : Unit {0}). bytes_for n ≤ bytes) h).1

pub returns : goal.returns
returns c =
    let room = room_given c.args.n _ c.in_ok-check_room.ensures in
    record {
      opens = opens_new c.args.n _ _ c.in_ok-new.new (sym c.if-is_some.ensures) c.in_ok-new.ensures (omega (arith, room));
      keeps = (gave (first_of (open_tests c.args.n)) c.in_ok-new.new (λ e. New c.args.n (told e)) c.in_ok-new.ensures).1;
      same_capacity = refl;
    }
