-- A record: a two-byte length of its payload, a two-byte kind, then the payload.
use Rattle.std.specs.Prelude.{◌≡◌, ℕ, zero, suc, ◌+◌, ◌-◌, ◌*◌, ◌≤◌, List, [], ◌∷◌, length, Ok, nat_le, nat_lt, slice_index}
use Rattle.domain.specs.declared.limits.TheConstants.{MOST_POSITIONS}
use Rattle.domain.specs.declared.refusal.Refusal.TheVariants.{Truncated, Position}
use Rattle.reader.specs.declared.record.Record.{Record}
use Rattle.reader.specs.declared.record.TheConstants.{HEAD}
use Rattle.reader.specs.Reading.{Read, refuse}

abbrev pub byte_at : List ℕ → ℕ → ℕ
byte_at bytes i = slice_index bytes i

-- two bytes, little-endian
abbrev pub pair_at : List ℕ → ℕ → ℕ
pair_at bytes i = byte_at bytes i + 256 * byte_at bytes (i + 1)

-- so many pairs of bytes, from a place on
abbrev pub groups_at : List ℕ → ℕ → ℕ → List ℕ
groups_at bytes start zero = []
groups_at bytes start (suc count) = pair_at bytes start ∷ groups_at bytes (start + 2) count

-- the record at a place, refused where it runs past the end
abbrev pub record_at : List ℕ → ℕ → ℕ → Read Record
record_at bytes at end =
    refuse (nat_lt (end - at) HEAD) Truncated at
    (refuse (nat_lt (end - (at + HEAD)) (pair_at bytes at)) Truncated at
    (Ok (record { place = at; kind = pair_at bytes (at + 2); start = at + HEAD; end = at + HEAD + pair_at bytes at })))

-- how long the payload is
abbrev pub payload : Record → ℕ
payload r = r.end - r.start

-- a byte of the payload that names a position
abbrev pub position_at : List ℕ → Record → ℕ → Read ℕ
position_at bytes r at = refuse (nat_le MOST_POSITIONS (byte_at bytes at)) Position r.place (Ok (byte_at bytes at))

-- a record that starts at a place and lies before an end
pub record LiesBetween (at end : ℕ) (r : Record) : Type 0 where
  pub place : r.place ≡ at
  pub head : at + HEAD ≡ r.start
  pub payload : r.start ≤ r.end
  pub inside : r.end ≤ end

-- the payload is a part of the bytes
pub record Part (bytes : List ℕ) (r : Record) : Type 0 where
  pub ordered : r.start ≤ r.end
  pub inside : r.end ≤ length bytes
