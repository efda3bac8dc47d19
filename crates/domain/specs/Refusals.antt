-- The table of refusals: each with its number, and with its layer where one layer alone gives it.
use Rattle.std.specs.Prelude.{ℕ, Bool, true, false, List, [], ◌∷◌, Some, None, codes, Option}
use Rattle.domain.specs.declared.refusal.Layer.{Layer}
use Rattle.domain.specs.declared.refusal.Layer.TheVariants.{Reader, Runner, Keeper}
use Rattle.domain.specs.declared.refusal.Refusal.{Refusal}
use Rattle.domain.specs.declared.refusal.Refusal.TheVariants.{Truncated, Kind, Length, Order, Count, Position, Itself, Depth, Groups, Masks, Letter, Capacity, Room}

abbrev pub number_of : Refusal → ℕ
number_of Truncated = 1
number_of Kind = 2
number_of Length = 3
number_of Order = 4
number_of Count = 5
number_of Position = 6
number_of Itself = 7
number_of Depth = 8
number_of Groups = 9
number_of Masks = 10
number_of Letter = 11
number_of Capacity = 12
number_of Room = 13

abbrev pub layer_of : Refusal → Option Layer
layer_of Truncated = Some Reader
layer_of Kind = Some Reader
layer_of Length = Some Reader
layer_of Order = None
layer_of Count = Some Keeper
layer_of Position = None
layer_of Itself = Some Keeper
layer_of Depth = Some Reader
layer_of Groups = Some Keeper
layer_of Masks = Some Keeper
layer_of Letter = Some Reader
layer_of Capacity = Some Keeper
layer_of Room = None

-- the name of a layer that a line prints
abbrev pub layer_name : Layer → List ℕ
layer_name Reader = codes "reader"
layer_name Runner = codes "runner"
layer_name Keeper = codes "keeper"

-- a test, and the refusal that it stands for where it is true
abbrev pub Test : Type 0
Test = Bool × Refusal

abbrev pub pick : Bool → Refusal → Option Refusal → Option Refusal
pick true e later = Some e
pick false e later = later

-- the first refusal of a list of tests, in their order
abbrev pub first_of : List Test → Option Refusal
first_of [] = None
first_of (t ∷ ts) = pick t.0 t.1 (first_of ts)
