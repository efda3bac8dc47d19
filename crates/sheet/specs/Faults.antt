-- Faults on a sheet: number, layer, step and place.
use Rattle.std.specs.Prelude.{◌≡◌, ℕ, Bool, Some}
use Rattle.std.specs.Ordering.{on}
use Rattle.sheet.specs.contracts.fault.RefusedPartialEq.TheImpl as refused_eq
use Rattle.domain.specs.Refusals.{number_of, layer_of}
use Rattle.domain.specs.declared.refusal.Layer.{Layer}
use Rattle.domain.specs.declared.refusal.Layer.TheVariants as layer
use Rattle.domain.specs.declared.refusal.Refusal.{Refusal}
use Rattle.domain.specs.declared.refusal.Refusal.TheVariants.{Order, Position, Room}
use Rattle.sheet.specs.declared.fault.Refused.{Refused}
use Rattle.sheet.specs.declared.fault.RunnerFault.{RunnerFault}
use Rattle.sheet.specs.declared.fault.RunnerFault.TheVariants.{Reader, Runner, Keeper}
use Rattle.sheet.specs.declared.fault.SheetFault.{SheetFault}

abbrev pub number_in : RunnerFault → ℕ
number_in (Reader f) = number_of f.refusal
number_in (Runner e) = number_of e
number_in (Keeper f) = number_of f.refusal

abbrev pub refusal_in : RunnerFault → Refusal
refusal_in (Reader f) = f.refusal
refusal_in (Runner e) = e
refusal_in (Keeper f) = f.refusal

abbrev pub layer_in : RunnerFault → Layer
layer_in (Reader f) = layer.Reader
layer_in (Runner e) = layer.Runner
layer_in (Keeper f) = layer.Keeper

-- a reader's fault stands at the place that it names, any other at its step's
abbrev pub place_in : RunnerFault → ℕ → ℕ
place_in (Reader f) place = f.place
place_in (Runner e) place = place
place_in (Keeper f) place = place

abbrev pub fault_at : RunnerFault → ℕ → ℕ → SheetFault
fault_at f step place = record { cause = f; step = step; place = place_in f place }

-- what is told of a fault
abbrev pub refused_of : SheetFault → Refused
refused_of f = record { number = number_in f.cause; place = f.place; step = f.step; layer = layer_in f.cause }

-- two faults are the same when number, layer, step and place agree
pub record SameFault (f g : SheetFault) : Type 0 where
  pub number : number_in f.cause ≡ number_in g.cause
  pub layer : layer_in f.cause ≡ layer_in g.cause
  pub step : f.step ≡ g.step
  pub place : f.place ≡ g.place

-- the test of that, which `==` computes
abbrev pub fault_eq : SheetFault → SheetFault → Bool
fault_eq = on refused_of (refused_eq.ghosts).eq

-- Which layer can give which refusal: that of the table where one layer alone gives it, and of each of the
-- other three refusals two.
pub data CanRefuse : Layer → Refusal → Type 0 where
  alone : {l : Layer} {e : Refusal} → layer_of e ≡ Some l → CanRefuse l e
  order_of_steps : CanRefuse layer.Runner Order
  order_of_calls : CanRefuse layer.Keeper Order
  position_read : CanRefuse layer.Reader Position
  position_in_call : CanRefuse layer.Keeper Position
  room_in_lists : CanRefuse layer.Runner Room
  room_in_call : CanRefuse layer.Keeper Room

-- the layer that refuses is one that can
abbrev pub CanOccur : RunnerFault → Type 0
CanOccur f = CanRefuse (layer_in f) (refusal_in f)
