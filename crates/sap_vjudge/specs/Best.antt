-- The first of several faults, found one after another.
use Rattle.std.specs.Prelude.{ℕ, List, [], ◌∷◌, Option, Bool, nat_lt, nat_le, ◌==◌, ◌||◌, ◌&&◌, if◌then◌else◌}
use Rattle.sap_text.specs.Best as best
pub use Rattle.sap_vjudge.specs.declared.fault.Fault.{Fault}
use Rattle.sap_vjudge.specs.declared.code.Code.{Code}
use Rattle.sap_vjudge.specs.FirstFault.{number}

-- `a` stands before b, or at its place with no higher code.
abbrev pub comes_first : Fault → Fault → Bool
comes_first a b = nat_lt a.place b.place || (a.place == b.place && nat_le (number a.code) (number b.code))

-- The fault that comes first of two.
abbrev pub better : Option Fault → Fault → Option Fault
better o f = best.better comes_first o f

-- The first of o and those.
abbrev pub best_of : Option Fault → List Fault → Option Fault
best_of o fs = best.best_of comes_first o fs

-- A fault where the test holds.
abbrev pub fault_if : Bool → Code → ℕ → List Fault
fault_if test c place = if test then (let f : Fault = record { code = c; place = place } in f ∷ []) else []
