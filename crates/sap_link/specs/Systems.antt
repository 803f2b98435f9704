-- Systems: programs that are clocked together, and the wires between them. Parts are numbered from 0.
use Rattle.std.specs.Prelude.{◌≡◌, ◌<◌, ℕ, suc, Bool, true, not, ◌&&◌, nat_eq, List, [], ◌∷◌, ◌++◌, length, map, get_or, filter, find, Option, Some, None, is_some, if◌then◌else◌}
use Rattle.std.specs.List.{AllByRecursion}
use Rattle.sap_lattice.specs.Order.{Order}
use Rattle.sap_meaning.specs.Program.{Entity, World, Program, no_node, kind_is_input, is_input, is_register, width}

-- An entity of a part, both by number.
pub record Endpoint : Type 0 where
  pub part : ℕ
  pub entity : ℕ

-- An entity of a part.
abbrev pub endpoint : (part entity : ℕ) → Endpoint
endpoint i x = record { part = i; entity = x }

-- The two endpoints are the same.
abbrev pub same_endpoint : Endpoint → Endpoint → Bool
same_endpoint a b = nat_eq a.part b.part && nat_eq a.entity b.entity

-- It feeds the input `to` from the register `from`, through a level where it has one.
pub record Wire : Type 0 where
  pub from : Endpoint
  pub to : Endpoint
  pub level : Option ℕ

-- Programs over one order of levels, and the wires between them.
pub record System : Type 0 where
  pub order : Order
  pub parts : List Program
  pub wires : List Wire

-- What a number past the last part stands for.
abbrev pub no_part : Order → Program
no_part o = record { world = record { order = o; entities = []; children = [] }; states = no_node; hang = [] }

-- The program of a part.
abbrev pub part : System → ℕ → Program
part y i = get_or y.parts i (no_part y.order)

-- The entities of a part.
abbrev pub world : System → ℕ → World
world y i = (part y i).world

-- `i` is the number of a part.
abbrev pub IsPart : System → ℕ → Type 0
IsPart y i = i < length y.parts

-- The width of an endpoint.
abbrev pub width_at : System → Endpoint → ℕ
width_at y e = width (world y e.part) e.entity

-- The wire that feeds an input.
abbrev pub feeding : List Wire → Endpoint → Option Wire
feeding wires e = find (λ w. same_endpoint w.to e) wires

-- A wire leads to the endpoint.
abbrev pub is_fed : List Wire → Endpoint → Bool
is_fed wires e = is_some (feeding wires e)

-- The numbers of the inputs among entities, in the order of their declaration; x is the number of the first entity.
abbrev pub inputs_from : (x : ℕ) → List Entity → List ℕ
inputs_from x [] = []
inputs_from x (e ∷ es) = if kind_is_input e.kind then x ∷ inputs_from (suc x) es else inputs_from (suc x) es

-- The inputs of a part.
abbrev pub inputs_in : World → List ℕ
inputs_in w = inputs_from 0 w.entities

-- The inputs of parts, parts in order; i is the number of the first part.
abbrev pub inputs_of : (i : ℕ) → List Program → List Endpoint
inputs_of i [] = []
inputs_of i (p ∷ ps) = map (endpoint i) (inputs_in p.world) ++ inputs_of (suc i) ps

-- The inputs that no wire feeds, parts in order: what a stream gives.
abbrev pub free_inputs : System → List Endpoint
free_inputs y = filter (λ e. not (is_fed y.wires e)) (inputs_of 0 y.parts)

-- It connects a register of a part with an input of a part that is as wide, and where it has a level, that is a level
-- of the order.
pub record Connects (y : System) (w : Wire) : Type 0 where
  pub from_part : IsPart y w.from.part
  pub register : is_register (world y w.from.part) w.from.entity ≡ true
  pub to_part : IsPart y w.to.part
  pub input : is_input (world y w.to.part) w.to.entity ≡ true
  pub widths : width_at y w.from ≡ width_at y w.to
  pub level : (t : ℕ) → w.level ≡ Some t → t < y.order.count

-- No input is fed by two wires.
abbrev pub FedOnce : List Wire → Type 0
FedOnce [] = Unit {0}
FedOnce (w ∷ ws) = (feeding ws w.to ≡ None) × FedOnce ws

-- The wires of a system break no rule.
pub record WiresFit (y : System) : Type 0 where
  pub each : AllByRecursion (Connects y) y.wires
  pub once : FedOnce y.wires
