-- What a flat list of assignments under conditions is seen as.
use Rattle.std.specs.Prelude.{ℕ, List, ◌++◌, map, unwrap_or}
use Rattle.sap_maps.specs.Maps.{Name}
use Rattle.sap_maps.specs.Scope.{Scope, find}
use Rattle.sap_maps.specs.Term.{Term}
use Rattle.sap_net.specs.Rules.{Shapes}
use Rattle.sap_ir.specs.declared.guarded.Var.{Var}
use Rattle.sap_ir.specs.declared.guarded.MemoryVariable.{MemoryVariable}

-- An assignment to a register or a wire, or a write of a memory's cell.
pub data Action : Type 0 where
  set : Name → Term Name → Action
  put : (memory : Name) → (index value : Term Name) → Action

-- What is done where the condition isn't 0.
pub record Command : Type 0 where
  pub when : Term Name
  pub act : Action

-- `ports` are the registers and wires that are output ports, in order.
pub record Source : Type 0 where
  pub inputs : List Var
  pub wires : List Var
  pub registers : List Var
  pub memories : List MemoryVariable
  pub ports : List Name
  pub commands : List Command

-- What can be read, with its width.
abbrev pub readable : Source → Scope
readable s = map (λ x. (x.name, x.width)) s.inputs ++ map (λ x. (x.name, x.width)) s.registers
    ++ map (λ x. (x.name, x.width)) s.wires

-- Width and depth of each memory, by its name.
abbrev pub shapes : Source → Shapes
shapes s = map (λ m. (m.name, (m.width, m.depth))) s.memories

-- The width of a name, of a memory's cells where it is that of a memory.
abbrev pub width_of : Source → Name → ℕ
width_of s n = unwrap_or (find (readable s ++ map (λ m. (m.name, m.width)) s.memories) n) 0
