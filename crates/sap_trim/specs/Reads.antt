-- The names that right sides, registers and memories read.
use Rattle.std.specs.Prelude.{◌≡◌, true, List, [], ◌∷◌, ◌++◌, flat_map}
use Rattle.std.specs.List.{AllByRecursion}
use Rattle.sap_maps.specs.Maps.{Name}
use Rattle.sap_net.specs.Names.{is_among}
use Rattle.sap_net.specs.Net.{Net}
use Rattle.sap_net.specs.declared.parts.Operand.{Operand}
use Rattle.sap_net.specs.declared.parts.Operand.TheVariants.{Named, Constant}
use Rattle.sap_net.specs.declared.parts.Right.{Right}
use Rattle.sap_net.specs.declared.parts.Right.TheVariants.{Copy, One, Two, Choose, Concat, Slice, Cell}
use Rattle.sap_net.specs.declared.parts.Wire.{Wire}
use Rattle.sap_net.specs.declared.parts.Register.{Register}
use Rattle.sap_net.specs.declared.parts.Memory.{Memory}
use Rattle.sap_trim.specs.Names.{helping_wires}

-- The name that an operand reads.
abbrev pub operand_reads : Operand → List Name
operand_reads (Named x) = x ∷ []
operand_reads (Constant w n) = []

-- The names that operands read.
abbrev pub operands_reads : List Operand → List Name
operands_reads os = flat_map operand_reads os

-- The names that a right side reads; the memory of a cell is no such name.
abbrev pub right_reads : Right → List Name
right_reads (Copy a) = operand_reads a
right_reads (One op a) = operand_reads a
right_reads (Two op a b) = operand_reads a ++ operand_reads b
right_reads (Choose c a b) = operand_reads c ++ (operand_reads a ++ operand_reads b)
right_reads (Concat os) = operands_reads os
right_reads (Slice x hi lo) = x ∷ []
right_reads (Cell m i) = operand_reads i

-- The names that wires read.
abbrev pub wire_reads : List Wire → List Name
wire_reads ws = flat_map (λ w. right_reads w.right) ws

-- The names that registers read at the edge.
abbrev pub register_reads : List Register → List Name
register_reads rs = flat_map (λ r. operand_reads r.next) rs

-- The names that memories' write ports read.
abbrev pub memory_reads : List Memory → List Name
memory_reads [] = []
memory_reads (m ∷ ms) = operand_reads m.enable ++ (operand_reads m.index ++ (operand_reads m.value ++ memory_reads ms))

-- The names that registers and memories read at the clock edge.
abbrev pub edge_reads : Net → List Name
edge_reads n = register_reads n.registers ++ memory_reads n.memories

-- A wire reads the name, or a register or a memory at the edge.
abbrev pub IsRead : Net → Name → Type 0
IsRead n x = is_among x (wire_reads n.wires ++ edge_reads n) ≡ true

-- Each helping wire is read.
abbrev pub ReadsWires : Net → Type 0
ReadsWires n = AllByRecursion (λ w. IsRead n w.name) (helping_wires n)
