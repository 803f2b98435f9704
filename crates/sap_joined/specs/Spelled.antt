-- Names of letters, digits and `_`, which a text may be cut anywhere in.
use Rattle.std.specs.Prelude.{◌≡◌, true, All}
use Rattle.std.specs.List.{list_all}
use Rattle.sap_maps.specs.Maps.{Name}
use Rattle.sap_net.specs.declared.parts.Operand.{Operand}
use Rattle.sap_net.specs.declared.parts.Operand.TheVariants.{Named, Constant}
use Rattle.sap_net.specs.declared.parts.Right.{Right}
use Rattle.sap_net.specs.declared.parts.Right.TheVariants.{Copy, One, Two, Choose, Concat, Slice, Cell}
use Rattle.sap_net.specs.declared.parts.Wire.{Wire}
use Rattle.sap_net.specs.declared.parts.Register.{Register}
use Rattle.sap_net.specs.declared.parts.Memory.{Memory}
use Rattle.sap_net.specs.Names.{is_inner}

-- Each byte of the name may stand within a name.
abbrev pub IsSpelled : Name → Type 0
IsSpelled x = list_all is_inner x ≡ true

-- Each name that it has or reads is spelled so.
abbrev pub OperandSpelled : Operand → Type 0
OperandSpelled (Named x) = IsSpelled x
OperandSpelled (Constant u n) = Unit {0}

-- The names in a right side are spelled so.
abbrev pub RightSpelled : Right → Type 0
RightSpelled (Copy a) = OperandSpelled a
RightSpelled (One op a) = OperandSpelled a
RightSpelled (Two op a b) = OperandSpelled a × OperandSpelled b
RightSpelled (Choose c a b) = OperandSpelled c × OperandSpelled a × OperandSpelled b
RightSpelled (Concat os) = All OperandSpelled os
RightSpelled (Slice x hi lo) = IsSpelled x
RightSpelled (Cell m i) = IsSpelled m × OperandSpelled i

-- The names of a wire are spelled so.
abbrev pub WireSpelled : Wire → Type 0
WireSpelled w = IsSpelled w.name × RightSpelled w.right

-- The names of a register are spelled so.
abbrev pub RegisterSpelled : Register → Type 0
RegisterSpelled r = IsSpelled r.name × OperandSpelled r.next

-- The names of a memory are spelled so.
abbrev pub MemorySpelled : Memory → Type 0
MemorySpelled m = IsSpelled m.name × OperandSpelled m.enable × OperandSpelled m.index × OperandSpelled m.value
