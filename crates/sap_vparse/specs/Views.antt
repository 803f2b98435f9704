-- The tree of a module's text, from the reader's types.
use Rattle.std.specs.Prelude.{List, map}
use Rattle.sap_vtext.specs.Items as item
use Rattle.sap_vparse.specs.declared.items.Constant.{Constant}
use Rattle.sap_vparse.specs.declared.items.Direction.{Direction}
use Rattle.sap_vparse.specs.declared.items.Direction.TheVariants as d
use Rattle.sap_vparse.specs.declared.items.File.{File}
use Rattle.sap_vparse.specs.declared.items.Item.{Item}
use Rattle.sap_vparse.specs.declared.items.Item.TheVariants as i
use Rattle.sap_vparse.specs.declared.items.Mention.{Mention}
use Rattle.sap_vparse.specs.declared.items.Number.{Number}
use Rattle.sap_vparse.specs.declared.items.Operand.{Operand}
use Rattle.sap_vparse.specs.declared.items.Operand.TheVariants as o
use Rattle.sap_vparse.specs.declared.items.Port.{Port}
use Rattle.sap_vparse.specs.declared.items.Right.{Right}
use Rattle.sap_vparse.specs.declared.items.Right.TheVariants as r

-- The name with its place that a stored one stands for.
abbrev pub mention_of : Mention → item.Mention
mention_of x = record { place = x.place; name = x.name }

-- The number with its place that a stored one stands for.
abbrev pub number_of : Number → item.Number
number_of n = record { place = n.place; value = n.value }

-- The constant that a stored one stands for.
abbrev pub constant_of : Constant → item.Constant
constant_of c = record { place = c.place; width = c.width; value = c.value }

-- The operand that a stored one stands for.
abbrev pub operand_of : Operand → item.Operand
operand_of (o.Named x) = item.named (mention_of x)
operand_of (o.Constant c) = item.constant (constant_of c)

-- The operands that stored ones stand for.
abbrev pub operands_of : List Operand → List item.Operand
operands_of xs = map operand_of xs

-- The right side that a stored one stands for.
abbrev pub right_of : Right → item.Right
right_of (r.Copy x) = item.copy (operand_of x)
right_of (r.One op x) = item.one op (operand_of x)
right_of (r.Two op x y) = item.two op (operand_of x) (operand_of y)
right_of (r.Choose c x y) = item.choose (operand_of c) (operand_of x) (operand_of y)
right_of (r.Concat xs) = item.concat (operands_of xs)
right_of (r.Slice x high low) = item.slice (mention_of x) high low
right_of (r.Cell m index) = item.cell (mention_of m) (operand_of index)

-- The direction that a stored one stands for.
abbrev pub direction_of : Direction → item.Direction
direction_of d.Input = item.input
direction_of d.OutputRegister = item.output_register
direction_of d.OutputWire = item.output_wire

-- The port that a stored one stands for.
abbrev pub port_of : Port → item.Port
port_of p = record { direction = direction_of p.direction; range = number_of p.range; name = mention_of p.name }

-- The ports that stored ones stand for.
abbrev pub ports_of : List Port → List item.Port
ports_of ps = map port_of ps

-- The item that a stored one stands for.
abbrev pub item_of : Item → item.Item
item_of (i.Wire range x) = item.wire (number_of range) (mention_of x)
item_of (i.Register range x) = item.register (number_of range) (mention_of x)
item_of (i.Memory range x last) = item.memory (number_of range) (mention_of x) (number_of last)
item_of (i.Integer place) = item.integer place
item_of (i.Assign x right) = item.assign (mention_of x) (right_of right)
item_of (i.Initial x value) = item.initial (mention_of x) (constant_of value)
item_of (i.InitialCells place bound x value) =
    item.initial_cells place (number_of bound) (mention_of x) (constant_of value)
item_of (i.Always x next) = item.always (mention_of x) (operand_of next)
item_of (i.AlwaysCell condition x index value) =
    item.always_cell (operand_of condition) (mention_of x) (operand_of index) (operand_of value)

-- The items that stored ones stand for.
abbrev pub items_of : List Item → List item.Item
items_of xs = map item_of xs

-- The module that a stored one stands for.
abbrev pub file_of : File → item.File
file_of f = record { module_name = f.module_name; ports = ports_of f.ports.items; items = items_of f.items.items }
