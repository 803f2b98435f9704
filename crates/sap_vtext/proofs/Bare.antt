-- A file without its places.
use Rattle.std.specs.Prelude.{map}
use Rattle.sap_vtext.specs.Items.{Mention, Number, Operand, Constant, Right, Item, Port, File}
use Rattle.sap_vtext.specs.Items as item

abbrev pub bare_name : Mention → Mention
bare_name x = record { place = 0; name = x.name }

abbrev pub bare_number : Number → Number
bare_number n = record { place = 0; value = n.value }

abbrev pub bare_constant : Constant → Constant
bare_constant c = record { place = 0; width = c.width; value = c.value }

abbrev pub bare_operand : Operand → Operand
bare_operand (item.named x) = item.named (bare_name x)
bare_operand (item.constant c) = item.constant (bare_constant c)

abbrev pub bare_right : Right → Right
bare_right (item.copy x) = item.copy (bare_operand x)
bare_right (item.one op x) = item.one op (bare_operand x)
bare_right (item.two op x y) = item.two op (bare_operand x) (bare_operand y)
bare_right (item.choose c x y) = item.choose (bare_operand c) (bare_operand x) (bare_operand y)
bare_right (item.concat xs) = item.concat (map bare_operand xs)
bare_right (item.slice x high low) = item.slice (bare_name x) high low
bare_right (item.cell m index) = item.cell (bare_name m) (bare_operand index)

abbrev pub bare_item : Item → Item
bare_item (item.wire n x) = item.wire (bare_number n) (bare_name x)
bare_item (item.register n x) = item.register (bare_number n) (bare_name x)
bare_item (item.memory n x last) = item.memory (bare_number n) (bare_name x) (bare_number last)
bare_item (item.integer place) = item.integer 0
bare_item (item.assign x right) = item.assign (bare_name x) (bare_right right)
bare_item (item.initial x value) = item.initial (bare_name x) (bare_constant value)
bare_item (item.initial_cells place bound x value) = item.initial_cells 0 (bare_number bound) (bare_name x) (bare_constant value)
bare_item (item.always x next) = item.always (bare_name x) (bare_operand next)
bare_item (item.always_cell condition x index value) = item.always_cell (bare_operand condition) (bare_name x) (bare_operand index) (bare_operand value)

abbrev pub bare_port : Port → Port
bare_port p = record { direction = p.direction; range = bare_number p.range; name = bare_name p.name }

abbrev pub bare : File → File
bare f = record { module_name = f.module_name; ports = map bare_port f.ports; items = map bare_item f.items }
