-- A file whose numbers are all below 4096, as those of a file without a fault are: where one isn't, 0 stands for it.
use Rattle.std.specs.Prelude.{ℕ, map, nat_lt, if◌then◌else◌}
use Rattle.sap_vtext.specs.Items.{Number, Constant, Operand, Right, Port, Item, File}
use Rattle.sap_vtext.specs.Items as item

-- A number below 4096 as it is, another as 0.
abbrev pub narrow : ℕ → ℕ
narrow n = if nat_lt n 4096 then n else 0

-- A number of the text, made narrow.
abbrev pub narrow_number : Number → Number
narrow_number n = record { place = n.place; value = narrow n.value }

-- A constant whose width is made narrow.
abbrev pub narrow_constant : Constant → Constant
narrow_constant c = record { place = c.place; width = narrow c.width; value = c.value }

-- An operand whose constant is made narrow.
abbrev pub narrow_operand : Operand → Operand
narrow_operand (item.named x) = item.named x
narrow_operand (item.constant c) = item.constant (narrow_constant c)

-- A right side whose numbers are made narrow.
abbrev pub narrow_right : Right → Right
narrow_right (item.copy x) = item.copy (narrow_operand x)
narrow_right (item.one op x) = item.one op (narrow_operand x)
narrow_right (item.two op x y) = item.two op (narrow_operand x) (narrow_operand y)
narrow_right (item.choose c x y) = item.choose (narrow_operand c) (narrow_operand x) (narrow_operand y)
narrow_right (item.concat xs) = item.concat (map narrow_operand xs)
narrow_right (item.slice x high low) = item.slice x (narrow high) (narrow low)
narrow_right (item.cell m index) = item.cell m (narrow_operand index)

-- A port whose range is made narrow.
abbrev pub narrow_port : Port → Port
narrow_port p = record { direction = p.direction; range = narrow_number p.range; name = p.name }

-- The numbers of a `for` and of an `initial` have no part in a width.
abbrev pub narrow_item : Item → Item
narrow_item (item.wire range x) = item.wire (narrow_number range) x
narrow_item (item.register range x) = item.register (narrow_number range) x
narrow_item (item.memory range x last) = item.memory (narrow_number range) x (narrow_number last)
narrow_item (item.integer place) = item.integer place
narrow_item (item.assign x right) = item.assign x (narrow_right right)
narrow_item (item.initial x value) = item.initial x value
narrow_item (item.initial_cells place bound x value) = item.initial_cells place bound x value
narrow_item (item.always x next) = item.always x (narrow_operand next)
narrow_item (item.always_cell condition x index value) =
    item.always_cell (narrow_operand condition) x (narrow_operand index) (narrow_operand value)

-- A module whose numbers are made narrow; a module without faults stays as it is.
abbrev pub narrow_file : File → File
narrow_file f = record { module_name = f.module_name; ports = map narrow_port f.ports; items = map narrow_item f.items }
