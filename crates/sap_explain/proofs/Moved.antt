-- A file whose places are moved.
use Rattle.std.specs.Prelude.{ℕ, map}
use Rattle.sap_vtext.specs.Items.{Mention, Number, Operand, Constant, Right, Item, Port, File}
use Rattle.sap_vtext.specs.Items as item

module _ (move : ℕ → ℕ) where
  abbrev pub moved_name : Mention → Mention
  moved_name x = record { place = move x.place; name = x.name }

  abbrev pub moved_number : Number → Number
  moved_number n = record { place = move n.place; value = n.value }

  abbrev pub moved_constant : Constant → Constant
  moved_constant c = record { place = move c.place; width = c.width; value = c.value }

  abbrev pub moved_operand : Operand → Operand
  moved_operand (item.named x) = item.named (moved_name x)
  moved_operand (item.constant c) = item.constant (moved_constant c)

  abbrev pub moved_right : Right → Right
  moved_right (item.copy x) = item.copy (moved_operand x)
  moved_right (item.one op x) = item.one op (moved_operand x)
  moved_right (item.two op x y) = item.two op (moved_operand x) (moved_operand y)
  moved_right (item.choose c x y) = item.choose (moved_operand c) (moved_operand x) (moved_operand y)
  moved_right (item.concat xs) = item.concat (map moved_operand xs)
  moved_right (item.slice x high low) = item.slice (moved_name x) high low
  moved_right (item.cell m index) = item.cell (moved_name m) (moved_operand index)

  abbrev pub moved_item : Item → Item
  moved_item (item.wire n x) = item.wire (moved_number n) (moved_name x)
  moved_item (item.register n x) = item.register (moved_number n) (moved_name x)
  moved_item (item.memory n x last) = item.memory (moved_number n) (moved_name x) (moved_number last)
  moved_item (item.integer place) = item.integer (move place)
  moved_item (item.assign x right) = item.assign (moved_name x) (moved_right right)
  moved_item (item.initial x value) = item.initial (moved_name x) (moved_constant value)
  moved_item (item.initial_cells place bound x value) = item.initial_cells (move place) (moved_number bound) (moved_name x) (moved_constant value)
  moved_item (item.always x next) = item.always (moved_name x) (moved_operand next)
  moved_item (item.always_cell condition x index value) = item.always_cell (moved_operand condition) (moved_name x) (moved_operand index) (moved_operand value)

  abbrev pub moved_port : Port → Port
  moved_port p = record { direction = p.direction; range = moved_number p.range; name = moved_name p.name }

  abbrev pub moved : File → File
  moved f = record { module_name = f.module_name; ports = map moved_port f.ports; items = map moved_item f.items }
