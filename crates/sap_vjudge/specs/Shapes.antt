-- What names are declared as, how they are used and what sets them, from the code's types.
use Rattle.std.specs.Prelude.{◌+◌}
use Rattle.sap_vtext.specs.Names as names
use Rattle.sap_vtext.specs.Faults as faults
use Rattle.sap_vjudge.specs.declared.shape.Shape.{Shape}
use Rattle.sap_vjudge.specs.declared.shape.Shape.TheVariants as s
use Rattle.sap_vjudge.specs.declared.shape.Setting.{Setting}
use Rattle.sap_vjudge.specs.declared.shape.Setting.TheVariants as t
use Rattle.sap_vjudge.specs.declared.shape.Manner.{Manner}
use Rattle.sap_vjudge.specs.declared.shape.Manner.TheVariants as m

-- The shape that a stored one stands for.
abbrev pub shape_of : Shape → names.Shape
shape_of (s.Input range) = names.input (range + 1)
shape_of (s.Wire range) = names.wire (range + 1)
shape_of (s.Register range) = names.register (range + 1)
shape_of (s.Memory range last) = names.memory (range + 1) (last + 1)

-- The way of setting that a stored one stands for.
abbrev pub setting_of : Setting → names.Setting
setting_of t.Assign = names.assign
setting_of t.Initial = names.initial
setting_of t.Always = names.always

-- The manner of use that a stored one stands for.
abbrev pub manner_of : Manner → faults.Manner
manner_of m.Value = faults.as_value
manner_of m.Cell = faults.as_cell
manner_of m.Wire = faults.as_wire
manner_of m.Register = faults.as_register
manner_of m.Memory = faults.as_memory
