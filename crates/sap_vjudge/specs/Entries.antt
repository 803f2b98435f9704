-- What the entry of a name says, where it has one.
use Rattle.std.specs.Prelude.{Bool, false, Option, Some, None, option_map}
use Rattle.sap_vtext.specs.Names.{Shape, Setting, assign, initial, always}
use Rattle.sap_vjudge.specs.declared.entry.Entry.{Entry}
use Rattle.sap_vjudge.specs.Shapes.{shape_of}

-- The shape that an entry has.
abbrev pub entry_shape : Option Entry → Option Shape
entry_shape None = None
entry_shape (Some e) = option_map shape_of e.shape

-- The name of an entry is set in this way.
abbrev pub entry_set : Option Entry → Setting → Bool
entry_set None s = false
entry_set (Some e) assign = e.assigned
entry_set (Some e) initial = e.started
entry_set (Some e) always = e.clocked
