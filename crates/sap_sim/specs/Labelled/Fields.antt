-- The fields of a stimulus for a design: a tagged field of the declared width for each input, in the order of
-- declaration.
use Rattle.std.specs.Prelude.{List, Option, Some, None, filter_map}
use Rattle.sap_tree.specs.Syntax.{DesignTree}
use Rattle.sap_names.specs.declared.kind.Declared.{Declared}
use Rattle.sap_names.specs.declared.kind.Declared.TheVariants.{Input, Register, Memory, State}
use Rattle.sap_names.specs.Entities.{entities_of}
use Rattle.sap_stim.specs.declared.field.Field.{Field}
use Rattle.sap_stim.specs.declared.field.Field.TheVariants.{Tagged}

-- An input has a field.
abbrev pub field_of : Declared → Option Field
field_of (Input width) = Some (Tagged width)
field_of (Register width) = None
field_of (Memory width depth) = None
field_of State = None

-- The fields of a line, for a design's inputs.
abbrev pub design_fields : DesignTree → List Field
design_fields d = filter_map (λ e. field_of e.what) (entities_of d)
