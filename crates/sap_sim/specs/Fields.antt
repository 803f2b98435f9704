-- The fields of a stimulus for a netlist: an input `v_a` with an input `t_a` of the width of tags is one tagged field,
-- at the place of `v_a`; every other input is a plain one.
use Rattle.std.specs.Prelude.{ℕ, Bool, not, ◌==◌, ◌&&◌, List, map, filter, is_some, if◌then◌else◌}
use Rattle.sap_lattice.specs.Levels.{Levels, order_of}
use Rattle.sap_lattice.specs.Codes.{width_of}
use Rattle.sap_maps.specs.Maps.{Name}
use Rattle.sap_maps.specs.Scope.{Scope, find}
use Rattle.sap_net.specs.declared.parts.Input.{Input}
use Rattle.sap_net.specs.Net.{Net}
use Rattle.sap_stim.specs.declared.field.Field.{Field}
use Rattle.sap_stim.specs.declared.field.Field.TheVariants.{Tagged, Plain}
use Rattle.sap_net.specs.PortNames.{value_of, tag_of, passes, is_number, value_name, tag_name}

-- The width of tags.
abbrev pub tag_width : Levels → ℕ
tag_width ls = width_of (order_of ls)

-- Inputs with their widths.
abbrev pub input_widths : List Input → Scope
input_widths is = map (λ i. (i.name, i.width)) is

-- `v_a`, with an input `t_a` of the width of tags.
abbrev pub is_tagged : (tag : ℕ) → List Input → Name → Bool
is_tagged tag is n = passes (λ a. is_number tag (find (input_widths is) (tag_name a))) (value_of n)

-- Such a `t_a`: of the width of tags, with an input `v_a`.
abbrev pub is_tag : (tag : ℕ) → List Input → Input → Bool
is_tag tag is i = i.width == tag && passes (λ a. is_some (find (input_widths is) (value_name a))) (tag_of i.name)

-- The inputs that have a field of their own, in port order.
abbrev pub with_field : (tag : ℕ) → List Input → List Input
with_field tag is = filter (λ i. not (is_tag tag is i)) is

-- The field of an input: tagged where the input has a tag.
abbrev pub field_of : (tag : ℕ) → List Input → Input → Field
field_of tag is i = if is_tagged tag is i.name then Tagged i.width else Plain i.width

-- The fields of a line, for the inputs that aren't tags.
abbrev pub fields_of : Levels → Net → List Field
fields_of ls n = map (field_of (tag_width ls) n.inputs) (with_field (tag_width ls) n.inputs)
