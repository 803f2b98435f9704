-- Which x are shown of a module's registers, or of any names with their widths: each with a `v_x`, and a `t_x` of the
-- width of tags.
use Rattle.std.specs.Prelude.{ℕ, Bool, true, false, List, [], ◌∷◌, ◌++◌, map, filter, Option, Some, None, if◌then◌else◌}
use Rattle.sap_maps.specs.Maps.{Name}
use Rattle.sap_maps.specs.Scope.{Scope, find}
use Rattle.sap_net.specs.declared.parts.Port.{Port}
use Rattle.sap_net.specs.declared.parts.PortKind.{PortKind}
use Rattle.sap_net.specs.declared.parts.PortKind.TheVariants as kind
use Rattle.sap_net.specs.Net.{Net}
use Rattle.sap_net.specs.IsNetlist.{width_of}
use Rattle.sap_net.specs.PortNames.{value_of, is_number, tag_name}

-- The kind of a port that shows a register.
abbrev pub is_register : PortKind → Bool
is_register kind.Input = false
is_register kind.Register = true
is_register kind.Wire = false

-- The names of the `output reg` ports, in port order.
abbrev pub register_ports : List Port → List Name
register_ports ps = map (λ p. p.name) (filter (λ p. is_register p.kind) ps)

-- The `output reg` ports with their widths.
abbrev pub port_widths : Net → Scope
port_widths n = map (λ x. (x, width_of n x)) (register_ports n.ports)

-- Among these names is a `t_x` that has the width of tags.
abbrev pub has_tag : (tag : ℕ) → (widths : Scope) → Name → Bool
has_tag tag widths x = is_number tag (find widths (tag_name x))

-- The x of a `v_x`, if a `t_x` of the width of tags is there too, else none.
abbrev pub shown_by : (tag : ℕ) → (widths : Scope) → Option Name → List Name
shown_by tag widths None = []
shown_by tag widths (Some x) = if has_tag tag widths x then x ∷ [] else []

-- Each x whose `v_x` is among some names, and whose `t_x` has the width of tags, in order.
abbrev pub shown_among : (tag : ℕ) → (widths : Scope) → List Name → List Name
shown_among tag widths [] = []
shown_among tag widths (p ∷ ps) = shown_by tag widths (value_of p) ++ shown_among tag widths ps
