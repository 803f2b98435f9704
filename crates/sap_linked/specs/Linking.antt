-- What a netlist keeps that links the netlists of parts, each whole under names of its own.
use Rattle.std.specs.Prelude.{◌≡◌, ◌<◌, ℕ, List, [], ◌∷◌, length, ◌==◌, if◌then◌else◌, Option, Some, None, bit_or}
use Rattle.std.specs.List.{AllByRecursion}
use Rattle.sap_maps.specs.Maps.{Name, Valuation}
use Rattle.sap_lattice.specs.Order.{Order}
use Rattle.sap_lattice.specs.Codes.{code_of, width_of}
use Rattle.sap_net.specs.declared.parts.Input.{Input}
use Rattle.sap_net.specs.Net.{Net}
use Rattle.sap_net.specs.IsNetlist.{IsNetlist}
use Rattle.sap_net.specs.Runs.{IsValuation}
use Rattle.sap_interface.specs.InterfaceNames.{IsInterfaceName}
use Rattle.sap_interface.specs.Compiled.{NetStandsFor, NetStartsAs}
use Rattle.sap_build.specs.Parts.{IsPart}
use Rattle.sap_link.specs.Systems.{Endpoint, Wire, width_at, free_inputs}
use Rattle.sap_linked.specs.Parts.{Part, NamedSystem, part_at, system_of, in_part, value_at, tag_at}

-- A netlist of a part: it stands for the part's design, levels as the order's codes, and starts as the design does.
pub record IsNetOf (o : Order) (p : Part) (n : Net) : Type 0 where
  pub codes : p.design.code ≡ code_of o
  pub netlist : IsNetlist n
  pub stands : NetStandsFor p.design (width_of o) p.sites n
  pub starts : NetStartsAs p.design p.sites n

-- The number and the code that come out of a wire, where the register has the number n and the code t: these; through a
-- level the number where t is the code of a level at or below that one, else 0, and the code of that level.
abbrev pub through_level : Order → Option ℕ → (n t : ℕ) → ℕ × ℕ
through_level o None n t = (n, t)
through_level o (Some l) n t = let c = code_of o l in (if bit_or t c == c then n else 0, c)

-- The input to which the wire leads has what comes out of the wire.
pub record Carries (s : NamedSystem) (v : Valuation) (w : Wire) : Type 0 where
  pub value : v.value (value_at s w.to) ≡ (through_level s.order w.level (v.value (value_at s w.from))
      (v.value (tag_at s w.from))).0
  pub tag : v.value (tag_at s w.to) ≡ (through_level s.order w.level (v.value (value_at s w.from))
      (v.value (tag_at s w.from))).1

-- The value and the tag of each of some inputs, in order.
abbrev pub inputs_for : NamedSystem → List Endpoint → List Input
inputs_for s [] = []
inputs_for s (e ∷ es) =
    record { name = value_at s e; width = width_at (system_of s) e } ∷ record {
      name = tag_at s e;
      width = width_of s.order;
    } ∷ inputs_for s es

-- `nets` has the netlist of each part, and `named` the name in the whole of each of its names, both by the part's
-- number.
pub record LinksParts (s : NamedSystem) (nets : ℕ → Net) (named : ℕ → Name → Name) (whole : Net) : Type 0 where
  pub netlist : IsNetlist whole
  pub parts : (i : ℕ) → i < length s.parts → IsPart (named i) (nets i) whole
  -- helping wires may have any names
  pub interface_names : (i : ℕ) → i < length s.parts → let p = part_at s i in
      (x : Name) → IsInterfaceName p.design p.sites x → named i x ≡ in_part p.name x
  -- it is given what no wire feeds
  pub inputs : whole.inputs ≡ inputs_for s (free_inputs (system_of s))
  pub carries : (v : Valuation) → IsValuation whole v → AllByRecursion (Carries s v) s.wires
