-- What holds of all free inputs and of all that feeds holds of each input of a part.
use Rattle.sap_lemmas.proofs.Common.{◌≡◌, ℕ, true, List, [], ◌∷◌, map, Option, Some, None, sym, subst, AllByRecursion, all_of_map, all_parts, some_unique}
use Rattle.sap_maps.specs.Prelude.{Name, find}
use Rattle.sap_lattice.specs.Codes.{width_of}
use Rattle.sap_meaning.specs.Program.{is_input, width}
use Rattle.sap_net.specs.declared.parts.PortKind.TheVariants as kind
use Rattle.sap_net.specs.Net.{Net}
use Rattle.sap_net.specs.declared.parts.Input.{Input}
use Rattle.sap_net.specs.declared.parts.Wire.{Wire}
use Rattle.sap_interface.specs.Prelude.{Named, world, NetStandsFor}
use Rattle.sap_link.specs.Systems.{Endpoint, endpoint, System, width_at, free_inputs}
use Rattle.sap_link.specs.Systems.{Wire as SystemWire, world as world_at}
use Rattle.sap_linked.specs.Prelude.{NamedSystem, part_at, system_of, in_part, value_at, tag_at, IsNetOf, inputs_for, names_of_inputs, feeds_through, feeds}
use Rattle.sap_linked.proofs.Own.{both, inputs_found}
use Rattle.sap_linked.proofs.Fed.{each_input}
use Rattle.sap_linked.proofs.Inputs.{input_names_are}
use Rattle.sap_linked.proofs.Linked.{design_at, design_is}
use Rattle.sap_linked.proofs.Entities.{of_pairs}

module _ (s : NamedSystem) (Q : Name → ℕ → Type 0) where
  abbrev y : System
  y = system_of s

  abbrev pub AtEnd : Endpoint → Type 0
  AtEnd e = Q (value_at s e) (width_at y e) × Q (tag_at s e) (width_of s.order)

  pub free_ends : (es : List Endpoint) → AllByRecursion (λ (i : Input). Q i.name i.width) (inputs_for s es) → AllByRecursion AtEnd es
  free_ends [] a = tt
  free_ends (e ∷ es) a = ((a.0, a.1.0), free_ends es a.1.1)

  fed_end : (w : SystemWire) (l : Option ℕ) → AllByRecursion (λ (x : Wire). Q x.name x.width) (feeds_through s w l) → AtEnd w.to
  fed_end w None a = (a.0, a.1.0)
  fed_end w (Some l) a = (a.1.1.0, a.1.1.1.0)

  pub fed_ends : (ws : List SystemWire) → AllByRecursion (λ (x : Wire). Q x.name x.width) (feeds s ws) → AllByRecursion (λ w. AtEnd w.to) ws
  fed_ends [] a = tt
  fed_ends (w ∷ ws) a =
      let b = all_parts (λ (x : Wire). Q x.name x.width) (feeds_through s w w.level) (feeds s ws) a in
      (fed_end w w.level b.0, fed_ends ws b.1)

  module _ (free : AllByRecursion (λ (i : Input). Q i.name i.width) (inputs_for s (free_inputs (system_of s))))
      (feeding : AllByRecursion (λ (w : Wire). Q w.name w.width) (feeds s s.wires)) where
    at_input : (i x : ℕ) → is_input (world_at y i) x ≡ true → AtEnd (endpoint i x)
    at_input = each_input y AtEnd (free_ends (free_inputs y) free) (fed_ends s.wires feeding)

    module _ (i : ℕ) (n : Net) (net : IsNetOf s.order (part_at s i) n) where
      abbrev d : Named
      d = design_at s i

      stands : NetStandsFor d (width_of s.order) (part_at s i).sites n
      stands = subst (λ d. NetStandsFor d (width_of s.order) (part_at s i).sites n) (sym (design_is s i net.codes)) net.stands

      abbrev Fits : Name → Type 0
      Fits x = (u : ℕ) → find (map (λ (input : Input). (input.name, input.width)) n.inputs) x ≡ Some u → Q (in_part (part_at s i).name x) u

      names_fit : AllByRecursion Fits (names_of_inputs d)
      names_fit = of_pairs Fits (is_input (world d)) kind.Input d (λ x is. (
        (λ u h. subst (λ (w : ℕ). Q (value_at s (endpoint i x)) w) (some_unique _ (width (world d) x) u (stands.interface.declares.inputs x is).0 h) (at_input i x is).0),
        (λ u h. subst (λ (w : ℕ). Q (tag_at s (endpoint i x)) w) (some_unique _ (width_of s.order) u (stands.interface.declares.inputs x is).1 h) (at_input i x is).1),
      )) 0 (world d).entities

      pub at_inputs : AllByRecursion (λ (input : Input). Q (in_part (part_at s i).name input.name) input.width) n.inputs
      at_inputs =
          both (λ (input : Input). Fits input.name) (λ input. find (map (λ (input : Input). (input.name, input.width)) n.inputs) input.name ≡ Some input.width)
          (λ input. Q (in_part (part_at s i).name input.name) input.width) n.inputs (λ input fits h. fits input.width h)
          (all_of_map Fits (λ (input : Input). input.name) n.inputs
          (subst (λ (ns : List Name). AllByRecursion Fits ns) (sym (input_names_are d (part_at s i).sites n net.netlist stands.interface.declares.ports)) names_fit))
          (inputs_found n net.netlist)
