-- Where the netlists of parts are within the bounds of their designs, and each wire of them that is a port is a copy, a module with few items of theirs is small.
use Rattle.sap_lemmas.proofs.Common.{◌≡◌, ℕ, ◌+◌, ◌≤◌, true, List, [], ◌∷◌, filter, length, sum_by, inl, inr, refl, arith, AllByRecursion, cases_Bool, sum_by-cons}
use Rattle.sap_lattice.specs.Levels.{Levels}
use Rattle.sap_check.specs.Checked.{tree_in}
use Rattle.sap_net.specs.Prelude.{is_among, Net}
use Rattle.sap_net.specs.declared.parts.Operand.{Operand}
use Rattle.sap_net.specs.declared.parts.Right.TheVariants.{Copy}
use Rattle.sap_net.specs.declared.parts.Wire.{Wire}
use Rattle.sap_size.specs.Items.{IsSmall, items, most_items}
use Rattle.sap_maps.specs.Maps.{Name}
use Rattle.sap_trim.specs.Few.{calculated}
use Rattle.sap_trim.specs.Names.{port_names}
use Rattle.sap_share.specs.Copying.{CopiesPorts}
use Rattle.sap_linked.specs.Designs.{NamedDesign}
use Rattle.sap_linker.specs.declared.parts.LinkedPart.{LinkedPart}
use Rattle.sap_linker.specs.Given.{designs_of, named_design, nets_of}
use Rattle.sap_linker.specs.Sizes.{HasFewItems, IsSmallSystem, most_items_of, net_items}

abbrev pub AreSmall : Levels → List LinkedPart → Type 0
AreSmall ls parts = AllByRecursion (λ (p : LinkedPart). IsSmall ls (tree_in p.checked.now) p.netlist.now × CopiesPorts p.netlist.now) parts

none_calculated : (ports : List Name) (ws : List Wire) → AllByRecursion (λ w. is_among w.name ports ≡ true → (a : Operand) × (w.right ≡ Copy a)) ws
    → length (calculated (filter (λ w. is_among w.name ports) ws)) ≡ 0
none_calculated ports [] copies = refl
none_calculated ports (w ∷ ws) copies =
    elim (cases_Bool (is_among w.name ports)) [
      | inl t ↦ let copy = (copies.0 t).1 in rw (t, copy) (none_calculated ports ws copies.1)
      | inr f ↦ rw f (none_calculated ports ws copies.1)
    ]

within : (ls : Levels) (parts : List LinkedPart) → AreSmall ls parts → sum_by net_items (nets_of parts) ≤ most_items_of ls (designs_of parts)
within ls [] small = omega arith
within ls (p ∷ parts) small =
    let rest = within ls parts small.1 in
    let own : items p.netlist.now ≤ most_items ls (tree_in p.checked.now) = small.0.0 in
    let none = none_calculated (port_names p.netlist.now) p.netlist.now.wires small.0.1 in
    let nets : sum_by net_items (nets_of (p ∷ parts)) ≡ net_items p.netlist.now + sum_by net_items (nets_of parts) = sum_by-cons net_items p.netlist.now (nets_of parts) in
    let designs : most_items_of ls (designs_of (p ∷ parts)) ≡ most_items ls (tree_in p.checked.now) + most_items_of ls (designs_of parts) =
    sum_by-cons (λ (d : NamedDesign). most_items ls d.design) (named_design p) (designs_of parts) in
    omega (arith, rest, own, none, nets, designs)

pub small_system : (ls : Levels) (parts : List LinkedPart) (wires : ℕ) (n : Net) → AreSmall ls parts → HasFewItems (nets_of parts) wires n
    → IsSmallSystem ls (designs_of parts) wires n
small_system ls parts wires n small few = let sum = within ls parts small in omega (arith, few, sum)
