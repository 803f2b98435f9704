-- A file that is spelled and has no fault is a netlist that the module subset can write.
use Rattle.sap_lemmas.proofs.Common.{◌≡◌, true, AllByRecursion, flat_map}
use Rattle.sap_net.specs.Prelude.{is_name, IsNetlist}
use Rattle.sap_vtext.specs.Items.{File}
use Rattle.sap_vtext.specs.Names.{item_declarations}
use Rattle.sap_vtext.specs.Faults.{IsFaultless}
use Rattle.sap_vtext.specs.Modules.{netlist_of}
use Rattle.sap_vread.proofs.build.Entries.{declared_names}
use Rattle.sap_vread.proofs.build.Sound.{names_distinct}
use Rattle.sap_vread.proofs.build.Parts.{all_declared, declared_are, registers_ordered, memories_ordered, ports_are_first, ports_shown, inputs_are_shown}
use Rattle.sap_vread.proofs.build.Readable.{values_are, memories_sized}
use Rattle.sap_vread.proofs.build.WiresFit.{HasParts, wires_are}
use Rattle.sap_vread.proofs.build.EdgesFit.{nexts_are, writes_are}

-- names are written as names, and a `{}` has two parts at least
pub record IsWritten (f : File) : Type 0 where
  pub module_named : is_name f.module_name ≡ true
  pub named : AllByRecursion (λ x. is_name x ≡ true) (declared_names (all_declared f))
  pub parts : AllByRecursion HasParts f.items

pub file_netlist : (f : File) → IsWritten f → IsFaultless f → IsNetlist (netlist_of f)
file_netlist f w h = record {
  module_named = w.module_named;
  named = w.named;
  declared_once = names_distinct f h;
  declared = declared_are f h;
  registers_in_order = registers_ordered f h;
  memories_in_order = memories_ordered f h;
  ports_first = ports_are_first f.ports (flat_map item_declarations f.items);
  ports_show = ports_shown f h;
  inputs_are_ports = inputs_are_shown f.ports;
  values = values_are f h;
  memory_shapes = memories_sized f h;
  assigns = wires_are f h w.parts;
  nexts = nexts_are f h w.parts;
  writes = writes_are f h w.parts;
}
