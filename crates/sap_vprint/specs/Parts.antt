-- The parts of the printed text, as the code writes them.
use Rattle.std.specs.Prelude.{List, ◌++◌, ℕ, codes, flat_map, drop, length}
use Rattle.sap_maps.specs.Scope.{find}
use Rattle.sap_net.specs.Net.{Net}
use Rattle.sap_vprint.specs.Printed.{entities, printed_port, declared_items, integer_of, assign_of, initial_of, initial_cells_of, always_of, always_cell_of}
use Rattle.sap_vprint.specs.Text.{text_of, head_pieces, port_text, item_text, items_text}

-- Up to the end of the ports.
unfoldable pub front_text : Net → List ℕ
front_text n = text_of (head_pieces n.module_name)
    ++ (flat_map (λ p. port_text (printed_port n p)) n.ports ++ codes "\n);\n")

-- The declarations of what is no port.
unfoldable pub inner_text : Net → List ℕ
inner_text n = flat_map (λ x. items_text (declared_items x (find (entities n) x)))
    (drop (length n.ports) n.names) ++ items_text (integer_of n.memories)

-- What follows the declarations.
unfoldable pub body_text : Net → List ℕ
body_text n =
    flat_map (λ w. item_text (assign_of w)) n.wires
    ++ (flat_map (λ r. item_text (initial_of r)) n.registers
    ++ (flat_map (λ m. item_text (initial_cells_of m)) n.memories
    ++ (flat_map (λ r. item_text (always_of r)) n.registers
    ++ (flat_map (λ m. item_text (always_cell_of m)) n.memories ++ codes "endmodule\n"))))
