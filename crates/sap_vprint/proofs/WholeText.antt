-- The parts of the printed text are the text of the printed file.
use Rattle.sap_lemmas.proofs.Common.{◌≡◌, ℕ, List, [], ◌∷◌, ◌++◌, length, drop, refl, sym, ap, ◌∙◌, append_assoc, subst, codes, map, flat_map, flat_map-append}
use Rattle.sap_maps.specs.Scope.{find}
use Rattle.sap_net.specs.Prelude.{Net, IsNetlist}
use Rattle.sap_net.specs.declared.parts.Port.{Port}
use Rattle.sap_vtext.specs.Items.{Item}
use Rattle.sap_vtext.specs.Modules.{IsModule}
use Rattle.sap_vprint.specs.Parts.{front_text, inner_text, body_text}
use Rattle.sap_vprint.specs.Printed.{entities, printed_port, declared_items, declarations_of, integer_of, assign_of, initial_of, initial_cells_of, always_of, always_cell_of, items_of, file_of}
use Rattle.sap_vprint.specs.Text.{Piece, piece_text, text_of, head_pieces, end_of_ports, end_of_file, port_pieces, port_text, item_pieces, item_text, items_text, file_pieces}
use Rattle.sap_vprint.proofs.PrintedModule.{printed_module}

both_texts : (ps qs : List Piece) → text_of (ps ++ qs) ≡ text_of ps ++ text_of qs
both_texts ps qs = flat_map-append piece_text ps qs

-- a list of things that are printed alike
mapped_text : {A : Type 0} (f : A → Item) (xs : List A) → items_text (map f xs) ≡ flat_map (λ x. item_text (f x)) xs
unfolding item_text
mapped_text f [] = refl
mapped_text f (x ∷ xs) = both_texts (item_pieces (f x)) (flat_map item_pieces (map f xs)) ∙ ap (λ z. text_of (item_pieces (f x)) ++ z) (mapped_text f xs)

both_items : (xs ys : List Item) → items_text (xs ++ ys) ≡ items_text xs ++ items_text ys
both_items xs ys = ap text_of (flat_map-append item_pieces xs ys) ∙ both_texts (flat_map item_pieces xs) (flat_map item_pieces ys)

listed_text : {A : Type 0} (f : A → List Item) (xs : List A) → items_text (flat_map f xs) ≡ flat_map (λ x. items_text (f x)) xs
listed_text f [] = refl
listed_text f (x ∷ xs) = both_items (f x) (flat_map f xs) ∙ ap (λ z. items_text (f x) ++ z) (listed_text f xs)

ports_text : (n : Net) (ps : List Port) → text_of (flat_map port_pieces (map (printed_port n) ps)) ≡ flat_map (λ p. port_text (printed_port n p)) ps
unfolding port_text
ports_text n [] = refl
ports_text n (p ∷ ps) =
    both_texts (port_pieces (printed_port n p)) (flat_map port_pieces (map (printed_port n) ps)) ∙ ap (λ z. text_of (port_pieces (printed_port n p)) ++ z) (ports_text n ps)

all_items_text : (n : Net) → items_text (items_of n)
    ≡ flat_map (λ x. items_text (declared_items x (find (entities n) x))) (drop (length n.ports) n.names) ++ (items_text (integer_of n.memories)
    ++ (flat_map (λ w. item_text (assign_of w)) n.wires ++ (flat_map (λ r. item_text (initial_of r)) n.registers ++ (flat_map (λ m. item_text (initial_cells_of m)) n.memories
    ++ (flat_map (λ r. item_text (always_of r)) n.registers ++ flat_map (λ m. item_text (always_cell_of m)) n.memories)))))
all_items_text n =
    let declared = listed_text (λ x. declared_items x (find (entities n) x)) (drop (length n.ports) n.names) in
    let assigns = mapped_text assign_of n.wires in
    let initials = mapped_text initial_of n.registers in
    let cells = mapped_text initial_cells_of n.memories in
    let steps = mapped_text always_of n.registers in
    let writes = mapped_text always_cell_of n.memories in
    both_items (declarations_of n (drop (length n.ports) n.names)) _ ∙ two declared
    (both_items (integer_of n.memories) _ ∙ two refl
    (both_items (map assign_of n.wires) _ ∙ two assigns
    (both_items (map initial_of n.registers) _ ∙ two initials
    (both_items (map initial_cells_of n.memories) _ ∙ two cells (both_items (map always_of n.registers) (map always_cell_of n.memories) ∙ two steps writes))))) where
      two : {a b c d : List ℕ} → a ≡ c → b ≡ d → a ++ b ≡ c ++ d
      two p q = cc

regroup : (h p e d i a s c t w f : List ℕ)
    → ((h ++ (p ++ e)) ++ (d ++ i)) ++ (a ++ (s ++ (c ++ (t ++ (w ++ f))))) ≡ h ++ (p ++ (e ++ ((d ++ (i ++ (a ++ (s ++ (c ++ (t ++ w)))))) ++ f)))
regroup h p e d i a s c t w f = simp append_assoc

file_text : (n : Net) → text_of (file_pieces (file_of n))
    ≡ text_of (head_pieces n.module_name) ++ (flat_map (λ p. port_text (printed_port n p)) n.ports ++ (codes "\n);\n" ++ (items_text (items_of n) ++ codes "endmodule\n")))
file_text n =
    both_texts (head_pieces n.module_name) (flat_map port_pieces (map (printed_port n) n.ports) ++ (end_of_ports ++ (flat_map item_pieces (items_of n) ++ end_of_file)))
    ∙ ap (λ z. text_of (head_pieces n.module_name) ++ z)
    (both_texts (flat_map port_pieces (map (printed_port n) n.ports)) (end_of_ports ++ (flat_map item_pieces (items_of n) ++ end_of_file))
    ∙ ap (λ z. z ++ text_of (end_of_ports ++ (flat_map item_pieces (items_of n) ++ end_of_file))) (ports_text n n.ports)
    ∙ ap (λ z. flat_map (λ p. port_text (printed_port n p)) n.ports ++ (codes "\n);\n" ++ z)) (both_texts (flat_map item_pieces (items_of n)) end_of_file))

pub whole_text : (n : Net) → (front_text n ++ inner_text n) ++ body_text n ≡ text_of (file_pieces (file_of n))
unfolding front_text inner_text body_text
whole_text n =
    regroup (text_of (head_pieces n.module_name)) (flat_map (λ p. port_text (printed_port n p)) n.ports) (codes "\n);\n")
    (flat_map (λ x. items_text (declared_items x (find (entities n) x))) (drop (length n.ports) n.names)) (items_text (integer_of n.memories))
    (flat_map (λ w. item_text (assign_of w)) n.wires) (flat_map (λ r. item_text (initial_of r)) n.registers) (flat_map (λ m. item_text (initial_cells_of m)) n.memories)
    (flat_map (λ r. item_text (always_of r)) n.registers) (flat_map (λ m. item_text (always_cell_of m)) n.memories) (codes "endmodule\n")
    ∙ ap (λ z. text_of (head_pieces n.module_name)
    ++ (flat_map (λ p. port_text (printed_port n p)) n.ports ++ (codes "\n);\n" ++ (z ++ codes "endmodule\n")))) (sym (all_items_text n))
    ∙ sym (file_text n)

pub print_is : (n : Net) (a b text : List ℕ) → IsNetlist n → a ≡ front_text n → b ≡ a ++ inner_text n → text ≡ b ++ body_text n → IsModule text n
print_is n a b text h e f g =
    let whole : text ≡ text_of (file_pieces (file_of n)) = g ∙ ap (λ z. z ++ body_text n) (f ∙ ap (λ z. z ++ inner_text n) e) ∙ whole_text n in
    subst (λ z. IsModule z n) (sym whole) (printed_module n h)

pub front_grows : (n : Net) (o a b : List ℕ) → a ≡ o ++ text_of (head_pieces n.module_name)
    → b ≡ a ++ flat_map (λ p. port_text (printed_port n p)) n.ports → b ++ codes "\n);\n" ≡ o ++ front_text n
unfolding front_text
front_grows n o a b e f =
    ap (λ z. z ++ codes "\n);\n") (f ∙ ap (λ z. z ++ flat_map (λ p. port_text (printed_port n p)) n.ports) e)
    ∙ append_assoc (o ++ text_of (head_pieces n.module_name)) (flat_map (λ p. port_text (printed_port n p)) n.ports) (codes "\n);\n")
    ∙ append_assoc o (text_of (head_pieces n.module_name)) (flat_map (λ p. port_text (printed_port n p)) n.ports ++ codes "\n);\n")
