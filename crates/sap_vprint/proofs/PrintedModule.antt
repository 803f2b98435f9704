-- The text that is printed for a netlist is a module, with this netlist.
use Rattle.sap_lemmas.proofs.Common.{◌≡◌, List, [], ◌∷◌, ◌++◌, length, drop, Option, Some, refl, sym, ap, ◌∙◌, subst, map, map-append}
use Rattle.sap_maps.specs.Prelude.{Name, find}
use Rattle.sap_net.specs.Prelude.{Net, IsNetlist}
use Rattle.sap_net.specs.declared.parts.Operand.{Operand}
use Rattle.sap_net.specs.declared.parts.Operand.TheVariants.{Named, Constant}
use Rattle.sap_net.specs.declared.parts.Right.{Right}
use Rattle.sap_net.specs.declared.parts.Port.{Port}
use Rattle.sap_net.specs.declared.parts.Memory.{Memory}
use Rattle.sap_net.specs.declared.parts.Right.TheVariants as right
use Rattle.sap_vtext.specs.Names.{Shape, input}
use Rattle.sap_vtext.specs.Faults.{IsFaultless}
use Rattle.sap_vtext.specs.Items as item
use Rattle.sap_vtext.specs.Modules.{netlist_of, IsModule}
use Rattle.sap_vtext.proofs.Bare.{bare_operand, bare_right, bare_item, bare_port, bare}
use Rattle.sap_vtext.proofs.BareFaults.{bare_faultless}
use Rattle.sap_vtext.proofs.BareNet.{bare_netlist}
use Rattle.sap_vtext.proofs.Good.{good_faultless}
use Rattle.sap_vprint.specs.Text.{text_of, file_pieces}
use Rattle.sap_vprint.specs.Printed.{mention, entities, operand_of, right_of, printed_port, declared_items, declarations_of, integer_of, assign_of, initial_of, initial_cells_of, always_of, always_cell_of, items_of, file_of}
use Rattle.sap_vprint.proofs.Names.{file_written}
use Rattle.sap_vprint.proofs.ReadBack.{file_read}
use Rattle.sap_vprint.proofs.SameNet.{netlist_back}
use Rattle.sap_vprint.proofs.Spaced.{tokens_at}
use Rattle.sap_vprint.proofs.Whole.{printed_good}
use Rattle.sap_vprint.proofs.Written.{file_lexed, items_whole}

-- The printed file has no places.

operand_bare : (o : Operand) → bare_operand (operand_of o) ≡ operand_of o
operand_bare (Named x) = refl
operand_bare (Constant w v) = refl

operands_bare : (os : List Operand) → map bare_operand (map operand_of os) ≡ map operand_of os
operands_bare [] = refl
operands_bare (o ∷ os) = let a = operand_bare o in let b = operands_bare os in cc

right_bare : (r : Right) → bare_right (right_of r) ≡ right_of r
right_bare (right.Copy x) = ap item.copy (operand_bare x)
right_bare (right.One op x) = ap (item.one op) (operand_bare x)
right_bare (right.Two op x y) = let a = operand_bare x in let b = operand_bare y in cc
right_bare (right.Choose c x y) = let a = operand_bare c in let b = operand_bare x in let d = operand_bare y in cc
right_bare (right.Concat os) = ap item.concat (operands_bare os)
right_bare (right.Slice x hi lo) = refl
right_bare (right.Cell m i) = ap (item.cell (mention m)) (operand_bare i)

list_bare : {A : Type 0} (f : A → item.Item) → ((x : A) → bare_item (f x) ≡ f x) → (xs : List A) → map bare_item (map f xs) ≡ map f xs
list_bare f e [] = refl
list_bare f e (x ∷ xs) = let a = e x in let b = list_bare f e xs in cc

both_bare : (xs ys : List item.Item) → map bare_item xs ≡ xs → map bare_item ys ≡ ys → map bare_item (xs ++ ys) ≡ xs ++ ys
both_bare xs ys p q = map-append bare_item xs ys ∙ ap (λ z. z ++ map bare_item ys) p ∙ ap (λ z. xs ++ z) q

declared_bare : (x : Name) (o : Option Shape) → map bare_item (declared_items x o) ≡ declared_items x o
declared_bare x (Some (input w)) = refl
declared_bare x _ = refl

declarations_bare : (n : Net) (xs : List Name) → map bare_item (declarations_of n xs) ≡ declarations_of n xs
declarations_bare n [] = refl
declarations_bare n (x ∷ xs) = both_bare (declared_items x (find (entities n) x)) (declarations_of n xs) (declared_bare x (find (entities n) x)) (declarations_bare n xs)

integer_bare : (ms : List Memory) → map bare_item (integer_of ms) ≡ integer_of ms
integer_bare [] = refl
integer_bare (m ∷ ms) = refl

items_bare : (n : Net) → map bare_item (items_of n) ≡ items_of n
items_bare n =
    both_bare (declarations_of n (drop (length n.ports) n.names)) _ (declarations_bare n (drop (length n.ports) n.names))
    (both_bare (integer_of n.memories) _ (integer_bare n.memories)
    (both_bare (map assign_of n.wires) _ (list_bare assign_of (λ w. ap (item.assign (mention w.name)) (right_bare w.right)) n.wires)
    (both_bare (map initial_of n.registers) _ (list_bare initial_of (λ r. refl) n.registers)
    (both_bare (map initial_cells_of n.memories) _ (list_bare initial_cells_of (λ r. refl) n.memories)
    (both_bare (map always_of n.registers) (map always_cell_of n.memories) (list_bare always_of (λ r. ap (item.always (mention r.name)) (operand_bare r.next)) n.registers)
    (list_bare always_cell_of (λ m. let a = operand_bare m.enable in let b = operand_bare m.index in let c = operand_bare m.value in cc) n.memories))))))

ports_bare : (n : Net) (ps : List Port) → map bare_port (map (printed_port n) ps) ≡ map (printed_port n) ps
ports_bare n [] = refl
ports_bare n (p ∷ ps) = ap (λ z. printed_port n p ∷ z) (ports_bare n ps)

file_bare : (n : Net) → bare (file_of n) ≡ file_of n
file_bare n =
    ap (λ z. let f : item.File = record { module_name = n.module_name; ports = z; items = map bare_item (items_of n) } in f) (ports_bare n n.ports)
    ∙ ap (λ z. let f : item.File = record { module_name = n.module_name; ports = map (printed_port n) n.ports; items = z } in f) (items_bare n)

pub printed_module : (n : Net) → IsNetlist n → IsModule (text_of (file_pieces (file_of n))) n
printed_module n h =
    let f = file_of n in
    let written = file_written n h in
    let read = file_read f (items_whole f.items written.items) in
    record {
      tokens = tokens_at 0 (file_pieces f);
      lexed = file_lexed f written;
      file = read.found;
      spelled = read.is;
      faultless = bare_faultless read.found (subst IsFaultless (sym (read.same ∙ file_bare n)) (good_faultless f (printed_good n h)));
      netlist = sym (bare_netlist read.found) ∙ ap netlist_of read.same ∙ bare_netlist f ∙ netlist_back n h;
    }
