-- A netlist doesn't depend on places.
use Rattle.sap_lemmas.proofs.Common.{◌≡◌, ℕ, List, [], ◌∷◌, Option, refl, ap, ◌∙◌, map, flat_map, unwrap_or}
use Rattle.sap_net.specs.Net.{Net}
use Rattle.sap_net.specs.declared.parts.Operand.{Operand as NetOperand}
use Rattle.sap_net.specs.declared.parts.Port.{Port as NetPort}
use Rattle.sap_net.specs.declared.parts.Input.{Input}
use Rattle.sap_net.specs.declared.parts.Wire.{Wire}
use Rattle.sap_net.specs.declared.parts.Register.{Register}
use Rattle.sap_net.specs.declared.parts.Memory.{Memory}
use Rattle.sap_net.specs.declared.parts.Right.TheVariants as right
use Rattle.sap_vtext.specs.Items.{Operand, Right, Item, File}
use Rattle.sap_vtext.specs.Items as item
use Rattle.sap_vtext.specs.Names.{Shape, Declaration, declarations, shape_in}
use Rattle.sap_vtext.specs.Names as shape
use Rattle.sap_vtext.specs.Modules.{net_operand, net_right, net_port, port_input, declared_width, net_wires, first_given, initial_number, next_operand, Write, cell_write, nothing, when, net_register, written_memory, net_memory, shape_registers, shape_memories, netlist_of}
use Rattle.sap_vtext.proofs.Bare.{bare_operand, bare_right, bare_item, bare_port, bare}
use Rattle.sap_vtext.proofs.BareFaults.{bare_declaration, all_declared, bare_shape_in}

map_bare : {A B : Type 0} (h : A → A) (f : A → B) → ((x : A) → f (h x) ≡ f x) → (xs : List A) → map f (map h xs) ≡ map f xs
map_bare h f e [] = refl
map_bare h f e (x ∷ xs) = let a = e x in let b = map_bare h f e xs in cc

flat_map_bare : {A B : Type 0} (h : A → A) (f g : A → List B) → ((x : A) → f (h x) ≡ g x) → (xs : List A) → flat_map f (map h xs) ≡ flat_map g xs
flat_map_bare h f g e [] = refl
flat_map_bare h f g e (x ∷ xs) = let a = e x in let b = flat_map_bare h f g e xs in cc

operand_net : (x : Operand) → net_operand (bare_operand x) ≡ net_operand x
operand_net (item.named x) = refl
operand_net (item.constant c) = refl

right_net : (r : Right) → net_right (bare_right r) ≡ net_right r
right_net (item.copy x) = ap right.Copy (operand_net x)
right_net (item.one op x) = ap (right.One op) (operand_net x)
right_net (item.two op x y) = let a = operand_net x in let b = operand_net y in cc
right_net (item.choose c x y) = let a = operand_net c in let b = operand_net x in let d = operand_net y in cc
right_net (item.concat xs) = ap right.Concat (map_bare bare_operand net_operand operand_net xs)
right_net (item.slice x high low) = refl
right_net (item.cell m index) = ap (right.Cell m.name) (operand_net index)

wires_net : (ds : List Declaration) (x : Item) → net_wires (map bare_declaration ds) (bare_item x) ≡ net_wires ds x
wires_net ds (item.assign x r) =
    ap (λ s. (let w : Wire = record { name = x.name; width = declared_width s; right = net_right (bare_right r) } in w) ∷ []) (bare_shape_in ds x.name)
    ∙ ap (λ y. (let w : Wire = record { name = x.name; width = declared_width (shape_in ds x.name); right = y } in w) ∷ []) (right_net r)
wires_net ds (item.wire n x) = refl
wires_net ds _ = refl

given_bare : {A : Type 0} (f : Item → Option A) → ((x : Item) → f (bare_item x) ≡ f x) → (xs : List Item) → first_given f (map bare_item xs) ≡ first_given f xs
given_bare f e [] = refl
given_bare f e (x ∷ xs) = let a = e x in let b = given_bare f e xs in cc

initial_net : (n : List ℕ) (x : Item) → initial_number n (bare_item x) ≡ initial_number n x
initial_net n (item.initial x value) = refl
initial_net n _ = refl

next_net : (n : List ℕ) (x : Item) → next_operand n (bare_item x) ≡ next_operand n x
next_net n (item.always x next) = ap (λ o. when x.name n o) (operand_net next)
next_net n _ = refl

write_net : (n : List ℕ) (x : Item) → cell_write n (bare_item x) ≡ cell_write n x
write_net n (item.always_cell condition x index value) = ap (λ w. when x.name n w) (write_same (operand_net condition) (operand_net index) (operand_net value)) where
  write_same : {a a' b b' c c' : NetOperand} → a ≡ a' → b ≡ b' → c ≡ c'
      → (let v : Write = record { enable = a; index = b; value = c } in v) ≡ (let w : Write = record { enable = a'; index = b'; value = c' } in w)
  write_same {a} {a'} {b} {b'} {c} {c'} p q r =
      ap (λ z. let w : Write = record { enable = z; index = b; value = c } in w) p
      ∙ ap (λ z. let w : Write = record { enable = a'; index = z; value = c } in w) q
      ∙ ap (λ z. let w : Write = record { enable = a'; index = b'; value = z } in w) r
write_net n _ = refl

register_net : (n : List ℕ) (width : ℕ) (xs : List Item) → net_register n width (map bare_item xs) ≡ net_register n width xs
register_net n width xs =
    ap (λ s. let r : Register = record { name = n; width = width; start = unwrap_or s 0; next = unwrap_or (first_given (next_operand n) (map bare_item xs)) nothing } in r)
    (given_bare (initial_number n) (initial_net n) xs)
    ∙ ap (λ o. let r : Register = record { name = n; width = width; start = unwrap_or (first_given (initial_number n) xs) 0; next = unwrap_or o nothing } in r)
    (given_bare (next_operand n) (next_net n) xs)

abbrev no_write : Write
no_write = record { enable = nothing; index = nothing; value = nothing }

memory_net : (n : List ℕ) (width depth : ℕ) (xs : List Item) → net_memory n width depth (map bare_item xs) ≡ net_memory n width depth xs
memory_net n width depth xs =
    ap (λ s. written_memory n width depth (unwrap_or s 0) (unwrap_or (first_given (cell_write n) (map bare_item xs)) no_write)) (given_bare (initial_number n) (initial_net n) xs)
    ∙ ap (λ w. written_memory n width depth (unwrap_or (first_given (initial_number n) xs) 0) (unwrap_or w no_write)) (given_bare (cell_write n) (write_net n) xs)

registers_net : (n : List ℕ) (s : Shape) (xs : List Item) → shape_registers n s (map bare_item xs) ≡ shape_registers n s xs
registers_net n (shape.register width) xs = ap (λ r. r ∷ []) (register_net n width xs)
registers_net n _ xs = refl

memories_net : (n : List ℕ) (s : Shape) (xs : List Item) → shape_memories n s (map bare_item xs) ≡ shape_memories n s xs
memories_net n (shape.memory width depth) xs = ap (λ m. m ∷ []) (memory_net n width depth xs)
memories_net n _ xs = refl

pub net_same : (n : List ℕ) {a a' : List (List ℕ)} {b b' : List NetPort} {c c' : List Input} {d d' : List Wire} {e e' : List Register} {f f' : List Memory}
    → a ≡ a' → b ≡ b' → c ≡ c' → d ≡ d' → e ≡ e' → f ≡ f'
    → (let v : Net = record { module_name = n; names = a; ports = b; inputs = c; wires = d; registers = e; memories = f } in v)
    ≡ (let w : Net = record { module_name = n; names = a'; ports = b'; inputs = c'; wires = d'; registers = e'; memories = f' } in w)
net_same n {a} {a'} {b} {b'} {c} {c'} {d} {d'} {e} {e'} {f} {f'} p q r s t u =
    ap (λ z. let w : Net = record { module_name = n; names = z; ports = b; inputs = c; wires = d; registers = e; memories = f } in w) p
    ∙ ap (λ z. let w : Net = record { module_name = n; names = a'; ports = z; inputs = c; wires = d; registers = e; memories = f } in w) q
    ∙ ap (λ z. let w : Net = record { module_name = n; names = a'; ports = b'; inputs = z; wires = d; registers = e; memories = f } in w) r
    ∙ ap (λ z. let w : Net = record { module_name = n; names = a'; ports = b'; inputs = c'; wires = z; registers = e; memories = f } in w) s
    ∙ ap (λ z. let w : Net = record { module_name = n; names = a'; ports = b'; inputs = c'; wires = d'; registers = z; memories = f } in w) t
    ∙ ap (λ z. let w : Net = record { module_name = n; names = a'; ports = b'; inputs = c'; wires = d'; registers = e'; memories = z } in w) u

pub bare_netlist : (f : File) → netlist_of (bare f) ≡ netlist_of f
bare_netlist f =
    let ds = declarations f.ports f.items in
    let xs = map bare_item f.items in
    let e = all_declared f.ports f.items in
    net_same f.module_name
    (ap (map (λ d. d.name.name)) e ∙ map_bare bare_declaration (λ d. d.name.name) (λ d. refl) ds)
    (map_bare bare_port net_port (λ p. refl) f.ports)
    (flat_map_bare bare_port port_input port_input (λ p. refl) f.ports)
    (ap (λ z. flat_map (net_wires z) xs) e ∙ flat_map_bare bare_item (net_wires (map bare_declaration ds)) (net_wires ds) (wires_net ds) f.items)
    (ap (flat_map (λ d. shape_registers d.name.name d.shape xs)) e
    ∙ flat_map_bare bare_declaration (λ d. shape_registers d.name.name d.shape xs) (λ d. shape_registers d.name.name d.shape f.items)
    (λ d. registers_net d.name.name d.shape f.items) ds)
    (ap (flat_map (λ d. shape_memories d.name.name d.shape xs)) e
    ∙ flat_map_bare bare_declaration (λ d. shape_memories d.name.name d.shape xs) (λ d. shape_memories d.name.name d.shape f.items)
    (λ d. memories_net d.name.name d.shape f.items) ds)
