-- The tokens of a file's pieces are that file by the grammar, places aside.
use Rattle.sap_lemmas.proofs.Common.{◌≡◌, ◌+◌, ℕ, List, [], ◌∷◌, ◌++◌, length, refl, sym, ap, ◌∙◌, subst, append_assoc, map, flat_map, AllByRecursion}
use Rattle.sap_bits.specs.declared.Op1.{Op1}
use Rattle.sap_bits.specs.declared.Op2.{Op2}
use Rattle.sap_vtext.specs.Items.{Mention, Number, Operand, Constant, Right, Item, Port, Direction, File}
use Rattle.sap_vtext.specs.Items as item
use Rattle.sap_vtext.specs.Tokens.{Word, Sign, Token, IsToken}
use Rattle.sap_vtext.specs.Tokens as t
use Rattle.sap_vtext.specs.Grammar as g
use Rattle.sap_vtext.specs.Grammar.{IsWord, IsSign, IsName, IsNumber, IsDigit, IsConstant, IsOperand, IsPort, ArePorts, AreParts, IsRight, IsItem, AreItems, IsFile}
use Rattle.sap_vprint.specs.Text.{Piece, space, line, comment, word, sign, name, operand, operand_text, piece_text, part_pieces, right_pieces, item_pieces, port_pieces, file_pieces, end_of_ports, end_of_file}
use Rattle.sap_vprint.proofs.Spaced.{tokens_at, kind_of_operand}
use Rattle.sap_vtext.proofs.Bare.{bare_name, bare_operand, bare_right, bare_item, bare_port, bare}

word_here : {ts r : List Token} {place : ℕ} {w : Word} → ts ≡ (let k : Token = record { place = place; kind = t.word w } in k ∷ r) → IsWord ts w r
word_here {place = place} e = record { place = place; is = record { parts = e } }

sign_here : {ts r : List Token} {place : ℕ} {w : Sign} → ts ≡ (let k : Token = record { place = place; kind = t.sign w } in k ∷ r) → IsSign ts w r
sign_here {place = place} e = record { place = place; is = record { parts = e } }

number_here : {ts r : List Token} {digits : ℕ} {n : Number} → ts ≡ (let k : Token = record { place = n.place; kind = t.number n.value digits } in k ∷ r) → IsNumber ts n r
number_here {digits = digits} e = record { digits = digits; is = record { parts = e } }

digit_here : {ts r : List Token} {place n : ℕ} → ts ≡ (let k : Token = record { place = place; kind = t.number n 1 } in k ∷ r) → IsDigit ts n r
digit_here {place = place} e = record { place = place; is = record { parts = e } }

name_here : {ts r : List Token} {x : Mention} → ts ≡ (let k : Token = record { place = x.place; kind = t.name x.name } in k ∷ r) → IsName ts x r
name_here e = record { parts = e }

word_at : {ts r : List Token} {place : ℕ} {w : Word} → ts ≡ (let k : Token = record { place = place; kind = t.word w } in k ∷ r) → IsToken ts place (t.word w) r
word_at e = record { parts = e }

constant_here : {ts r : List Token} {c : Constant} → ts ≡ (let k : Token = record { place = c.place; kind = t.constant c.width c.value } in k ∷ r) → IsConstant ts c r
constant_here e = record { parts = e }

-- where things stand
abbrev name_at : ℕ → List ℕ → Mention
name_at p n = record { place = p; name = n }

abbrev number_at : ℕ → ℕ → Number
number_at p n = record { place = p; value = n }

abbrev constant_at : ℕ → Constant → Constant
constant_at p c = record { place = p; width = c.width; value = c.value }

abbrev operand_at : ℕ → Operand → Operand
operand_at p (item.named x) = item.named (name_at p x.name)
operand_at p (item.constant c) = item.constant (constant_at p c)

operand_here : {ts r : List Token} (p : ℕ) (x : Operand) → ts ≡ (let k : Token = record { place = p; kind = kind_of_operand x } in k ∷ r) → IsOperand ts (operand_at p x) r
operand_here p (item.named x) e = g.name (record { parts = e })
operand_here p (item.constant c) e = g.constant (record { parts = e })

bare_operand_at : (p : ℕ) (x : Operand) → bare_operand (operand_at p x) ≡ bare_operand x
bare_operand_at p (item.named x) = refl
bare_operand_at p (item.constant c) = refl

-- what the grammar reads of pieces is the same, places aside
record Read {A : Type 0} (bare : A → A) (Is : List Token → A → List Token → Type 0) (ts : List Token) (x : A) (qs : List Piece) : Type 0 where
  at : ℕ
  found : A
  is : Is ts found (tokens_at at qs)
  same : bare found ≡ bare x

cons_same : {A : Type 0} {x y : A} {xs ys : List A} → x ≡ y → xs ≡ ys → x ∷ xs ≡ y ∷ ys
cons_same p q = cc

parts_read : (from : ℕ) (xs : List Operand) (qs : List Piece) → Read (map bare_operand) AreParts (tokens_at from (flat_map part_pieces xs ++ qs)) xs qs
parts_read from [] qs = record { at = from; found = []; is = g.no_part; same = refl }
parts_read from (x ∷ xs) qs =
    let others = parts_read (((from + 1) + 1) + length (operand_text x)) xs qs in
    record {
      at = others.at;
      found = operand_at ((from + 1) + 1) x ∷ others.found;
      is = g.next_part (sign_here refl) (operand_here ((from + 1) + 1) x refl) others.is;
      same = cons_same (bare_operand_at ((from + 1) + 1) x) others.same;
    }

one_same : (op : Op1) (p : ℕ) (x : Operand) → bare_right (item.one op (operand_at p x)) ≡ bare_right (item.one op x)
one_same op p x = ap (item.one op) (bare_operand_at p x)

two_same : (op : Op2) (p q : ℕ) (x y : Operand) → bare_right (item.two op (operand_at p x) (operand_at q y)) ≡ bare_right (item.two op x y)
two_same op p q x y = let a = bare_operand_at p x in let b = bare_operand_at q y in cc

choose_same : (p q r : ℕ) (c x y : Operand) → bare_right (item.choose (operand_at p c) (operand_at q x) (operand_at r y)) ≡ bare_right (item.choose c x y)
choose_same p q r c x y = let a = bare_operand_at p c in let b = bare_operand_at q x in let d = bare_operand_at r y in cc

concat_same : (p q : ℕ) (x y : Operand) (found zs : List Operand) → map bare_operand found ≡ map bare_operand zs
    → bare_right (item.concat (operand_at p x ∷ operand_at q y ∷ found)) ≡ bare_right (item.concat (x ∷ y ∷ zs))
concat_same p q x y found zs e = ap item.concat (cons_same (bare_operand_at p x) (cons_same (bare_operand_at q y) e))

-- behind the first two parts
concat_read : (from : ℕ) (x y : Operand) (zs : List Operand) (qs : List Piece)
    → Read bare_right IsRight (tokens_at from (sign t.open_brace ∷ operand x ∷ sign t.comma ∷ space ∷ operand y
    ∷ (flat_map part_pieces zs ++ (sign t.close_brace ∷ qs)))) (item.concat (x ∷ y ∷ zs)) qs
concat_read from x y zs qs =
    let p = from + 1 in
    let q = ((p + length (operand_text x)) + 1) + 1 in
    let others = parts_read (q + length (operand_text y)) zs (sign t.close_brace ∷ qs) in
    record {
      at = others.at + 1;
      found = item.concat (operand_at p x ∷ operand_at q y ∷ others.found);
      is = g.concat (sign_here refl) (operand_here p x refl) (sign_here refl) (operand_here q y refl) others.is (sign_here refl);
      same = concat_same p q x y others.found zs others.same;
    }

-- a `{}` has two parts or more
abbrev pub HasParts : Right → Type 0
HasParts (item.concat []) = ⊥
HasParts (item.concat (x ∷ [])) = ⊥
HasParts _ = Unit {0}

right_read : (from : ℕ) (right : Right) (qs : List Piece) → HasParts right → Read bare_right IsRight (tokens_at from (right_pieces right ++ qs)) right qs
right_read from (item.copy x) qs h = record { at = _; found = item.copy (operand_at from x); is = g.copy (operand_here from x refl); same = ap item.copy (bare_operand_at from x) }
right_read from (item.one op x) qs h = record { at = _; found = item.one op (operand_at _ x); is = g.one op (sign_here refl) (operand_here _ x refl); same = one_same op _ x }
right_read from (item.two op x y) qs h =
    record {
      at = _;
      found = item.two op (operand_at _ x) (operand_at _ y);
      is =
          g.two op (operand_here _ x refl) (sign_here refl) (operand_here _ y refl);
      same = two_same op _ _ x y;
    }
right_read from (item.choose c x y) qs h =
    record {
      at = _;
      found = item.choose (operand_at _ c) (operand_at _ x) (operand_at _ y);
      is = g.choose (operand_here _ c refl) (sign_here refl) (operand_here _ x refl) (sign_here refl) (operand_here _ y refl);
      same = choose_same _ _ _ c x y;
    }
right_read from (item.concat []) qs h = absurd h
right_read from (item.concat (x ∷ [])) qs h = absurd h
right_read from (item.concat (x ∷ y ∷ zs)) qs h =
    let e = append_assoc (flat_map part_pieces zs) (sign t.close_brace ∷ []) qs in
    subst (λ rest. Read bare_right IsRight (tokens_at from (sign t.open_brace ∷ operand x ∷ sign t.comma ∷ space ∷ operand y ∷ rest))
    (item.concat (x ∷ y ∷ zs)) qs) (sym e) (concat_read from x y zs qs)
right_read from (item.slice x high low) qs h =
    record {
      at = _;
      found = item.slice (name_at _ x.name) high low;
      is = g.slice (name_here refl) (sign_here refl) (number_here {n = number_at _ high} refl) (sign_here refl) (number_here {n = number_at _ low} refl) (sign_here refl);
      same = refl;
    }
right_read from (item.cell m index) qs h =
    record {
      at = _;
      found = item.cell (name_at _ m.name) (operand_at _ index);
      is = g.cell (name_here refl) (sign_here refl) (operand_here _ index refl) (sign_here refl);
      same = ap (item.cell (name_at 0 m.name)) (bare_operand_at _ index);
    }

-- the right side of an `assign` has parts
abbrev pub IsWhole : Item → Type 0
IsWhole (item.assign x right) = HasParts right
IsWhole _ = Unit {0}

assign_read : (from : ℕ) (x : Mention) (right : Right) (qs : List Piece) → HasParts right
    → Read bare_item IsItem (tokens_at from (word t.assign_word ∷ space ∷ name x.name ∷ space ∷ sign t.is ∷ space
    ∷ (right_pieces right ++ (sign t.semicolon ∷ line ∷ qs)))) (item.assign x right) qs
assign_read from x right qs h =
    let p = (from + 6) + 1 in
    let read = right_read ((((p + length x.name) + 1) + 1) + 1) right (sign t.semicolon ∷ line ∷ qs) h in
    record {
      at = (read.at + 1) + 1;
      found = item.assign (name_at p x.name) read.found;
      is = g.assign (word_here refl) (name_here refl) (sign_here refl) read.is (sign_here refl);
      same = ap (item.assign (bare_name x)) read.same;
    }

always_same : (p : ℕ) (x : Mention) (next : Operand) → bare_item (item.always x (operand_at p next)) ≡ bare_item (item.always x next)
always_same p x next = ap (item.always (bare_name x)) (bare_operand_at p next)

always_cell_same : (p q r : ℕ) (x : Mention) (condition index value : Operand)
    → bare_item (item.always_cell (operand_at p condition) x (operand_at q index) (operand_at r value)) ≡ bare_item (item.always_cell condition x index value)
always_cell_same p q r x condition index value =
    let a = bare_operand_at p condition in let b = bare_operand_at q index in let c = bare_operand_at r value in cc

item_read : (from : ℕ) (x : Item) (qs : List Piece) → IsWhole x → Read bare_item IsItem (tokens_at from (item_pieces x ++ qs)) x qs
item_read from (item.wire n x) qs h = record {
  at = _;
  found = item.wire (number_at _ n.value) (name_at _ x.name);
  is = g.wire (word_here refl) (g.range (sign_here refl) (number_here refl) (sign_here refl) (digit_here refl) (sign_here refl)) (name_here refl) (sign_here refl);
  same = refl;
}
item_read from (item.register n x) qs h = record {
  at = _;
  found = item.register (number_at _ n.value) (name_at _ x.name);
  is = g.register (word_here refl) (g.range (sign_here refl) (number_here refl) (sign_here refl) (digit_here refl) (sign_here refl)) (name_here refl) (sign_here refl);
  same = refl;
}
item_read from (item.memory n x last) qs h = record {
  at = _;
  found = item.memory (number_at _ n.value) (name_at _ x.name) (number_at _ last.value);
  is = g.memory (word_here refl) (g.range (sign_here refl) (number_here refl) (sign_here refl) (digit_here refl) (sign_here refl)) (name_here refl)
      (sign_here refl) (digit_here refl) (sign_here refl) (number_here refl) (sign_here refl) (sign_here refl);
  same = refl;
}
item_read from (item.integer place) qs h = record { at = _; found = item.integer _; is = g.integer (word_at refl) (word_here refl) (sign_here refl); same = refl }
item_read from (item.assign x right) qs h =
    let e = append_assoc (right_pieces right) (sign t.semicolon ∷ line ∷ []) qs in
    subst (λ rest. Read bare_item IsItem (tokens_at from (word t.assign_word ∷ space ∷ name x.name ∷ space ∷ sign t.is ∷ space ∷ rest))
    (item.assign x right) qs) (sym e) (assign_read from x right qs h)
item_read from (item.initial x value) qs h = record {
  at = _;
  found = item.initial (name_at _ x.name) (constant_at _ value);
  is = g.initial (word_here refl) (name_here refl) (sign_here refl) (constant_here refl) (sign_here refl);
  same = refl;
}
item_read from (item.initial_cells place n x value) qs h = record {
  at = _;
  found = item.initial_cells _ (number_at _ n.value) (name_at _ x.name) (constant_at _ value);
  is = g.initial_cells (word_here refl)
      (g.loop (word_here refl) (sign_here refl) (word_at refl) (sign_here refl) (digit_here refl) (sign_here refl) (word_here refl) (sign_here refl) (number_here refl)
      (sign_here refl) (word_here refl) (sign_here refl) (word_here refl) (sign_here refl) (digit_here refl) (sign_here refl))
      (name_here refl) (sign_here refl) (word_here refl) (sign_here refl) (sign_here refl) (constant_here refl) (sign_here refl);
  same = refl;
}
item_read from (item.always x next) qs h = record {
  at = _;
  found = item.always (name_at _ x.name) (operand_at _ next);
  is = g.always (g.clocked (word_here refl) (sign_here refl) (sign_here refl) (word_here refl) (word_here refl) (sign_here refl)) (name_here refl) (sign_here refl)
      (operand_here _ next refl) (sign_here refl);
  same = always_same _ x next;
}
item_read from (item.always_cell condition x index value) qs h = record {
  at = _;
  found = item.always_cell (operand_at _ condition) (name_at _ x.name) (operand_at _ index) (operand_at _ value);
  is = g.always_cell (g.clocked (word_here refl) (sign_here refl) (sign_here refl) (word_here refl) (word_here refl) (sign_here refl)) (word_here refl) (sign_here refl)
      (operand_here _ condition refl) (sign_here refl) (name_here refl) (sign_here refl) (operand_here _ index refl) (sign_here refl)
      (sign_here refl) (operand_here _ value refl) (sign_here refl);
  same = always_cell_same _ _ _ x condition index value;
}

items_read : (from : ℕ) (xs : List Item) (qs : List Piece) → AllByRecursion IsWhole xs → Read (map bare_item) AreItems (tokens_at from (flat_map item_pieces xs ++ qs)) xs qs
items_read from [] qs h = record { at = from; found = []; is = g.no_item; same = refl }
items_read from (x ∷ xs) qs h =
    let first = item_read from x (flat_map item_pieces xs ++ qs) h.0 in
    let others = items_read first.at xs qs h.1 in
    let e = append_assoc (item_pieces x) (flat_map item_pieces xs) qs in
    subst (λ ps. Read (map bare_item) AreItems (tokens_at from ps) (x ∷ xs) qs) (sym e)
    (record { at = others.at; found = first.found ∷ others.found; is = g.next_item first.is others.is; same = cons_same first.same others.same })

record ReadPort (ts : List Token) (x : Port) (qs : List Piece) : Type 0 where
  at : ℕ
  comma : List Token
  behind : IsSign ts t.comma comma
  found : Port
  is : IsPort comma found (tokens_at at qs)
  same : bare_port found ≡ bare_port x

-- a port of its parts
abbrev port_of : Direction → Number → Mention → Port
port_of d n x = record { direction = d; range = n; name = x }

port_read : (from : ℕ) (d : Direction) (n : Number) (x : Mention) (qs : List Piece) → ReadPort (tokens_at from (port_pieces (port_of d n x) ++ qs)) (port_of d n x) qs
port_read from item.input n x qs = record {
  at = _;
  comma = _;
  behind = sign_here refl;
  found = port_of item.input (number_at _ n.value) (name_at _ x.name);
  is = g.input (word_here refl) (g.range (sign_here refl) (number_here refl) (sign_here refl) (digit_here refl) (sign_here refl)) (name_here refl);
  same = refl;
}
port_read from item.output_register n x qs = record {
  at = _;
  comma = _;
  behind = sign_here refl;
  found = port_of item.output_register (number_at _ n.value) (name_at _ x.name);
  is = g.output_reg (word_here refl) (word_here refl) (g.range (sign_here refl) (number_here refl) (sign_here refl) (digit_here refl) (sign_here refl)) (name_here refl);
  same = refl;
}
port_read from item.output_wire n x qs = record {
  at = _;
  comma = _;
  behind = sign_here refl;
  found = port_of item.output_wire (number_at _ n.value) (name_at _ x.name);
  is = g.output_wire (word_here refl) (word_here refl) (g.range (sign_here refl) (number_here refl) (sign_here refl) (digit_here refl) (sign_here refl)) (name_here refl);
  same = refl;
}

ports_read : (from : ℕ) (xs : List Port) (qs : List Piece) → Read (map bare_port) ArePorts (tokens_at from (flat_map port_pieces xs ++ qs)) xs qs
ports_read from [] qs = record { at = from; found = []; is = g.no_port; same = refl }
ports_read from (x ∷ xs) qs =
    let first = port_read from x.direction x.range x.name (flat_map port_pieces xs ++ qs) in
    let others = ports_read first.at xs qs in
    let e = append_assoc (port_pieces x) (flat_map port_pieces xs) qs in
    subst (λ ps. Read (map bare_port) ArePorts (tokens_at from ps) (x ∷ xs) qs) (sym e)
    (record { at = others.at; found = first.found ∷ others.found; is = g.next_port first.behind first.is others.is; same = cons_same first.same others.same })

-- a file that is read from the pieces of another, and is the same but for places
pub record ReadFile (f : File) : Type 0 where
  pub found : File
  pub is : IsFile (tokens_at 0 (file_pieces f)) found []
  pub same : bare found ≡ bare f

file_same : (n : List ℕ) {ps qs : List Port} {xs ys : List Item} → ps ≡ qs → xs ≡ ys
    → (let v : File = record { module_name = n; ports = ps; items = xs } in v) ≡ (let w : File = record { module_name = n; ports = qs; items = ys } in w)
file_same n {ps} {qs} {xs} {ys} p q =
    ap (λ z. let v : File = record { module_name = n; ports = z; items = xs } in v) p ∙ ap (λ z. let v : File = record { module_name = n; ports = qs; items = z } in v) q

pub file_read : (f : File) → AllByRecursion IsWhole f.items → ReadFile f
file_read f h =
    let p = 0 + length (piece_text comment) + 1 + 6 + 1 in
    let ports = ports_read ((((((p + length f.module_name + 1) + 1) + 1) + 1 + 5) + 1) + 3) f.ports (end_of_ports ++ (flat_map item_pieces f.items ++ end_of_file)) in
    let items = items_read (((ports.at + 1) + 1) + 1 + 1) f.items end_of_file h in
    record {
      found = record { module_name = f.module_name; ports = ports.found; items = items.found };
      is = g.file {x = name_at p f.module_name} (word_here refl) (name_here refl) (sign_here refl) (word_here refl) (word_here refl)
          ports.is (sign_here refl) (sign_here refl) items.is (word_here refl);
      same = file_same f.module_name ports.same items.same;
    }
