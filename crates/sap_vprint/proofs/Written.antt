-- A file whose names are names and whose numbers are below 2 to 64 is written so that it can be read.
use Rattle.sap_lemmas.proofs.Common.{◌≡◌, ◌<◌, ◌^◌, ℕ, List, [], ◌∷◌, ◌++◌, true, refl, sym, subst, append_assoc, ◌&&◌, flat_map, AllByRecursion, and_from}
use Rattle.sap_bits.specs.declared.Op1.{Op1}
use Rattle.sap_bits.specs.declared.Op1.TheVariants as unary
use Rattle.sap_bits.specs.declared.Op2.{Op2}
use Rattle.sap_bits.specs.declared.Op2.TheVariants as binary
use Rattle.sap_vtext.specs.Grammar.{unary_sign, binary_sign}
use Rattle.sap_vtext.specs.Items.{Mention, Number, Operand, Right, Item, Port, Direction, File}
use Rattle.sap_vtext.specs.Items as item
use Rattle.sap_vtext.specs.Lexing.{Lexed}
use Rattle.sap_vtext.specs.Tokens as t
use Rattle.sap_vprint.specs.Text.{Piece, space, line, word, sign, name, number, operand, text_of, range_pieces, part_pieces, right_pieces, item_pieces, direction_pieces, port_pieces, file_pieces, end_of_ports, end_of_file}
use Rattle.sap_vprint.proofs.Spelled.{IsName, IsWritable, IsSpelled}
use Rattle.sap_vprint.proofs.Spaced.{is_spaced, follows, may_follow, ends_run, AreSpelled, tokens_at, pieces_lexed}
use Rattle.sap_vprint.proofs.ReadBack.{HasParts, IsWhole}

behind_line : (qs : List Piece) → is_spaced qs ≡ true → (follows line qs && is_spaced qs) ≡ true
behind_line [] h = refl
behind_line (q ∷ qs) h = h

unary_follows : (op : Op1) (x : Operand) → may_follow (sign (unary_sign op)) (operand x) ≡ true
unary_follows unary.Not x = refl
unary_follows _ x = refl

binary_follows : (op : Op2) → may_follow (sign (binary_sign op)) space ≡ true
binary_follows binary.Add = refl
binary_follows _ = refl

parts_spaced : (x : Operand) (zs : List Operand) (qs : List Piece) → is_spaced (sign t.close_brace ∷ qs) ≡ true
    → is_spaced (operand x ∷ (flat_map part_pieces zs ++ (sign t.close_brace ∷ qs))) ≡ true
parts_spaced x [] qs h = h
parts_spaced x (z ∷ zs) qs h = parts_spaced z zs qs h

-- before a right side stands a space, and behind it `;`
right_spaced : (right : Right) (qs : List Piece) → HasParts right → is_spaced (sign t.semicolon ∷ qs) ≡ true
    → is_spaced (space ∷ (right_pieces right ++ (sign t.semicolon ∷ qs))) ≡ true
right_spaced (item.copy x) qs w h = h
right_spaced (item.one op x) qs w h = and_from (may_follow (sign (unary_sign op)) (operand x)) _ (unary_follows op x) h
right_spaced (item.two op x y) qs w h = and_from (may_follow (sign (binary_sign op)) space) _ (binary_follows op) h
right_spaced (item.choose c x y) qs w h = h
right_spaced (item.concat []) qs w h = absurd w
right_spaced (item.concat (x ∷ [])) qs w h = absurd w
right_spaced (item.concat (x ∷ y ∷ zs)) qs w h =
    let e = append_assoc (flat_map part_pieces zs) (sign t.close_brace ∷ []) (sign t.semicolon ∷ qs) in
    subst (λ rest. is_spaced (operand y ∷ rest) ≡ true) (sym e) (parts_spaced y zs (sign t.semicolon ∷ qs) h)
right_spaced (item.slice x high low) qs w h = h
right_spaced (item.cell m index) qs w h = h

item_spaced : (x : Item) (qs : List Piece) → IsWhole x → is_spaced qs ≡ true → is_spaced (item_pieces x ++ qs) ≡ true
item_spaced (item.assign x right) qs w h =
    let e = append_assoc (right_pieces right) (sign t.semicolon ∷ line ∷ []) qs in
    subst (λ rest. is_spaced (space ∷ rest) ≡ true) (sym e) (right_spaced right (line ∷ qs) w (behind_line qs h))
item_spaced _ qs w h = behind_line qs h

items_spaced : (xs : List Item) (qs : List Piece) → AllByRecursion IsWhole xs → is_spaced qs ≡ true → is_spaced (flat_map item_pieces xs ++ qs) ≡ true
items_spaced [] qs w h = h
items_spaced (x ∷ xs) qs w h =
    let e = append_assoc (item_pieces x) (flat_map item_pieces xs) qs in
    subst (λ ps. is_spaced ps ≡ true) (sym e) (item_spaced x (flat_map item_pieces xs ++ qs) w.0 (items_spaced xs qs w.1 h))

port_spaced : (d : Direction) (n : Number) (x : Mention) (qs : List Piece) → is_spaced (name x.name ∷ qs) ≡ true
    → is_spaced (sign t.comma ∷ line ∷ space ∷ space ∷ ((direction_pieces d ++ (range_pieces n.value ++ (name x.name ∷ []))) ++ qs)) ≡ true
port_spaced item.input n x qs h = h
port_spaced _ n x qs h = h

-- behind a keyword or a name
ports_spaced : (p : Piece) → ((q : Piece) → ends_run q ≡ true → may_follow p q ≡ true) → (xs : List Port) (qs : List Piece) → is_spaced (line ∷ qs) ≡ true
    → is_spaced (p ∷ (flat_map port_pieces xs ++ (line ∷ qs))) ≡ true
ports_spaced p follow [] qs h = and_from (may_follow p line) _ (follow line refl) h
ports_spaced p follow (x ∷ xs) qs h =
    let rest = flat_map port_pieces xs ++ (line ∷ qs) in
    let e = append_assoc (port_pieces x) (flat_map port_pieces xs) (line ∷ qs) in
    let first = port_spaced x.direction x.range x.name rest (ports_spaced (name x.name.name) (λ q g. g) xs qs h) in
    subst (λ ps. is_spaced (p ∷ ps) ≡ true) (sym e) (and_from (may_follow p (sign t.comma)) _ (follow (sign t.comma) refl) first)

file_spaced : (f : File) → AllByRecursion IsWhole f.items → is_spaced (file_pieces f) ≡ true
file_spaced f w = ports_spaced (word t.clk_word) (λ q h. h) f.ports (sign t.close_paren ∷ sign t.semicolon ∷ line
    ∷ (flat_map item_pieces f.items ++ end_of_file)) (behind_line (flat_map item_pieces f.items ++ end_of_file) (items_spaced f.items end_of_file w refl))

spelled_append : (ps qs : List Piece) → AreSpelled ps → AreSpelled qs → AreSpelled (ps ++ qs)
spelled_append [] qs h g = g
spelled_append (name n ∷ ps) qs h g = (h.0, spelled_append ps qs h.1 g)
spelled_append (number n ∷ ps) qs h g = (h.0, spelled_append ps qs h.1 g)
spelled_append (operand x ∷ ps) qs h g = (h.0, spelled_append ps qs h.1 g)
spelled_append (p ∷ ps) qs h g = spelled_append ps qs h g

abbrev pub IsOperandWritten : Operand → Type 0
IsOperandWritten (item.named x) = IsName x.name
IsOperandWritten (item.constant c) = IsWritable c

abbrev pub IsNumberWritten : ℕ → Type 0
IsNumberWritten n = n < 2 ^ 64

abbrev pub IsRightWritten : Right → Type 0
IsRightWritten (item.copy x) = IsOperandWritten x
IsRightWritten (item.one op x) = IsOperandWritten x
IsRightWritten (item.two op x y) = IsOperandWritten x × IsOperandWritten y
IsRightWritten (item.choose c x y) = IsOperandWritten c × IsOperandWritten x × IsOperandWritten y
IsRightWritten (item.concat xs) = AllByRecursion IsOperandWritten xs × HasParts (item.concat xs)
IsRightWritten (item.slice x high low) = IsName x.name × IsNumberWritten high × IsNumberWritten low
IsRightWritten (item.cell m index) = IsName m.name × IsOperandWritten index

abbrev pub IsItemWritten : Item → Type 0
IsItemWritten (item.wire n x) = IsNumberWritten n.value × IsName x.name
IsItemWritten (item.register n x) = IsNumberWritten n.value × IsName x.name
IsItemWritten (item.memory n x last) = IsNumberWritten n.value × IsName x.name × IsNumberWritten last.value
IsItemWritten (item.integer place) = Unit {0}
IsItemWritten (item.assign x right) = IsName x.name × IsRightWritten right
IsItemWritten (item.initial x value) = IsName x.name × IsWritable value
IsItemWritten (item.initial_cells place n x value) = IsNumberWritten n.value × IsName x.name × IsWritable value
IsItemWritten (item.always x next) = IsName x.name × IsOperandWritten next
IsItemWritten (item.always_cell condition x index value) = IsOperandWritten condition × IsName x.name × IsOperandWritten index × IsOperandWritten value

abbrev pub IsPortWritten : Port → Type 0
IsPortWritten p = IsNumberWritten p.range.value × IsName p.name.name

pub record IsFileWritten (f : File) : Type 0 where
  pub name : IsName f.module_name
  pub ports : AllByRecursion IsPortWritten f.ports
  pub items : AllByRecursion IsItemWritten f.items

right_whole : (right : Right) → IsRightWritten right → HasParts right
right_whole (item.concat xs) h = h.1
right_whole _ h = tt

item_whole : (x : Item) → IsItemWritten x → IsWhole x
item_whole (item.assign x right) h = right_whole right h.1
item_whole _ h = tt

pub items_whole : (xs : List Item) → AllByRecursion IsItemWritten xs → AllByRecursion IsWhole xs
items_whole [] h = tt
items_whole (x ∷ xs) h = (item_whole x h.0, items_whole xs h.1)

operand_spelled : (x : Operand) → IsOperandWritten x → IsSpelled (operand x)
operand_spelled (item.named x) h = h
operand_spelled (item.constant c) h = h

parts_spelled : (xs : List Operand) (qs : List Piece) → AllByRecursion IsOperandWritten xs → AreSpelled qs → AreSpelled (flat_map part_pieces xs ++ qs)
parts_spelled [] qs h g = g
parts_spelled (x ∷ xs) qs h g = (operand_spelled x h.0, parts_spelled xs qs h.1 g)

right_spelled : (right : Right) → IsRightWritten right → AreSpelled (right_pieces right)
right_spelled (item.copy x) h = (operand_spelled x h, tt)
right_spelled (item.one op x) h = (operand_spelled x h, tt)
right_spelled (item.two op x y) h = (operand_spelled x h.0, (operand_spelled y h.1, tt))
right_spelled (item.choose c x y) h = (operand_spelled c h.0, (operand_spelled x h.1, (operand_spelled y h.2, tt)))
right_spelled (item.concat []) h = tt
right_spelled (item.concat (x ∷ xs)) h = (operand_spelled x h.0.0, parts_spelled xs (sign t.close_brace ∷ []) h.0.1 tt)
right_spelled (item.slice x high low) h = (h.0, (h.1, (h.2, tt)))
right_spelled (item.cell m index) h = (h.0, (operand_spelled index h.1, tt))

item_spelled : (x : Item) → IsItemWritten x → AreSpelled (item_pieces x)
item_spelled (item.memory n x last) h = (h.0, (h.1, (h.2, tt)))
item_spelled (item.integer place) h = tt
item_spelled (item.assign x right) h = (h.0, spelled_append (right_pieces right) (sign t.semicolon ∷ line ∷ []) (right_spelled right h.1) tt)
item_spelled (item.initial_cells place n x value) h = (h.0, (h.1, (h.2, tt)))
item_spelled (item.always x next) h = (h.0, (operand_spelled next h.1, tt))
item_spelled (item.always_cell condition x index value) h = (operand_spelled condition h.0, (h.1, (operand_spelled index h.2, (operand_spelled value h.3, tt))))
item_spelled _ h = (h.0, (h.1, tt))

items_spelled : (xs : List Item) → AllByRecursion IsItemWritten xs → AreSpelled (flat_map item_pieces xs)
items_spelled [] h = tt
items_spelled (x ∷ xs) h = spelled_append (item_pieces x) (flat_map item_pieces xs) (item_spelled x h.0) (items_spelled xs h.1)

port_spelled : (d : Direction) (n : Number) (x : Mention) → IsNumberWritten n.value → IsName x.name
    → AreSpelled (direction_pieces d ++ (range_pieces n.value ++ (name x.name ∷ [])))
port_spelled item.input n x h g = (h, (g, tt))
port_spelled _ n x h g = (h, (g, tt))

ports_spelled : (xs : List Port) → AllByRecursion IsPortWritten xs → AreSpelled (flat_map port_pieces xs)
ports_spelled [] h = tt
ports_spelled (x ∷ xs) h = spelled_append (port_pieces x) (flat_map port_pieces xs) (port_spelled x.direction x.range x.name h.0.0 h.0.1) (ports_spelled xs h.1)

file_spelled : (f : File) → IsFileWritten f → AreSpelled (file_pieces f)
file_spelled f h = (
  h.name,
  spelled_append (flat_map port_pieces f.ports) (end_of_ports ++ (flat_map item_pieces f.items ++ end_of_file)) (ports_spelled f.ports h.ports)
      (spelled_append (flat_map item_pieces f.items) end_of_file (items_spelled f.items h.items) tt),
)

pub file_lexed : (f : File) → IsFileWritten f → Lexed 0 (text_of (file_pieces f)) (tokens_at 0 (file_pieces f))
file_lexed f h = pieces_lexed (file_pieces f) 0 (file_spelled f h) (file_spaced f (items_whole f.items h.items))
