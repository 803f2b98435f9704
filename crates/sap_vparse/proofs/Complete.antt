-- What the grammar has is what the walk reads.
use Rattle.sap_lemmas.proofs.Common.{◌≡◌, ◌≢◌, ℕ, List, [], Ok, true, refl, sym, ap, ◌∙◌, ◌&&◌, test_of_same, bytes_eq_same}
use Rattle.sap_bits.specs.declared.Op1.TheVariants as unary
use Rattle.sap_bits.specs.declared.Op1.{Op1}
use Rattle.sap_bits.specs.declared.Op2.TheVariants as binary
use Rattle.sap_bits.specs.declared.Op2.{Op2}
use Rattle.sap_vtext.specs.Grammar as g
use Rattle.sap_vtext.specs.Grammar.{AreItems, AreParts, ArePorts, IsClocked, IsConstant, IsDigit, IsFile, IsItem, IsLoop, IsName, IsNumber, IsOperand, IsPort, IsRange, IsRight, IsSign, IsWord, binary_sign, unary_sign}
use Rattle.sap_vtext.specs.Items as item
use Rattle.sap_vtext.specs.Lexing.{sign_text, word_text}
use Rattle.sap_vtext.specs.Tokens as t
use Rattle.sap_vtext.specs.Tokens.{IsToken}
use Rattle.sap_vparse.specs.Choices.{after_head, item_head, right_head}
use Rattle.sap_vparse.specs.Reading.{Head, head, head_of, of_number, of_sign, of_word, reads}
use Rattle.sap_vparse.specs.Table as s
use Rattle.sap_vparse.specs.Table.{Symbol, first, next}
use Rattle.sap_vparse.specs.declared.choice.AfterHead.TheVariants as a
use Rattle.sap_vparse.specs.declared.choice.RightHead.TheVariants as r
use Rattle.sap_walk.proofs.Walking.{bind_ok, bind_pure}
use Rattle.sap_vparse.proofs.ItemLaws.{clock_update, clock_write, end_there, initial_cells, initial_start, item_always, item_assign, item_initial, item_integer, item_register, item_wire, items_end, items_more, register_end, register_memory}
use Rattle.sap_vparse.proofs.Laws.{after_choose, after_end, after_two, bracket_cell, bracket_slice, clocked_steps, file_steps, kind_reg, kind_wire, loop_steps, name_bracket, name_other, operand_constant, operand_name, parts_end, parts_more, port_input, port_output, ports_end, ports_more, range_steps, right_concat, right_constant, right_name, right_one}
use Rattle.sap_vparse.proofs.Single.{reads_first}

-- single tokens

token_reads : (x : Symbol) {p q : List t.Token} {place : ℕ} {kind : t.Kind} → IsToken p place kind q → next x kind ≡ first [] → reads x p ≡ Ok q
token_reads x {q = q} {place} {kind} h e = ap (reads x) h.parts ∙ reads_first x (record { place = place; kind = kind }) q [] e

word : {p q : List t.Token} {x : t.Word} → IsWord p x q → reads (s.word x) p ≡ Ok q
word {x = x} h = token_reads (s.word x) h.is (ap s.if_same (bytes_eq_same (word_text x)))

sign : {p q : List t.Token} {x : t.Sign} → IsSign p x q → reads (s.sign x) p ≡ Ok q
sign {x = x} h = token_reads (s.sign x) h.is (ap s.if_same (bytes_eq_same (sign_text x)))

name : {p q : List t.Token} {x : item.Mention} → IsName p x q → reads s.name p ≡ Ok q
name h = token_reads s.name h refl

number : {p q : List t.Token} {n : item.Number} → IsNumber p n q → reads s.number p ≡ Ok q
number h = token_reads s.number h.is refl

constant : {p q : List t.Token} {c : item.Constant} → IsConstant p c q → reads s.constant p ≡ Ok q
constant h = token_reads s.constant h refl

digit : {p q : List t.Token} {n : ℕ} → IsDigit p n q → reads (s.digit n) p ≡ Ok q
digit {n = n} h = token_reads (s.digit n) h.is (ap (λ b. s.if_same (b && true)) (test_of_same n))

-- what stands at the front

front : {p q : List t.Token} {place : ℕ} {kind : t.Kind} → IsToken p place kind q → head p ≡ head_of kind
unfolding head
front h = ap head h.parts

apart : {h k l : Head} → h ≡ k → k ≢ l → h ≢ l
apart e ne f = ne (sym e ∙ f)

-- parts

operand : {p q : List t.Token} {x : item.Operand} → IsOperand p x q → reads s.operand p ≡ Ok q
operand {p} (g.name h) = operand_name p (front h) ∙ name h
operand {p} (g.constant h) = operand_constant p (apart (front h) (λ e. absurd (cc))) ∙ constant h

range : {p q : List t.Token} {n : item.Number} → IsRange p n q → reads s.range p ≡ Ok q
range {p} (g.range a b c d e) = range_steps p ∙ bind_ok _ _ _ (sign a) ∙ bind_ok _ _ _ (number b) ∙ bind_ok _ _ _ (sign c) ∙ bind_ok _ _ _ (digit d) ∙ bind_ok _ _ _ (sign e)

port : {p q : List t.Token} {x : item.Port} → IsPort p x q → reads s.port p ≡ Ok q
port {p} (g.input a b c) = port_input p (front a.is) ∙ bind_ok _ _ _ (word a) ∙ bind_ok _ _ _ (range b) ∙ bind_ok _ _ _ (name c)
port {p} (g.output_reg {a = m} a b c d) =
    port_output p (apart (front a.is) (λ e. absurd (cc))) ∙ bind_ok _ _ _ (word a) ∙ bind_ok _ _ _ (kind_reg m (front b.is) ∙ word b)
    ∙ bind_ok _ _ _ (range c) ∙ bind_ok _ _ _ (name d)
port {p} (g.output_wire {a = m} a b c d) =
    port_output p (apart (front a.is) (λ e. absurd (cc))) ∙ bind_ok _ _ _ (word a)
    ∙ bind_ok _ _ _ (kind_wire m (apart (front b.is) (λ e. absurd (cc))) ∙ word b) ∙ bind_ok _ _ _ (range c) ∙ bind_ok _ _ _ (name d)

ports : {p q z : List t.Token} {xs : List item.Port} → ArePorts p xs q → IsSign q t.close_paren z → reads s.ports p ≡ Ok z
ports {p} g.no_port close = ports_end p (apart (front close.is) (λ e. absurd (cc))) ∙ sign close
ports {p} (g.next_port a b c) close = ports_more p (front a.is) ∙ bind_ok _ _ _ (sign a) ∙ bind_ok _ _ _ (port b) ∙ bind_ok _ _ _ (ports c close)

parts : {p q z : List t.Token} {xs : List item.Operand} → AreParts p xs q → IsSign q t.close_brace z → reads s.parts p ≡ Ok z
parts {p} g.no_part close = parts_end p (apart (front close.is) (λ e. absurd (cc))) ∙ sign close
parts {p} (g.next_part a b c) close = parts_more p (front a.is) ∙ bind_ok _ _ _ (sign a) ∙ bind_ok _ _ _ (operand b) ∙ bind_ok _ _ _ (parts c close)

-- right sides

-- behind a first operand that no `[` follows
behind : {p q : List t.Token} {x : item.Operand} → IsOperand p x q → head q ≢ of_sign t.open_bracket → reads s.right p ≡ reads s.after_operand q
unfolding right_head
behind {p} {q} (g.name h) ne = right_name p (ap right_head (front h)) ∙ bind_ok _ _ _ (name h) ∙ bind_pure (reads s.after_name q) ∙ name_other q ne
behind {p} {q} (g.constant h) ne = right_constant p (ap right_head (front h)) ∙ bind_ok _ _ _ (constant h) ∙ bind_pure (reads s.after_operand q)

binary_head : (op : Op2) → after_head (of_sign (binary_sign op)) ≡ a.Two op
unfolding after_head
binary_head binary.Add = refl
binary_head _ = refl

binary_apart : (op : Op2) → of_sign (binary_sign op) ≢ of_sign t.open_bracket
binary_apart binary.Add e = cc
binary_apart _ e = cc

unary_head : (op : Op1) → right_head (of_sign (unary_sign op)) ≡ r.One op
unfolding right_head
unary_head unary.Not = refl
unary_head _ = refl

not_number : {p q : List t.Token} {x : item.Operand} → IsOperand p x q → head p ≢ of_number
not_number (g.name h) = apart (front h) (λ e. absurd (cc))
not_number (g.constant h) = apart (front h) (λ e. absurd (cc))

right : {p q z : List t.Token} {x : item.Right} → IsRight p x q → IsSign q t.semicolon z → reads s.right p ≡ Ok z
unfolding right_head after_head
right {p} {q} (g.copy h) close = behind h (apart (front close.is) (λ e. absurd (cc))) ∙ after_end q (ap after_head (front close.is)) ∙ sign close
right {p} (g.two {m = m} op x o y) close =
    behind x (apart (front o.is) (binary_apart op)) ∙ after_two m op (ap after_head (front o.is) ∙ binary_head op) ∙ bind_ok _ _ _ (sign o)
    ∙ bind_ok _ _ _ (operand y) ∙ bind_ok _ _ _ (sign close)
right {p} (g.one op o x) close = right_one p op (ap right_head (front o.is) ∙ unary_head op) ∙ bind_ok _ _ _ (sign o) ∙ bind_ok _ _ _ (operand x) ∙ bind_ok _ _ _ (sign close)
right {p} (g.choose {a = m} x b y d z) close =
    behind x (apart (front b.is) (λ e. absurd (cc))) ∙ after_choose m (ap after_head (front b.is)) ∙ bind_ok _ _ _ (sign b)
    ∙ bind_ok _ _ _ (operand y) ∙ bind_ok _ _ _ (sign d) ∙ bind_ok _ _ _ (operand z) ∙ bind_ok _ _ _ (sign close)
right {p} (g.concat a x c y zs e) close =
    right_concat p (ap right_head (front a.is)) ∙ bind_ok _ _ _ (sign a) ∙ bind_ok _ _ _ (operand x) ∙ bind_ok _ _ _ (sign c)
    ∙ bind_ok _ _ _ (operand y) ∙ bind_ok _ _ _ (parts zs e) ∙ bind_ok _ _ _ (sign close)
right {p} (g.slice {a = m} {b = n} x b high d low f) close =
    right_name p (ap right_head (front x)) ∙ bind_ok _ _ _ (name x)
    ∙ bind_ok _ _ _ (name_bracket m (front b.is) ∙ bind_ok _ _ _ (sign b)
    ∙ bind_ok _ _ _ (bracket_slice n (front high.is) ∙ bind_ok _ _ _ (number high) ∙ bind_ok _ _ _ (sign d) ∙ bind_ok _ _ _ (number low)
    ∙ bind_ok _ _ _ (sign f) ∙ bind_ok _ _ _ (sign close)))
right {p} (g.cell {a = m} {b = n} x b y f) close =
    right_name p (ap right_head (front x)) ∙ bind_ok _ _ _ (name x)
    ∙ bind_ok _ _ _ (name_bracket m (front b.is) ∙ bind_ok _ _ _ (sign b)
    ∙ bind_ok _ _ _ (bracket_cell n (not_number y) ∙ bind_ok _ _ _ (operand y) ∙ bind_ok _ _ _ (sign f) ∙ bind_ok _ _ _ (sign close)))

-- items

clocked : {p q : List t.Token} → IsClocked p q → reads s.clocked p ≡ Ok q
clocked {p} (g.clocked a b c d e f) = clocked_steps p ∙ bind_ok _ _ _ (word a) ∙ bind_ok _ _ _ (sign b) ∙ bind_ok _ _ _ (sign c)
    ∙ bind_ok _ _ _ (word d) ∙ bind_ok _ _ _ (word e) ∙ bind_ok _ _ _ (sign f)

clocked_head : {p q : List t.Token} → IsClocked p q → head p ≡ of_word t.always_word
clocked_head (g.clocked a b c d e f) = front a.is

loop : {p q : List t.Token} {place : ℕ} {n : item.Number} → IsLoop p place n q → reads s.loop p ≡ Ok q
loop {p} (g.loop a b c d e f h i j k l m n o u v) =
    loop_steps p ∙ bind_ok _ _ _ (word a) ∙ bind_ok _ _ _ (sign b) ∙ bind_ok _ _ _ (word (record { place = _; is = c }))
    ∙ bind_ok _ _ _ (sign d) ∙ bind_ok _ _ _ (digit e) ∙ bind_ok _ _ _ (sign f)
    ∙ bind_ok _ _ _ (word h) ∙ bind_ok _ _ _ (sign i) ∙ bind_ok _ _ _ (number j) ∙ bind_ok _ _ _ (sign k) ∙ bind_ok _ _ _ (word l)
    ∙ bind_ok _ _ _ (sign m) ∙ bind_ok _ _ _ (word n) ∙ bind_ok _ _ _ (sign o) ∙ bind_ok _ _ _ (digit u) ∙ bind_ok _ _ _ (sign v)

loop_head : {p q : List t.Token} {place : ℕ} {n : item.Number} → IsLoop p place n q → head p ≡ of_word t.for_word
loop_head (g.loop a b c d e f h i j k l m n o u v) = front a.is

item_reads : {p q : List t.Token} {x : item.Item} → IsItem p x q → reads s.item p ≡ Ok q
unfolding item_head
item_reads {p} (g.wire a b c d) = item_wire p (ap item_head (front a.is)) ∙ bind_ok _ _ _ (word a) ∙ bind_ok _ _ _ (range b) ∙ bind_ok _ _ _ (name c) ∙ bind_ok _ _ _ (sign d)
item_reads {p} (g.register {c = m} a b c d) =
    item_register p (ap item_head (front a.is)) ∙ bind_ok _ _ _ (word a) ∙ bind_ok _ _ _ (range b) ∙ bind_ok _ _ _ (name c)
    ∙ bind_ok _ _ _ (register_end m (apart (front d.is) (λ e. absurd (cc))) ∙ sign d)
item_reads {p} (g.memory {c = m} a b c d e f h i j) =
    item_register p (ap item_head (front a.is)) ∙ bind_ok _ _ _ (word a) ∙ bind_ok _ _ _ (range b) ∙ bind_ok _ _ _ (name c)
    ∙ bind_ok _ _ _ (register_memory m (front d.is) ∙ bind_ok _ _ _ (sign d) ∙ bind_ok _ _ _ (digit e) ∙ bind_ok _ _ _ (sign f)
    ∙ bind_ok _ _ _ (number h) ∙ bind_ok _ _ _ (sign i) ∙ bind_ok _ _ _ (sign j))
item_reads {p} (g.integer a b c) = item_integer p (ap item_head (front a)) ∙ bind_ok _ _ _ (word (record { place = _; is = a })) ∙ bind_ok _ _ _ (word b) ∙ bind_ok _ _ _ (sign c)
item_reads {p} (g.assign a b c d e) = item_assign p (ap item_head (front a.is)) ∙ bind_ok _ _ _ (word a) ∙ bind_ok _ _ _ (name b)
    ∙ bind_ok _ _ _ (sign c) ∙ bind_ok _ _ _ (right d e)
item_reads {p} (g.initial {a = m} a b c d e) =
    item_initial p (ap item_head (front a.is)) ∙ bind_ok _ _ _ (word a)
    ∙ bind_ok _ _ _ (initial_start m (front b) ∙ bind_ok _ _ _ (name b) ∙ bind_ok _ _ _ (sign c) ∙ bind_ok _ _ _ (constant d) ∙ bind_ok _ _ _ (sign e))
item_reads {p} (g.initial_cells {a = m} a b c d e f h i j) =
    item_initial p (ap item_head (front a.is)) ∙ bind_ok _ _ _ (word a)
    ∙ bind_ok _ _ _ (initial_cells m (apart (loop_head b) (λ e. absurd (cc))) ∙ bind_ok _ _ _ (loop b) ∙ bind_ok _ _ _ (name c)
    ∙ bind_ok _ _ _ (sign d) ∙ bind_ok _ _ _ (word e) ∙ bind_ok _ _ _ (sign f) ∙ bind_ok _ _ _ (sign h) ∙ bind_ok _ _ _ (constant i) ∙ bind_ok _ _ _ (sign j))
item_reads {p} (g.always {a = m} a b c d e) =
    item_always p (ap item_head (clocked_head a)) ∙ bind_ok _ _ _ (clocked a)
    ∙ bind_ok _ _ _ (clock_update m (front b) ∙ bind_ok _ _ _ (name b) ∙ bind_ok _ _ _ (sign c) ∙ bind_ok _ _ _ (operand d) ∙ bind_ok _ _ _ (sign e))
item_reads {p} (g.always_cell {a = m} a b c d e f h i j k l n) =
    item_always p (ap item_head (clocked_head a)) ∙ bind_ok _ _ _ (clocked a)
    ∙ bind_ok _ _ _ (clock_write m (apart (front b.is) (λ e. absurd (cc))) ∙ bind_ok _ _ _ (word b) ∙ bind_ok _ _ _ (sign c)
    ∙ bind_ok _ _ _ (operand d) ∙ bind_ok _ _ _ (sign e) ∙ bind_ok _ _ _ (name f) ∙ bind_ok _ _ _ (sign h)
    ∙ bind_ok _ _ _ (operand i) ∙ bind_ok _ _ _ (sign j) ∙ bind_ok _ _ _ (sign k) ∙ bind_ok _ _ _ (operand l) ∙ bind_ok _ _ _ (sign n))

no_end : {p q : List t.Token} {x : item.Item} → IsItem p x q → head p ≢ of_word t.endmodule_word
no_end (g.wire a b c d) = apart (front a.is) (λ e. absurd (cc))
no_end (g.register a b c d) = apart (front a.is) (λ e. absurd (cc))
no_end (g.memory a b c d e f h i j) = apart (front a.is) (λ e. absurd (cc))
no_end (g.integer a b c) = apart (front a) (λ e. absurd (cc))
no_end (g.assign a b c d e) = apart (front a.is) (λ e. absurd (cc))
no_end (g.initial a b c d e) = apart (front a.is) (λ e. absurd (cc))
no_end (g.initial_cells a b c d e f h i j) = apart (front a.is) (λ e. absurd (cc))
no_end (g.always a b c d e) = apart (clocked_head a) (λ e. absurd (cc))
no_end (g.always_cell a b c d e f h i j k l n) = apart (clocked_head a) (λ e. absurd (cc))

items : {p q z : List t.Token} {xs : List item.Item} → AreItems p xs q → IsWord q t.endmodule_word z → z ≡ [] → reads s.items p ≡ Ok z
items {p} {z = z} g.no_item close e = items_end p (front close.is) ∙ bind_ok _ _ _ (word close) ∙ bind_ok _ _ _ (ap (reads s.end) e ∙ end_there ∙ ap (λ r. Ok r) (sym e))
items {p} (g.next_item a b) close e = items_more p (no_end a) ∙ bind_ok _ _ _ (item_reads a) ∙ bind_ok _ _ _ (items b close e)

pub file_reads : {p q : List t.Token} {x : item.File} → IsFile p x q → q ≡ [] → reads s.file p ≡ Ok q
file_reads {p} (g.file a b c d e f h i j k) whole =
    file_steps p ∙ bind_ok _ _ _ (word a) ∙ bind_ok _ _ _ (name b) ∙ bind_ok _ _ _ (sign c) ∙ bind_ok _ _ _ (word d)
    ∙ bind_ok _ _ _ (word e) ∙ bind_ok _ _ _ (ports f h) ∙ bind_ok _ _ _ (sign i) ∙ bind_ok _ _ _ (items j k whole)
