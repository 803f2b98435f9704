-- Names that a text spells are written as names, and its `{}` have two parts at least.
use Rattle.sap_lemmas.proofs.Common.{◌≡◌, ℕ, ◌+◌, List, [], ◌∷◌, ◌++◌, length, take, drop, Bool, true, false, cond, Option, Some, None, refl, sym, ap, ◌∙◌, subst, arith, not, map, flat_map, find as first_such, take_while, nat_eq, codes, AllByRecursion, list_all, prefix_len, starts_with, is_ascii_digit, bytes_eq, and_from, map-append}
use Rattle.sap_lemmas.proofs.Everywhere.{none_passes}
use Rattle.sap_lemmas.proofs.Lists.{take_more}
use Rattle.sap_text.proofs.NamesLemmas.{initial_inner}
use Rattle.sap_vtext.proofs.LexingLemmas.{keywords_are}
use Rattle.sap_net.specs.Names.{is_initial, is_inner, is_word, is_keyword, is_name}
use Rattle.sap_vtext.specs.Tokens.{Word, Sign, Kind, Token, IsToken}
use Rattle.sap_vtext.specs.Tokens as t
use Rattle.sap_vtext.specs.Lexing.{Front, blank, token, bad, word_text, words, word_or_name, name_front, sign_or_bad, number_front, constant_front, is_constant, digits_front, digits_of_front, is_blank, front, Lexed}
use Rattle.sap_vtext.specs.Lexing as l
use Rattle.sap_vtext.specs.Items.{Mention, Number, Constant, Operand, Right, Port, Item, File}
use Rattle.sap_vtext.specs.Items as item
use Rattle.sap_vtext.specs.Names.{port_declaration, item_declarations}
use Rattle.sap_vtext.specs.Grammar as g
use Rattle.sap_vtext.specs.Grammar.{IsWord, IsSign, IsName, IsNumber, IsDigit, IsConstant, IsOperand, IsRange, IsPort, ArePorts, AreParts, IsRight, IsClocked, IsLoop, IsItem, AreItems, IsFile}
use Rattle.sap_vread.specs.Build.Spelled.{IsSpelled}
use Rattle.sap_vread.proofs.build.Entries.{declared_names}
use Rattle.sap_vread.proofs.build.WiresFit.{HasParts}
use Rattle.sap_vread.proofs.build.Netlist.{IsWritten}

-- Tokens.

abbrev IsNamed : Kind → Type 0
IsNamed (t.name n) = is_name n ≡ true
IsNamed _ = Unit {0}

data IsNamedFront : Front → Type 0 where
  blank_named : {len : ℕ} → IsNamedFront (blank len)
  token_named : {kind : Kind} {len : ℕ} → IsNamed kind → IsNamedFront (token kind len)
  bad_named : IsNamedFront bad

cond_named : (b : Bool) (x y : Front) → (b ≡ true → IsNamedFront x) → (b ≡ false → IsNamedFront y) → IsNamedFront (cond b x y)
cond_named true x y f k = f refl
cond_named false x y f k = k refl

kind_named : (run : List ℕ) (o : Option Word) → first_such (λ w. bytes_eq run (word_text w)) words ≡ o → is_word run ≡ true → IsNamed (word_or_name o run)
unfolding is_name
kind_named run (Some w) e h = tt
kind_named run None e h =
    let none : is_keyword run ≡ false = sym (keywords_are run) ∙ none_passes (λ w. bytes_eq run (word_text w)) words e in
    and_from (is_word run) (not (is_keyword run)) h (ap not none)

all_taken : (p : ℕ → Bool) (xs : List ℕ) → list_all p (take_while p xs) ≡ true
all_taken p [] = refl
all_taken p (x ∷ xs) = by_test (p x) refl (all_taken p xs) where
  by_test : (b : Bool) → p x ≡ b → list_all p (take_while p xs) ≡ true → list_all p (take (cond b (1 + prefix_len p xs) 0) (x ∷ xs)) ≡ true
  by_test true e k = ap (list_all p) (take_more (prefix_len p xs) x xs) ∙ and_from (p x) (list_all p (take_while p xs)) e k
  by_test false e k = refl

run_word : (b : ℕ) (bs : List ℕ) → is_initial b ≡ true → is_word (take_while is_inner (b ∷ bs)) ≡ true
run_word b bs h =
    let first : take_while is_inner (b ∷ bs) ≡ b ∷ take_while is_inner bs =
    ap (λ c. take (cond c (1 + prefix_len is_inner bs) 0) (b ∷ bs)) (initial_inner b h) ∙ take_more (prefix_len is_inner bs) b bs in
    ap is_word first ∙ and_from (is_initial b) (list_all is_inner (take_while is_inner bs)) h (all_taken is_inner bs)

name_named : (run : List ℕ) → is_word run ≡ true → IsNamedFront (name_front run)
name_named run h = token_named (kind_named run (first_such (λ w. bytes_eq run (word_text w)) words) refl h)

sign_named : (o : Option Sign) → IsNamedFront (sign_or_bad o)
sign_named (Some s) = token_named tt
sign_named None = bad_named

digits_named : (digits after : List ℕ) → IsNamedFront (digits_front digits after)
digits_named digits after =
    cond_named (is_constant digits after) (constant_front digits (digits_of_front (drop 2 after))) (number_front digits)
    (λ s. cond_named _ _ _ (λ u. token_named tt) (λ u. bad_named))
    (λ s. cond_named _ _ _ (λ u. token_named tt) (λ u. bad_named))

front_named : (bs : List ℕ) → IsNamedFront (front bs)
unfolding front
front_named [] = bad_named
front_named (b ∷ bs) =
    cond_named (is_blank b) _ _ (λ p. blank_named)
    (λ p. cond_named (starts_with nat_eq (b ∷ bs) (codes "//")) _ _ (λ q. blank_named)
    (λ q. cond_named (is_initial b) _ _ (λ r. name_named (take_while is_inner (b ∷ bs)) (run_word b bs r))
    (λ r. cond_named (is_ascii_digit b) _ _ (λ s. digits_named (digits_of_front (b ∷ bs)) (drop (length (digits_of_front (b ∷ bs))) (b ∷ bs)))
    (λ s. sign_named (first_such (λ z. starts_with nat_eq (b ∷ bs) (l.sign_text z)) l.signs)))))

of_front : (x : Front) (kind : Kind) (len : ℕ) → IsNamedFront x → x ≡ token kind len → IsNamed kind
of_front x kind len blank_named e = absurd (cc)
of_front x kind len bad_named e = absurd (cc)
of_front x kind len (token_named {kind = k} n) e = let q : k ≡ kind = cc in subst IsNamed q n

abbrev AllNamed : List Token → Type 0
AllNamed ts = AllByRecursion (λ x. IsNamed x.kind) ts

lexed_named : {from : ℕ} {bs : List ℕ} {ts : List Token} → Lexed from bs ts → AllNamed ts
lexed_named l.end = tt
lexed_named (l.blank_first len e x) = lexed_named x
lexed_named (l.token_first {bs = bs} kind len e x) = (of_front (front bs) kind len (front_named bs) e, lexed_named x)

-- The grammar.

past : {ts r : List Token} {p : ℕ} {k : Kind} → IsToken ts p k r → AllNamed ts → IsNamed k × AllNamed r
past {r = r} {p = p} {k = k} h a = let b = subst AllNamed h.parts a in (b.0, b.1)

past_word : {ts r : List Token} {w : Word} → IsWord ts w r → AllNamed ts → AllNamed r
past_word h a = (past h.is a).1

past_sign : {ts r : List Token} {s : Sign} → IsSign ts s r → AllNamed ts → AllNamed r
past_sign h a = (past h.is a).1

past_number : {ts r : List Token} {n : Number} → IsNumber ts n r → AllNamed ts → AllNamed r
past_number h a = (past h.is a).1

past_digit : {ts r : List Token} {n : ℕ} → IsDigit ts n r → AllNamed ts → AllNamed r
past_digit h a = (past h.is a).1

past_constant : {ts r : List Token} {c : Constant} → IsConstant ts c r → AllNamed ts → AllNamed r
past_constant h a = (past h a).1

past_name : {ts r : List Token} {x : Mention} → IsName ts x r → AllNamed ts → (is_name x.name ≡ true) × AllNamed r
past_name h a = past h a

past_operand : {ts r : List Token} {o : Operand} → IsOperand ts o r → AllNamed ts → AllNamed r
past_operand (g.name h) a = (past h a).1
past_operand (g.constant h) a = (past h a).1

past_range : {ts r : List Token} {n : Number} → IsRange ts n r → AllNamed ts → AllNamed r
past_range (g.range a b c d e) n = past_sign e (past_digit d (past_sign c (past_number b (past_sign a n))))

past_port : {ts r : List Token} {p : Port} → IsPort ts p r → AllNamed ts → (is_name p.name.name ≡ true) × AllNamed r
past_port (g.input a b c) n = past_name c (past_range b (past_word a n))
past_port (g.output_reg a b c d) n = past_name d (past_range c (past_word b (past_word a n)))
past_port (g.output_wire a b c d) n = past_name d (past_range c (past_word b (past_word a n)))

abbrev AreNames : List (List ℕ) → Type 0
AreNames ns = AllByRecursion (λ x. is_name x ≡ true) ns

past_ports : {ts r : List Token} {ps : List Port} → ArePorts ts ps r → AllNamed ts → AreNames (declared_names (map port_declaration ps)) × AllNamed r
past_ports g.no_port n = (tt, n)
past_ports (g.next_port a b c) n =
    let p = past_port b (past_sign a n) in
    let q = past_ports c p.1 in
    ((p.0, q.0), q.1)

past_parts : {ts r : List Token} {os : List Operand} → AreParts ts os r → AllNamed ts → AllNamed r
past_parts g.no_part n = n
past_parts (g.next_part a b c) n = past_parts c (past_operand b (past_sign a n))

past_right : {ts r : List Token} {right : Right} (x : Mention) → IsRight ts right r → AllNamed ts → HasParts (item.assign x right) × AllNamed r
past_right x (g.copy a) n = (tt, past_operand a n)
past_right x (g.two op a b c) n = (tt, past_operand c (past_sign b (past_operand a n)))
past_right x (g.one op a b) n = (tt, past_operand b (past_sign a n))
past_right x (g.choose a b c d e) n = (tt, past_operand e (past_sign d (past_operand c (past_sign b (past_operand a n)))))
past_right x (g.concat a b c d e f) n = (omega arith, past_sign f (past_parts e (past_operand d (past_sign c (past_operand b (past_sign a n))))))
past_right x (g.slice a b c d e f) n = (tt, past_sign f (past_number e (past_sign d (past_number c (past_sign b (past_name a n).1)))))
past_right x (g.cell a b c d) n = (tt, past_sign d (past_operand c (past_sign b (past_name a n).1)))

past_clocked : {ts r : List Token} → IsClocked ts r → AllNamed ts → AllNamed r
past_clocked (g.clocked a b c d e f) n = past_sign f (past_word e (past_word d (past_sign c (past_sign b (past_word a n)))))

past_loop : {ts r : List Token} {place : ℕ} {bound : Number} → IsLoop ts place bound r → AllNamed ts → AllNamed r
past_loop (g.loop a b c d e f h i j k l m o p q s) n =
    past_sign s (past_digit q (past_sign p (past_word o (past_sign m (past_word l (past_sign k (past_number j (past_sign i (past_word h (past_sign f (past_digit e (past_sign d
    (past c (past_sign b (past_word a n))).1))))))))))))

abbrev IsWrittenItem : Item → Type 0
IsWrittenItem x = AreNames (declared_names (item_declarations x)) × HasParts x

past_item : {ts r : List Token} {x : Item} → IsItem ts x r → AllNamed ts → IsWrittenItem x × AllNamed r
past_item (g.wire a b c d) n = let x = past_name c (past_range b (past_word a n)) in (((x.0, tt), tt), past_sign d x.1)
past_item (g.register a b c d) n = let x = past_name c (past_range b (past_word a n)) in (((x.0, tt), tt), past_sign d x.1)
past_item (g.memory a b c d e f h i j) n =
    let x = past_name c (past_range b (past_word a n)) in
    (((x.0, tt), tt), past_sign j (past_sign i (past_number h (past_sign f (past_digit e (past_sign d x.1))))))
past_item (g.integer a b c) n = ((tt, tt), past_sign c (past_word b (past a n).1))
past_item (g.assign {x = y} a b c d e) n =
    let x = past_name b (past_word a n) in
    let s = past_right y d (past_sign c x.1) in
    ((tt, s.0), past_sign e s.1)
past_item (g.initial a b c d e) n = ((tt, tt), past_sign e (past_constant d (past_sign c (past_name b (past_word a n)).1)))
past_item (g.initial_cells a b c d e f h i j) n =
    ((tt, tt), past_sign j (past_constant i (past_sign h (past_sign f (past_word e (past_sign d (past_name c (past_loop b (past_word a n))).1))))))
past_item (g.always a b c d e) n = ((tt, tt), past_sign e (past_operand d (past_sign c (past_name b (past_clocked a n)).1)))
past_item (g.always_cell a b c d e f h i j k l m) n = (
  (tt, tt),
  past_sign m (past_operand l (past_sign k
      (past_sign j (past_operand i (past_sign h (past_name f (past_sign e (past_operand d (past_sign c (past_word b (past_clocked a n)))))).1))))),
)

joined : (ms ns : List (List ℕ)) → AreNames ms → AreNames ns → AreNames (ms ++ ns)
joined [] ns p q = q
joined (m ∷ ms) ns p q = (p.0, joined ms ns p.1 q)

past_items : {ts r : List Token} {xs : List Item} → AreItems ts xs r → AllNamed ts
    → AreNames (declared_names (flat_map item_declarations xs)) × AllByRecursion HasParts xs × AllNamed r
past_items g.no_item n = (tt, tt, n)
past_items (g.next_item {x = x} {xs = xs} a b) n =
    let p = past_item a n in
    let q = past_items b p.1 in (
      subst AreNames (sym (map-append (λ d. d.name.name) (item_declarations x) (flat_map item_declarations xs)))
          (joined (declared_names (item_declarations x)) (declared_names (flat_map item_declarations xs)) p.0.0 q.0),
      (p.0.1, q.1),
      q.2,
    )

file_written : {ts r : List Token} {f : File} → IsFile ts f r → AllNamed ts → IsWritten f
file_written (g.file {ps = ps} {xs = xs} a b c d e ports h i items z) n =
    let x = past_name b (past_word a n) in
    let p = past_ports ports (past_word e (past_word d (past_sign c x.1))) in
    let q = past_items items (past_sign i (past_sign h p.1)) in
    record {
      module_named = x.0;
      named = subst AreNames (sym (map-append (λ y. y.name.name) (map port_declaration ps) (flat_map item_declarations xs)))
          (joined (declared_names (map port_declaration ps)) (declared_names (flat_map item_declarations xs)) p.0 q.0);
      parts = q.1;
    }

pub spelled_written : (f : File) → IsSpelled f → IsWritten f
spelled_written f s = file_written s.is.spelled (lexed_named s.is.lexed)
