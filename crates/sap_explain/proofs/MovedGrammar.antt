-- The grammar reads tokens whose places are moved as the file whose places are moved alike.
use Rattle.sap_lemmas.proofs.Common.{ℕ, List, map, ap}
use Rattle.sap_vtext.specs.Items.{Mention, Number, Constant, Operand, Right, Port, Item, File}
use Rattle.sap_vtext.specs.Tokens.{Word, Sign, Kind, Token, IsToken}
use Rattle.sap_vtext.specs.Grammar as g
use Rattle.sap_vtext.specs.Grammar.{IsWord, IsSign, IsName, IsNumber, IsDigit, IsConstant, IsOperand, IsRange, IsPort, ArePorts, AreParts, IsRight, IsClocked, IsLoop, IsItem, AreItems, IsFile}
use Rattle.sap_explain.proofs.Moved.{moved_name, moved_number, moved_constant, moved_operand, moved_right, moved_item, moved_port, moved}

module _ (move : ℕ → ℕ) where
  abbrev pub moved_token : Token → Token
  moved_token t = record { place = move t.place; kind = t.kind }

  abbrev pub all_moved : List Token → List Token
  all_moved ts = map moved_token ts

  token : {ts r : List Token} {p : ℕ} {k : Kind} → IsToken ts p k r → IsToken (all_moved ts) (move p) k (all_moved r)
  token h = record { parts = ap all_moved h.parts }

  word : {ts r : List Token} {w : Word} → IsWord ts w r → IsWord (all_moved ts) w (all_moved r)
  word h = record { place = move h.place; is = token h.is }

  sign : {ts r : List Token} {s : Sign} → IsSign ts s r → IsSign (all_moved ts) s (all_moved r)
  sign h = record { place = move h.place; is = token h.is }

  name : {ts r : List Token} {x : Mention} → IsName ts x r → IsName (all_moved ts) (moved_name move x) (all_moved r)
  name h = record { parts = ap all_moved h.parts }

  number : {ts r : List Token} {n : Number} → IsNumber ts n r → IsNumber (all_moved ts) (moved_number move n) (all_moved r)
  number h = record { digits = h.digits; is = record { parts = ap all_moved h.is.parts } }

  digit : {ts r : List Token} {n : ℕ} → IsDigit ts n r → IsDigit (all_moved ts) n (all_moved r)
  digit h = record { place = move h.place; is = token h.is }

  constant : {ts r : List Token} {c : Constant} → IsConstant ts c r → IsConstant (all_moved ts) (moved_constant move c) (all_moved r)
  constant h = record { parts = ap all_moved h.parts }

  operand : {ts r : List Token} {x : Operand} → IsOperand ts x r → IsOperand (all_moved ts) (moved_operand move x) (all_moved r)
  operand (g.name a) = g.name (name a)
  operand (g.constant a) = g.constant (constant a)

  range : {ts r : List Token} {n : Number} → IsRange ts n r → IsRange (all_moved ts) (moved_number move n) (all_moved r)
  range (g.range a b c d e) = g.range (sign a) (number b) (sign c) (digit d) (sign e)

  port : {ts r : List Token} {p : Port} → IsPort ts p r → IsPort (all_moved ts) (moved_port move p) (all_moved r)
  port (g.input a b c) = g.input (word a) (range b) (name c)
  port (g.output_reg a b c d) = g.output_reg (word a) (word b) (range c) (name d)
  port (g.output_wire a b c d) = g.output_wire (word a) (word b) (range c) (name d)

  ports : {ts r : List Token} {ps : List Port} → ArePorts ts ps r → ArePorts (all_moved ts) (map (moved_port move) ps) (all_moved r)
  ports g.no_port = g.no_port
  ports (g.next_port a b c) = g.next_port (sign a) (port b) (ports c)

  parts : {ts r : List Token} {xs : List Operand} → AreParts ts xs r → AreParts (all_moved ts) (map (moved_operand move) xs) (all_moved r)
  parts g.no_part = g.no_part
  parts (g.next_part a b c) = g.next_part (sign a) (operand b) (parts c)

  right : {ts r : List Token} {x : Right} → IsRight ts x r → IsRight (all_moved ts) (moved_right move x) (all_moved r)
  right (g.copy a) = g.copy (operand a)
  right (g.two op a b c) = g.two op (operand a) (sign b) (operand c)
  right (g.one op a b) = g.one op (sign a) (operand b)
  right (g.choose a b c d e) = g.choose (operand a) (sign b) (operand c) (sign d) (operand e)
  right (g.concat a b c d e f) = g.concat (sign a) (operand b) (sign c) (operand d) (parts e) (sign f)
  right (g.slice a b c d e f) = g.slice (name a) (sign b) (number c) (sign d) (number e) (sign f)
  right (g.cell a b c d) = g.cell (name a) (sign b) (operand c) (sign d)

  clocked : {ts r : List Token} → IsClocked ts r → IsClocked (all_moved ts) (all_moved r)
  clocked (g.clocked a b c d e f) = g.clocked (word a) (sign b) (sign c) (word d) (word e) (sign f)

  loop : {ts r : List Token} {p : ℕ} {n : Number} → IsLoop ts p n r → IsLoop (all_moved ts) (move p) (moved_number move n) (all_moved r)
  loop (g.loop a b c d e f i j k l m n o p q r) =
      g.loop (word a) (sign b) (token c) (sign d) (digit e) (sign f) (word i) (sign j) (number k) (sign l) (word m) (sign n) (word o) (sign p) (digit q) (sign r)

  item : {ts r : List Token} {x : Item} → IsItem ts x r → IsItem (all_moved ts) (moved_item move x) (all_moved r)
  item (g.wire a b c d) = g.wire (word a) (range b) (name c) (sign d)
  item (g.register a b c d) = g.register (word a) (range b) (name c) (sign d)
  item (g.memory a b c d e f i j k) = g.memory (word a) (range b) (name c) (sign d) (digit e) (sign f) (number i) (sign j) (sign k)
  item (g.integer a b c) = g.integer (token a) (word b) (sign c)
  item (g.assign a b c d e) = g.assign (word a) (name b) (sign c) (right d) (sign e)
  item (g.initial a b c d e) = g.initial (word a) (name b) (sign c) (constant d) (sign e)
  item (g.initial_cells a b c d e f i j k) = g.initial_cells (word a) (loop b) (name c) (sign d) (word e) (sign f) (sign i) (constant j) (sign k)
  item (g.always a b c d e) = g.always (clocked a) (name b) (sign c) (operand d) (sign e)
  item (g.always_cell a b c d e f i j k l m n) =
      g.always_cell (clocked a) (word b) (sign c) (operand d) (sign e) (name f) (sign i) (operand j) (sign k) (sign l) (operand m) (sign n)

  items : {ts r : List Token} {xs : List Item} → AreItems ts xs r → AreItems (all_moved ts) (map (moved_item move) xs) (all_moved r)
  items g.no_item = g.no_item
  items (g.next_item a b) = g.next_item (item a) (items b)

  pub moved_file : {ts r : List Token} {f : File} → IsFile ts f r → IsFile (all_moved ts) (moved move f) (all_moved r)
  moved_file (g.file a b c d e f i j k l) = g.file (word a) (name b) (sign c) (word d) (word e) (ports f) (sign i) (sign j) (items k) (word l)
