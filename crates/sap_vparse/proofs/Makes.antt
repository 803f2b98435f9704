-- Trees, from what the reader's functions have.
use Rattle.std.proofs.Common.{◌≡◌, ℕ, List, [], ◌∷◌, ◌++◌, Option, Some, sym, ap, subst, ◌∙◌}
use Rattle.sap_bits.specs.declared.Op1.{Op1}
use Rattle.sap_bits.specs.declared.Op2.{Op2}
use Rattle.sap_vtext.specs.Grammar as g
use Rattle.sap_vtext.specs.Grammar.{IsClocked, IsItem, IsLoop, IsName, IsOperand, IsPort, IsRange, IsSign, IsWord, binary_sign, unary_sign}
use Rattle.sap_vtext.specs.Items as item
use Rattle.sap_vtext.specs.Tokens as t
use Rattle.sap_vparse.specs.Parts as p
use Rattle.sap_vparse.specs.Parts.{IsBehind, IsOutput, ItemsEnd, PartsEnd, PortsEnd, RegisterEnds, RightEnds, register_with, right_with}
use Rattle.sap_vparse.specs.Reading.{here}
use Rattle.sap_vparse.specs.Rows.{AreFixed, done, ◌then◌, ConstantThen, NameThen, NumberThen, OperandThen}
use Rattle.sap_vparse.specs.Views.{direction_of, number_of, operand_of, operands_of}
use Rattle.sap_vparse.specs.declared.items.Direction.{Direction}
use Rattle.sap_vparse.specs.declared.items.Number.{Number}
use Rattle.sap_vparse.specs.declared.items.Operand.{Operand}
use Rattle.sap_vparse.specs.declared.right.Behind.{Behind}
use Rattle.sap_vparse.specs.declared.right.Behind.TheVariants as b
use Rattle.sap_vparse.specs.declared.row.TheConstants.{AT_I, BECOMES, CELL_BECOMES, CLOCKED, CLOSE_BRACKET, CLOSE_PAREN, COLON, COMMA, CONDITION, FROM_ZERO, INTEGER, IS, LOOP, OPEN_BRACKET, PORTS, SEMICOLON, START, STEP, TO_ZERO}

word_here : {ts r : List t.Token} {x : t.Word} {place : ℕ} → IsWord ts x r → place ≡ here ts → t.IsToken ts place (t.word x) r
word_here {ts} {r} {x} h e = subst (λ (n : ℕ). t.IsToken ts n (t.word x) r) (sym (e ∙ ap here h.is.parts)) h.is

pub range_tree : {ts m r : List t.Token} (n : item.Number) → IsSign ts t.open_bracket m → NumberThen m n TO_ZERO r → IsRange ts n r
range_tree n o (_, n', c then zero then close then done) = g.range o n' c zero close

pub output_tree : {ts k l m r : List t.Token} {d : Direction} {n : item.Number} {x : item.Mention} → IsWord ts t.output_word k → IsOutput k d l → IsRange l n m → IsName m x r
    → IsPort ts (record { direction = direction_of d; range = n; name = x }) r
output_tree o (p.register w) n x = g.output_reg o w n x
output_tree o (p.wire w) n x = g.output_wire o w n x

pub behind_tree : {ts m r : List t.Token} {x : item.Operand} {y : Behind} → IsOperand ts x m → IsBehind m y r → RightEnds ts (right_with x y) r
behind_tree x (p.nothing close) = record { last = _; right = g.copy x; close = close }
behind_tree x (p.two op o y close) = record { last = _; right = g.two op x o y; close = close }
behind_tree x (p.choose q y c z close) = record { last = _; right = g.choose x q y c z; close = close }

pub concat_tree : {ts k m n q r : List t.Token} {x y x' y' : Operand} {first both after : List Operand} → IsSign ts t.open_brace k → OperandThen k (operand_of x) COMMA m
    → IsOperand m (operand_of y) n → PartsEnd n both after q → IsSign q t.semicolon r → x' ≡ x → y' ≡ y → (first ≡ x' ∷ []) → both ≡ first ++ y' ∷ []
    → RightEnds ts (item.concat (operands_of after)) r
concat_tree {ts} {r = r} {x} {y} {x'} {y'} {first} {both} {after} o (_, a, c then done) d parts close e f one two =
    let all : operands_of after ≡ operand_of x ∷ operand_of y ∷ parts.added
    = parts.all ∙ ap (λ (zs : List Operand). operands_of zs ++ parts.added) (two ∙ ap (λ (zs : List Operand). zs ++ y' ∷ []) one)
    ∙ ap (λ (z : Operand). operand_of z ∷ operand_of y' ∷ parts.added) e ∙ ap (λ (z : Operand). operand_of x ∷ operand_of z ∷ parts.added) f in
    subst (λ zs. RightEnds ts (item.concat zs) r) (sym all) (record { last = _; right = g.concat o a c d parts.parts parts.close; close = close })

pub two_tree : {ts m r : List t.Token} {y z : Operand} (op : Op2) → IsSign ts (binary_sign op) m → OperandThen m (operand_of y) SEMICOLON r → z ≡ y → IsBehind ts (b.Two op z) r
two_tree {ts} {r = r} op o (_, y, close then done) same = subst (λ (z : Operand). IsBehind ts (b.Two op z) r) (sym same) (p.two op o y close)

pub choose_tree : {ts k m r : List t.Token} {x y x' y' : Operand} → IsSign ts t.question k → OperandThen k (operand_of x) COLON m → OperandThen m (operand_of y) SEMICOLON r
    → x' ≡ x → y' ≡ y → IsBehind ts (b.Choose x' y') r
choose_tree {ts} {r = r} {x} {y} {x'} {y'} q (_, one, colon then done) (_, other, close then done) same same' =
    subst (λ (z : Operand). IsBehind ts (b.Choose z y') r) (sym same)
    (subst (λ (z : Operand). IsBehind ts (b.Choose x z) r) (sym same') (p.choose q one colon other close))

pub one_tree : {ts m r : List t.Token} {y z : Operand} (op : Op1) → IsSign ts (unary_sign op) m → OperandThen m (operand_of y) SEMICOLON r → z ≡ y
    → RightEnds ts (item.one op (operand_of z)) r
one_tree {ts} {r = r} op o (_, y, close then done) same =
    subst (λ (z : Operand). RightEnds ts (item.one op (operand_of z)) r) (sym same) (record { last = _; right = g.one op o y; close = close })

pub cell_tree : {ts k l r : List t.Token} {x : item.Mention} {y z : Operand} → IsName ts x k → IsSign k t.open_bracket l → OperandThen l (operand_of y) CLOSE_BRACKET r → z ≡ y
    → RightEnds ts (item.cell x (operand_of z)) r
cell_tree {ts} {r = r} {x} x' o (_, y, c then close then done) same =
    subst (λ (z : Operand). RightEnds ts (item.cell x (operand_of z)) r) (sym same) (record { last = _; right = g.cell x' o y c; close = close })

pub slice_tree : {ts k l m r : List t.Token} {x : item.Mention} (high low : item.Number) → IsName ts x k → IsSign k t.open_bracket l → NumberThen l high COLON m
    → NumberThen m low CLOSE_BRACKET r → RightEnds ts (item.slice x high.value low.value) r
slice_tree high low x o (_, h, colon then done) (_, l, c then close then done) = record { last = _; right = g.slice x o h colon l c; close = close }

-- items

pub wire_tree : {ts k m r : List t.Token} {n : item.Number} {x : item.Mention} → IsWord ts t.wire_word k → IsRange k n m → NameThen m x SEMICOLON r → IsItem ts (item.wire n x) r
wire_tree w n (_, x, close then done) = g.wire w n x close

pub ends_tree : {ts m r : List t.Token} (last : Number) → AreFixed ts FROM_ZERO m → NumberThen m (number_of last) CLOSE_BRACKET r → RegisterEnds ts (Some last) r
ends_tree last (o then zero then colon then done) (_, n, c then close then done) = p.cells o zero colon n c close

pub register_tree : {ts k l m r : List t.Token} {n : item.Number} {x : item.Mention} {last : Option Number} → IsWord ts t.reg_word k → IsRange k n l → IsName l x m
    → RegisterEnds m last r → IsItem ts (register_with n x last) r
register_tree w n x (p.no_cells close) = g.register w n x close
register_tree w n x (p.cells o zero colon last c close) = g.memory w n x o zero colon last c close

pub integer_tree : {ts r : List t.Token} {place : ℕ} → AreFixed ts INTEGER r → place ≡ here ts → IsItem ts (item.integer place) r
integer_tree (w then i then close then done) there = g.integer (word_here w there) i close

pub assign_tree : {ts k m r : List t.Token} {x : item.Mention} {right : item.Right} → IsWord ts t.assign_word k → NameThen k x IS m → RightEnds m right r
    → IsItem ts (item.assign x right) r
assign_tree w (_, x, is then done) right = g.assign w x is right.right right.close

pub start_tree : {ts k m r : List t.Token} {x : item.Mention} {value : item.Constant} → IsWord ts t.initial_word k → NameThen k x IS m → ConstantThen m value SEMICOLON r
    → IsItem ts (item.initial x value) r
start_tree w (_, x, is then done) (_, value, close then done) = g.initial w x is value close

pub loop_tree : {ts k m r : List t.Token} {place : ℕ} {bound : item.Number} → AreFixed ts LOOP k → AreFixed k START m → place ≡ here k → NumberThen m bound STEP r
    → IsLoop ts place bound r
loop_tree (w then o then done) (i then is then zero then semicolon then j then less then done) there (
  _,
  bound,
  again then l then becomes then m then plus then one then close then done,
) =
    g.loop w o (word_here i there) is zero semicolon j less bound again l becomes m plus one close

pub cells_tree : {ts k l m r : List t.Token} {place : ℕ} {bound : item.Number} {x : item.Mention} {value : item.Constant} → IsWord ts t.initial_word k → IsLoop k place bound l
    → NameThen l x AT_I m → ConstantThen m value SEMICOLON r → IsItem ts (item.initial_cells place bound x value) r
cells_tree w l (_, x, o then i then c then is then done) (_, value, close then done) = g.initial_cells w l x o i c is value close

pub clocked_tree : {ts r : List t.Token} → AreFixed ts CLOCKED r → IsClocked ts r
clocked_tree (w then at then o then edge then clock then close then done) = g.clocked w at o edge clock close

pub update_tree : {ts k m r : List t.Token} {x : item.Mention} {y z : Operand} → IsClocked ts k → NameThen k x BECOMES m → OperandThen m (operand_of y) SEMICOLON r → z ≡ y
    → IsItem ts (item.always x (operand_of z)) r
update_tree {ts} {r = r} {x} c (_, n, le then done) (_, y, close then done) same =
    subst (λ (z : Operand). IsItem ts (item.always x (operand_of z)) r) (sym same) (g.always c n le y close)

pub write_tree : {ts a1 a2 a3 a4 a5 r : List t.Token} {x : item.Mention} {u v w u' v' w' : Operand} → IsClocked ts a1
    → AreFixed a1 CONDITION a2 → OperandThen a2 (operand_of u) CLOSE_PAREN a3
    → NameThen a3 x OPEN_BRACKET a4 → OperandThen a4 (operand_of v) CELL_BECOMES a5 → OperandThen a5 (operand_of w) SEMICOLON r → u' ≡ u → v' ≡ v → w' ≡ w
    → IsItem ts (item.always_cell (operand_of u') x (operand_of v') (operand_of w')) r
write_tree {ts} {r = r} {x} {u} {v} {w} {u'} {v'} {w'} c (i then o then done) (_, cond, cl then done) (_, n, ob then done) (
  _,
  ix,
  cb then le then done,
) (_, val, close then done) e f h =
    subst (λ (z : Operand). IsItem ts (item.always_cell (operand_of z) x (operand_of v') (operand_of w')) r) (sym e)
    (subst (λ (z : Operand). IsItem ts (item.always_cell (operand_of u) x (operand_of z) (operand_of w')) r) (sym f)
    (subst (λ (z : Operand). IsItem ts (item.always_cell (operand_of u) x (operand_of v) (operand_of z)) r) (sym h)
    (g.always_cell c i o cond cl n ob ix cb le val close)))

pub file_tree : {ts k l m n r : List t.Token} {x : item.Mention} {ps : List item.Port} {xs : List item.Item} → IsWord ts t.module_word k → NameThen k x PORTS l → PortsEnd l ps m
    → IsSign m t.semicolon n → ItemsEnd n xs r → g.IsFile ts (record { module_name = x.name; ports = ps; items = xs }) r
file_tree w (_, x, o then input then clock then done) ports close items = g.file w x o input clock ports.ports ports.close close items.items items.close
