-- The grammar of a design. Each relation is a rule: from a stage, the tree of what stands there, and the stage behind
-- it. Each constructor is a production. A repetition is a relation of its own, and so is what may be left out.
use Rattle.std.specs.Prelude.{◌≡◌, ℕ, ◌+◌, ◌<◌, List, [], ◌∷◌, Option, Some, None}
use Rattle.sap_parse.specs.Stages.{Stage, IsSign, IsWord, IsName, IsNumber, IsSized, here, spot_here, mention, numeral}
use Rattle.sap_parse.specs.declared.role.Role.TheVariants as r
use Rattle.sap_lex.specs.declared.token.Sign.TheVariants as s
use Rattle.sap_lex.specs.declared.token.Sign.{Sign}
use Rattle.sap_tree.specs.declared.word.Word.TheVariants as w
use Rattle.sap_tree.specs.Precedence.{precedence, unary_precedence}
use Rattle.sap_tree.specs.Spots.{first_of, enclosed}
use Rattle.sap_tree.specs.Syntax as t
use Rattle.sap_tree.specs.declared.syntax.BinaryOperator.TheVariants as b
use Rattle.sap_tree.specs.declared.syntax.BinaryOperator.{BinaryOperator}
use Rattle.sap_tree.specs.declared.syntax.Decl.TheVariants as d
use Rattle.sap_tree.specs.declared.syntax.Decl.{Decl}
use Rattle.sap_tree.specs.declared.syntax.Kind.TheVariants as k
use Rattle.sap_tree.specs.declared.syntax.Kind.{Kind}
use Rattle.sap_tree.specs.declared.syntax.Numeral.{Numeral}
use Rattle.sap_tree.specs.declared.syntax.UnaryOperator.TheVariants as u
use Rattle.sap_tree.specs.declared.syntax.UnaryOperator.{UnaryOperator}
use Rattle.sap_tree.specs.declared.syntax.Under.{Under}
use Rattle.sap_tree.specs.declared.version.Version.TheVariants as v
use Rattle.sap_tree.specs.declared.version.Version.{Version}

-- operators

-- The sign of a binary operator.
abbrev pub sign_of : BinaryOperator → Sign
sign_of b.Or = s.Bar
sign_of b.Xor = s.Caret
sign_of b.And = s.Ampersand
sign_of b.Eq = s.Equal
sign_of b.Ne = s.NotEqual
sign_of b.Lt = s.Less
sign_of b.Le = s.LessOrEqual
sign_of b.Shl = s.ShiftLeft
sign_of b.Shr = s.ShiftRight
sign_of b.Add = s.Plus
sign_of b.Sub = s.Minus
sign_of b.Mul = s.Star

-- The sign of a unary operator.
abbrev pub unary_sign_of : UnaryOperator → Sign
unary_sign_of u.Not = s.Tilde
unary_sign_of u.Neg = s.Minus
unary_sign_of u.AllOnes = s.Ampersand
unary_sign_of u.AnyOne = s.Bar
unary_sign_of u.Odd = s.Caret

-- expressions

-- The production is `"[" NUM ":" NUM "]"`.
pub data Bounds : Stage → (high low : ℕ) → Stage → Type 0 where
  bounds : {p1 p2 p3 p4 p5 q : Stage} {high low : ℕ}
      → IsSign p1 r.Opening s.OpenBracket p2 → IsNumber p2 r.Inner high p3
      → IsSign p3 r.Inner s.Colon p4 → IsNumber p4 r.Inner low p5
      → IsSign p5 r.Closing s.CloseBracket q
      → Bounds p1 high low q

mutual
  -- The production is `expr := bin [ "?" expr ":" expr ]`.
  pub data Expr : Stage → t.Expression → Stage → Type 0 where
    only : {p q : Stage} {x : t.Expression} → Bin 1 p x q → Expr p x q
    choice : {p1 p2 p3 p4 p5 q : Stage} {x y z : t.Expression}
        → Bin 1 p1 x p2 → IsSign p2 r.Inner s.Question p3 → Expr p3 y p4 → IsSign p4 r.Inner s.Colon p5 → Expr p5 z q
        → Expr p1 (t.choice (record { first = first_of x; at = here p2 }) x y z) q

  -- Operands are joined by operators that bind as tightly as the number says, or tighter.
  pub data Bin : ℕ → Stage → t.Expression → Stage → Type 0 where
    operand : {p q : Stage} {x : t.Expression} → Unary p x q → Bin unary_precedence p x q
    chain : {l : ℕ} {p1 p2 q : Stage} {x y : t.Expression} → l < unary_precedence → Bin (l + 1) p1 x p2
        → Others l x p2 y q → Bin l p1 y q

  -- Further operands follow `x`, each behind an operator that binds just as tightly as the number says. The first
  -- operator is done first.
  pub data Others : ℕ → t.Expression → Stage → t.Expression → Stage → Type 0 where
    no_other : {l : ℕ} {p : Stage} {x : t.Expression} → Others l x p x p
    other : {l : ℕ} {p1 p2 p3 q : Stage} {x y z : t.Expression} (o : BinaryOperator) → precedence o ≡ l
        → IsSign p1 r.Inner (sign_of o) p2 → Bin (l + 1) p2 y p3
        → Others l (t.binary_of (record { first = first_of x; at = here p1 }) o x y) p3 z q
        → Others l x p1 z q

  -- The production is `unary := ( "~" | "-" | "&" | "|" | "^" ) unary | post`.
  pub data Unary : Stage → t.Expression → Stage → Type 0 where
    signed : {p1 p2 q : Stage} {x : t.Expression} (o : UnaryOperator)
        → IsSign p1 r.Inner (unary_sign_of o) p2 → Unary p2 x q
        → Unary p1 (t.unary_of (spot_here p1) o x) q
    unsigned : {p q : Stage} {x : t.Expression} → Post p x q → Unary p x q

  -- The production is `post := prim ( "[" NUM ":" NUM "]" )*`.
  pub data Post : Stage → t.Expression → Stage → Type 0 where
    post : {p1 p2 q : Stage} {x y : t.Expression} → Prim p1 x p2 → Cuts x p2 y q → Post p1 y q

  -- Slices of `x` follow, the first one innermost.
  pub data Cuts : t.Expression → Stage → t.Expression → Stage → Type 0 where
    no_cut : {p : Stage} {x : t.Expression} → Cuts x p x p
    cut : {p1 p2 q : Stage} {x y : t.Expression} {high low : ℕ} → Bounds p1 high low p2
        → Cuts (t.slice (record { first = first_of x; at = here p1 }) x high low) p2 y q → Cuts x p1 y q

  -- The production is `prim := NUM | SIZED | NAME | NAME "[" expr "]" | "(" expr ")" | "{" expr ( "," expr )+ "}"
  --     | "zext" "(" expr "," NUM ")"`.
  pub data Prim : Stage → t.Expression → Stage → Type 0 where
    number : {p q : Stage} {n : ℕ} → IsNumber p r.Inner n q → Prim p (t.literal (spot_here p) n) q
    sized : {p q : Stage} {width n : ℕ} → IsSized p r.Inner width n q → Prim p (t.sized_literal (spot_here p) width n) q
    read : {p q : Stage} {name : List ℕ} → IsName p r.Inner name q → Prim p (t.variable (spot_here p) name) q
    cell : {p1 p2 p3 p4 q : Stage} {name : List ℕ} {i : t.Expression}
        → IsName p1 r.Inner name p2 → IsSign p2 r.Opening s.OpenBracket p3 → Expr p3 i p4
        → IsSign p4 r.Closing s.CloseBracket q
        → Prim p1 (t.cell_at (spot_here p1) name i) q
    parentheses : {p1 p2 p3 q : Stage} {x : t.Expression}
        → IsSign p1 r.Opening s.OpenParen p2 → Expr p2 x p3 → IsSign p3 r.Closing s.CloseParen q
        → Prim p1 (enclosed (here p1) x) q
    concat : {p1 p2 p3 p4 p5 p6 q : Stage} {x y : t.Expression} {xs : t.Expressions}
        → IsSign p1 r.Opening s.OpenBrace p2 → Expr p2 x p3 → IsSign p3 r.Inner s.Comma p4
        → Expr p4 y p5 → Parts p5 xs p6 → IsSign p6 r.Closing s.CloseBrace q
        → Prim p1 (t.concat (spot_here p1) (t.and_part x (t.and_part y xs))) q
    zext : {p1 p2 p3 p4 p5 p6 q : Stage} {x : t.Expression} {width : ℕ}
        → IsWord p1 r.Inner w.Zext p2 → IsSign p2 r.Opening s.OpenParen p3 → Expr p3 x p4
        → IsSign p4 r.Inner s.Comma p5 → IsNumber p5 r.Inner width p6
        → IsSign p6 r.Closing s.CloseParen q
        → Prim p1 (t.zero_extend (spot_here p1) x width) q

  -- The production is `( "," expr )*`.
  pub data Parts : Stage → t.Expressions → Stage → Type 0 where
    no_part : {p : Stage} → Parts p t.no_part p
    part : {p1 p2 p3 q : Stage} {x : t.Expression} {xs : t.Expressions} → IsSign p1 r.Inner s.Comma p2
        → Expr p2 x p3 → Parts p3 xs q
        → Parts p1 (t.and_part x xs) q

mutual
  -- The production is `texpr := NAME | "tag" "(" expr ")" | "level" "(" expr ")" | "join" "(" texpr ( "," texpr )+
  -- ")"`.
  pub data Texpr : Stage → t.TagExpression → Stage → Type 0 where
    level : {p q : Stage} {name : List ℕ} → IsName p r.Inner name q → Texpr p (t.level_of (mention p name)) q
    tag_of : {p1 p2 p3 p4 q : Stage} {x : t.Expression}
        → IsWord p1 r.Inner w.Tag p2 → IsSign p2 r.Opening s.OpenParen p3 → Expr p3 x p4
        → IsSign p4 r.Closing s.CloseParen q
        → Texpr p1 (t.tag_at (here p1) x) q
    level_at : {p1 p2 p3 p4 q : Stage} {x : t.Expression}
        → IsWord p1 r.Inner w.Level p2 → IsSign p2 r.Opening s.OpenParen p3 → Expr p3 x p4
        → IsSign p4 r.Closing s.CloseParen q
        → Texpr p1 (t.level_at (here p1) x) q
    join : {p1 p2 p3 p4 p5 p6 p7 q : Stage} {x y : t.TagExpression} {xs : t.TagExpressions}
        → IsWord p1 r.Inner w.Join p2 → IsSign p2 r.Opening s.OpenParen p3 → Texpr p3 x p4
        → IsSign p4 r.Inner s.Comma p5 → Texpr p5 y p6 → Texprs p6 xs p7
        → IsSign p7 r.Closing s.CloseParen q
        → Texpr p1 (t.join_of (here p1) (t.and_tag x (t.and_tag y xs))) q

  -- The production is `( "," texpr )*`.
  pub data Texprs : Stage → t.TagExpressions → Stage → Type 0 where
    no_tag : {p : Stage} → Texprs p t.no_tag p
    tag : {p1 p2 p3 q : Stage} {x : t.TagExpression} {xs : t.TagExpressions}
        → IsSign p1 r.Inner s.Comma p2 → Texpr p2 x p3 → Texprs p3 xs q
        → Texprs p1 (t.and_tag x xs) q

-- commands; the number is their depth: that of a body's commands is 1, and that of the commands in a block one more
-- than that of its command

-- The production is `simple := NAME ":=" expr | NAME "[" expr "]" ":=" expr
--     | "setTag" "(" NAME [ "[" expr "]" ] "," texpr ")" | "goto" NAME | "fall"`.
pub data Simple : ℕ → Stage → t.SimpleCommand → Stage → Type 0 where
  assign : {depth : ℕ} {p1 p2 p3 q : Stage} {name : List ℕ} {x : t.Expression}
      → IsName p1 (r.Command depth) name p2 → IsSign p2 r.Plain s.Becomes p3 → Expr p3 x q
      → Simple depth p1 (t.assign (mention p1 name) x) q
  write : {depth : ℕ} {p1 p2 p3 p4 p5 p6 q : Stage} {name : List ℕ} {i x : t.Expression}
      → IsName p1 (r.Command depth) name p2 → IsSign p2 r.Plain s.OpenBracket p3 → Expr p3 i p4
      → IsSign p4 r.Plain s.CloseBracket p5
      → IsSign p5 r.Plain s.Becomes p6 → Expr p6 x q
      → Simple depth p1 (t.write (mention p1 name) i x) q
  set_tag : {depth : ℕ} {p1 p2 p3 p4 p5 p6 q : Stage} {name : List ℕ} {x : t.TagExpression}
      → IsWord p1 (r.Command depth) w.SetTag p2 → IsSign p2 r.Plain s.OpenParen p3
      → IsName p3 r.Plain name p4 → IsSign p4 r.Plain s.Comma p5 → Texpr p5 x p6
      → IsSign p6 r.Plain s.CloseParen q
      → Simple depth p1 (t.set_tag (here p1) (mention p3 name) x) q
  set_cell_tag : {depth : ℕ} {p1 p2 p3 p4 p5 p6 p7 p8 p9 q : Stage} {name : List ℕ} {i : t.Expression}
      {x : t.TagExpression}
      → IsWord p1 (r.Command depth) w.SetTag p2 → IsSign p2 r.Plain s.OpenParen p3 → IsName p3 r.Plain name p4
      → IsSign p4 r.Plain s.OpenBracket p5 → Expr p5 i p6 → IsSign p6 r.Plain s.CloseBracket p7
      → IsSign p7 r.Plain s.Comma p8 → Texpr p8 x p9 → IsSign p9 r.Plain s.CloseParen q
      → Simple depth p1 (t.set_cell_tag (here p1) (mention p3 name) i x) q
  goto : {depth : ℕ} {p1 p2 q : Stage} {name : List ℕ} → IsWord p1 (r.Command depth) w.Goto p2
      → IsName p2 r.Plain name q
      → Simple depth p1 (t.go_to (here p1) (mention p2 name)) q
  fall : {depth : ℕ} {p q : Stage} → IsWord p (r.Command depth) w.Fall q → Simple depth p (t.fall_to_child (here p)) q

-- The production is `const := NUM | SIZED`.
pub data Constant : Stage → t.Expression → Stage → Type 0 where
  plain : {p q : Stage} {n : ℕ} → IsNumber p r.Plain n q → Constant p (t.literal (spot_here p) n) q
  wide : {p q : Stage} {width n : ℕ} → IsSized p r.Plain width n q
      → Constant p (t.sized_literal (spot_here p) width n) q

-- The production is `( "," const )*`.
pub data Constants : Stage → t.Expressions → Stage → Type 0 where
  no_constant : {p : Stage} → Constants p t.no_part p
  constant : {p1 p2 p3 q : Stage} {x : t.Expression} {xs : t.Expressions} → IsSign p1 r.Plain s.Comma p2
      → Constant p2 x p3 → Constants p3 xs q
      → Constants p1 (t.and_part x xs) q

-- The words `then` and `case` are tokens in a text of the second version alone, so the productions with them are of
-- that version alone.
mutual
  -- The production is `cmd := simple ( ";" | "otherwise" block | "then" block "otherwise" block )
  --     | "if" "(" expr ")" block [ "else" block ] | "case" "(" expr ")" "{" arm+ "else" block "}"`.
  pub data Cmd : ℕ → Stage → t.Command → Stage → Type 0 where
    unhandled : {depth : ℕ} {p1 p2 q : Stage} {c : t.SimpleCommand} → Simple depth p1 c p2
        → IsSign p2 r.Plain s.Semicolon q → Cmd depth p1 (t.lone c) q
    handled : {depth : ℕ} {p1 p2 p3 q : Stage} {c : t.SimpleCommand} {handler : t.CommandBlock}
        → Simple depth p1 c p2 → IsWord p2 r.Plain w.Otherwise p3 → Block (depth + 1) p3 handler q
        → Cmd depth p1 (t.try c (here p2) handler) q
    branch : {depth : ℕ} {p1 p2 p3 p4 p5 p6 q : Stage} {x : t.Expression} {yes : t.CommandBlock} {no : t.ElseBlock}
        → IsWord p1 (r.Command depth) w.If p2 → IsSign p2 r.Plain s.OpenParen p3 → Expr p3 x p4
        → IsSign p4 r.Plain s.CloseParen p5
        → Block (depth + 1) p5 yes p6 → Else (depth + 1) p6 no q
        → Cmd depth p1 (t.if_else (here p1) x yes no) q
    decided : {depth : ℕ} {p1 p2 p3 p4 p5 q : Stage} {c : t.SimpleCommand} {accepted refused : t.CommandBlock}
        → Simple depth p1 c p2 → IsWord p2 r.Plain w.Then p3 → Block (depth + 1) p3 accepted p4
        → IsWord p4 r.Plain w.Otherwise p5 → Block (depth + 1) p5 refused q
        → Cmd depth p1 (t.try_then c (here p2) accepted refused) q
    case : {depth : ℕ} {p1 p2 p3 p4 p5 p6 p7 p8 q : Stage} {x : t.Expression}
        {constants : t.Expressions} {block : t.CommandBlock} {arms : t.Arms}
        → IsWord p1 (r.Command depth) w.Case p2 → IsSign p2 r.Plain s.OpenParen p3 → Expr p3 x p4
        → IsSign p4 r.Plain s.CloseParen p5
        → IsSign p5 r.Plain s.OpenBrace p6 → Arm (depth + 1) p6 constants block p7
        → Arms (depth + 1) p7 arms p8 → IsSign p8 r.Plain s.CloseBrace q
        → Cmd depth p1 (t.case_of (here p1) x (t.and_arm constants block arms)) q

  -- The production is `arm := const ( "," const )* ":" block`.
  pub data Arm : ℕ → Stage → t.Expressions → t.CommandBlock → Stage → Type 0 where
    arm : {depth : ℕ} {p1 p2 p3 p4 q : Stage} {x : t.Expression} {xs : t.Expressions} {block : t.CommandBlock}
        → Constant p1 x p2 → Constants p2 xs p3 → IsSign p3 r.Plain s.Colon p4 → Block depth p4 block q
        → Arm depth p1 (t.and_part x xs) block q

  -- The production is `arm* "else" block`.
  pub data Arms : ℕ → Stage → t.Arms → Stage → Type 0 where
    last : {depth : ℕ} {p1 p2 q : Stage} {block : t.CommandBlock} → IsWord p1 r.Plain w.Else p2
        → Block depth p2 block q → Arms depth p1 (t.last_arm block) q
    and_arm : {depth : ℕ} {p1 p2 q : Stage} {constants : t.Expressions} {block : t.CommandBlock} {arms : t.Arms}
        → Arm depth p1 constants block p2 → Arms depth p2 arms q → Arms depth p1 (t.and_arm constants block arms) q

  -- The production is `[ "else" block ]`.
  pub data Else : ℕ → Stage → t.ElseBlock → Stage → Type 0 where
    no_else : {depth : ℕ} {p : Stage} → Else depth p t.no_else p
    else : {depth : ℕ} {p1 p2 q : Stage} {block : t.CommandBlock} → IsWord p1 r.Plain w.Else p2
        → Block depth p2 block q → Else depth p1 (t.with_else block) q

  -- The production is `block := "{" cmd* "}"`.
  pub data Block : ℕ → Stage → t.CommandBlock → Stage → Type 0 where
    block : {depth : ℕ} {p1 p2 p3 q : Stage} {cs : t.CommandList}
        → IsSign p1 r.Plain s.OpenBrace p2 → Cmds depth p2 cs p3 → IsSign p3 r.Plain s.CloseBrace q
        → Block depth p1 (t.command_block cs (here p3)) q

  -- The production is `cmd*`.
  pub data Cmds : ℕ → Stage → t.CommandList → Stage → Type 0 where
    no_cmd : {depth : ℕ} {p : Stage} → Cmds depth p t.no_command p
    cmd : {depth : ℕ} {p1 p2 q : Stage} {c : t.Command} {cs : t.CommandList} → Cmd depth p1 c p2
        → Cmds depth p2 cs q → Cmds depth p1 (t.and_command c cs) q

-- kinds and declarations

-- The production is `[ "under" NAME ]`.
pub data Authority : Stage → Option Under → Stage → Type 0 where
  no_authority : {p : Stage} → Authority p None p
  authority : {p1 p2 q : Stage} {name : List ℕ} → IsWord p1 r.Plain w.Under p2 → IsName p2 r.Plain name q
      → Authority p1 (Some (record { place = here p1; level = mention p2 name })) q

-- The production is `kind := "dynamic" | "enforced" NAME [ "under" NAME ]`.
pub data KindOf : Stage → Kind → Stage → Type 0 where
  dynamic : {p q : Stage} → IsWord p r.Plain w.Dynamic q → KindOf p (k.Dynamic (here p)) q
  enforced : {p1 p2 p3 q : Stage} {name : List ℕ} {under : Option Under}
      → IsWord p1 r.Plain w.Enforced p2 → IsName p2 r.Plain name p3 → Authority p3 under q
      → KindOf p1 (k.Enforced (mention p2 name) under) q

-- The production is `[ "=" NUM ]`.
pub data Initial : Stage → Option Numeral → Stage → Type 0 where
  no_initial : {p : Stage} → Initial p None p
  initial : {p1 p2 q : Stage} {n : ℕ} → IsSign p1 r.Plain s.Is p2 → IsNumber p2 r.Plain n q
      → Initial p1 (Some (numeral p2 n)) q

-- The production is `decl := "input" NAME ":" NUM ";" | "reg" NAME ":" NUM kind [ "=" NUM ] ";"
--     | "mem" NAME ":" NUM "[" NUM "]" kind ";"`.
pub data Declaration : Stage → Decl → Stage → Type 0 where
  input : {p1 p2 p3 p4 p5 q : Stage} {name : List ℕ} {width : ℕ}
      → IsWord p1 r.Input w.Input p2 → IsName p2 r.Plain name p3 → IsSign p3 r.Plain s.Colon p4
      → IsNumber p4 r.Plain width p5 → IsSign p5 r.Plain s.Semicolon q
      → Declaration p1 (d.Input (here p1) (mention p2 name) (numeral p4 width)) q
  register : {p1 p2 p3 p4 p5 p6 p7 q : Stage} {name : List ℕ} {width : ℕ} {kind : Kind} {start : Option Numeral}
      → IsWord p1 r.Register w.Reg p2 → IsName p2 r.Plain name p3 → IsSign p3 r.Plain s.Colon p4
      → IsNumber p4 r.Plain width p5
      → KindOf p5 kind p6 → Initial p6 start p7 → IsSign p7 r.Plain s.Semicolon q
      → Declaration p1 (d.Register (here p1) (mention p2 name) (numeral p4 width) kind start) q
  memory : {p1 p2 p3 p4 p5 p6 p7 p8 p9 q : Stage} {name : List ℕ} {width depth : ℕ} {kind : Kind}
      → IsWord p1 r.Memory w.Mem p2 → IsName p2 r.Plain name p3 → IsSign p3 r.Plain s.Colon p4
      → IsNumber p4 r.Plain width p5
      → IsSign p5 r.Plain s.OpenBracket p6 → IsNumber p6 r.Plain depth p7 → IsSign p7 r.Plain s.CloseBracket p8
      → KindOf p8 kind p9 → IsSign p9 r.Plain s.Semicolon q
      → Declaration p1 (d.Memory (here p1) (mention p2 name) (numeral p4 width) (numeral p6 depth) kind) q

-- The production is `decl*`.
pub data Declarations : Stage → List Decl → Stage → Type 0 where
  no_declaration : {p : Stage} → Declarations p [] p
  declaration : {p1 p2 q : Stage} {d : Decl} {ds : List Decl} → Declaration p1 d p2
      → Declarations p2 ds q → Declarations p1 (d ∷ ds) q

-- states; the number is their depth: that of the top-level states is 1

mutual
  -- The production is `state := "state" NAME kind "{" cmd* state* "}"`.
  pub data State : ℕ → Stage → t.StateTree → Stage → Type 0 where
    state : {depth : ℕ} {p1 p2 p3 p4 p5 p6 p7 q : Stage} {name : List ℕ} {kind : Kind}
        {cs : t.CommandList} {children : t.StateList}
        → IsWord p1 (r.State depth) w.State p2 → IsName p2 r.Plain name p3 → KindOf p3 kind p4
        → IsSign p4 r.Plain s.OpenBrace p5
        → Cmds 1 p5 cs p6 → States (depth + 1) p6 children p7 → IsSign p7 r.Plain s.CloseBrace q
        → State depth p1 (t.state_node (here p1) (mention p2 name) kind (t.command_block cs (here p6)) children) q

  -- The production is `state*`.
  pub data States : ℕ → Stage → t.StateList → Stage → Type 0 where
    no_state : {depth : ℕ} {p : Stage} → States depth p t.no_state p
    and_state : {depth : ℕ} {p1 p2 q : Stage} {x : t.StateTree} {xs : t.StateList} → State depth p1 x p2
        → States depth p2 xs q
        → States depth p1 (t.and_state x xs) q

-- The production is `[ "sapper" "2" ";" ]`.
pub data Header : Stage → Version → Stage → Type 0 where
  no_header : {p : Stage} → Header p v.One p
  header : {p1 p2 p3 q : Stage} → IsWord p1 r.Plain w.Sapper p2 → IsWord p2 r.Plain w.Two p3
      → IsSign p3 r.Plain s.Semicolon q → Header p1 v.Two q

-- The production is `design := [ "sapper" "2" ";" ] decl* state+`.
pub data Design : Stage → t.DesignTree → Stage → Type 0 where
  design : {p1 p2 p3 p4 q : Stage} {version : Version} {declarations : List Decl} {x : t.StateTree} {xs : t.StateList}
      → Header p1 version p2 → Declarations p2 declarations p3 → State 1 p3 x p4 → States 1 p4 xs q
      → Design p1 (record { version = version; declarations = declarations; states = t.and_state x xs }) q
