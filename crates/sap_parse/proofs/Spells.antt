-- What stands for each symbol of the table, in the words of the grammar.
use Rattle.std.proofs.Common.{◌≡◌, ◌≤◌, ◌+◌, ◌-◌, ℕ, zero, suc, List, [], ◌∷◌, ◌++◌, Option, None, true, subst, arith}
use Rattle.sap_parse.specs.Grammar as g
use Rattle.sap_parse.specs.Stages.{Stage, IsSign, IsWord, IsName, IsNumber, IsSized}
use Rattle.sap_parse.specs.Table as s
use Rattle.sap_parse.specs.Table.{Symbol, grammar, tails, tightest}
use Rattle.sap_parse.specs.declared.role.Role.TheVariants as r
use Rattle.sap_lex.specs.declared.token.Sign.TheVariants as j
use Rattle.sap_tree.specs.Precedence.{unary_precedence}
use Rattle.sap_tree.specs.declared.syntax.Decl.{Decl}
use Rattle.sap_tree.specs.declared.syntax.Kind.{Kind as KindTree}
use Rattle.sap_tree.specs.declared.syntax.Numeral.{Numeral}
use Rattle.sap_tree.specs.declared.syntax.Under.{Under}
use Rattle.sap_tree.specs.declared.version.Version.{Version}
use Rattle.sap_tree.specs.Syntax as t
use Rattle.sap_tree.specs.declared.version.Version.TheVariants as v
use Rattle.sap_walk.specs.Limits.{lenient}
use Rattle.sap_walk.specs.Walk.{Table}
use Rattle.sap_walk.proofs.Spelling.{Langs as LangsOf, split}

abbrev pub W : Table
W = lenient grammar

-- the index of a `setTag`, or none
pub data Cell (p : Stage) : Stage → Type 0 where
  no_cell : Cell p p
  cell : {p1 p2 q : Stage} {i : t.Expression} → IsSign p r.Plain j.OpenBracket p1 → g.Expr p1 i p2 → IsSign p2 r.Plain j.CloseBracket q → Cell p q

-- What stands for a symbol between two stages. A symbol that goes on with what stands before it makes a whole of that.
abbrev pub Lang : Symbol → Stage → Stage → Type 0
Lang (s.sign role sign) p q = IsSign p role sign q
Lang (s.word role word) p q = IsWord p role word q
Lang (s.any_name role) p q = (n : List ℕ) × IsName p role n q
Lang (s.number role) p q = (n : ℕ) × IsNumber p role n q
Lang (s.sized role) p q = (width n : ℕ) × IsSized p role width n q
Lang s.expr p q = (x : t.Expression) × g.Expr p x q
Lang s.choice p q = (p1 : Stage) (x : t.Expression) → g.Bin 1 p1 x p → (y : t.Expression) × g.Expr p1 y q
Lang s.unary p q = (x : t.Expression) × g.Unary p x q
Lang s.post p q = (x : t.Expression) × g.Post p x q
Lang s.prim p q = (x : t.Expression) × g.Prim p x q
Lang s.paren p q = (x : t.Expression) × g.Prim p x q
Lang s.braces p q = (x : t.Expression) × g.Prim p x q
Lang s.zext p q = (x : t.Expression) × g.Prim p x q
Lang s.behind_name p q = (p1 : Stage) (n : List ℕ) → IsName p1 r.Inner n p → (x : t.Expression) × g.Post p1 x q
Lang s.behind_bracket p q = (p1 p2 : Stage) (n : List ℕ) → IsName p1 r.Inner n p2 → IsSign p2 r.Opening j.OpenBracket p → (x : t.Expression) × g.Post p1 x q
Lang s.behind_number p q =
    (p1 p2 p3 : Stage) (n : List ℕ) (m : ℕ) → IsName p1 r.Inner n p2 → IsSign p2 r.Opening j.OpenBracket p3 → IsNumber p3 r.Inner m p → (x : t.Expression) × g.Post p1 x q
Lang s.slices p q = (x : t.Expression) → (y : t.Expression) × g.Cuts x p y q
Lang s.slice p q = (high low : ℕ) × g.Bounds p high low q
Lang s.parts p q = (xs : t.Expressions) × g.Parts p xs q
Lang (s.bin l) p q = (x : t.Expression) × (l ≤ unary_precedence → g.Bin l p x q)
Lang (s.tail l) p q = (x : t.Expression) → (y : t.Expression) × g.Others l x p y q
Lang s.texpr p q = (x : t.TagExpression) × g.Texpr p x q
Lang s.tag_of p q = (x : t.TagExpression) × g.Texpr p x q
Lang s.level_at p q = (x : t.TagExpression) × g.Texpr p x q
Lang s.join p q = (x : t.TagExpression) × g.Texpr p x q
Lang s.texprs p q = (xs : t.TagExpressions) × g.Texprs p xs q
Lang (s.simple depth) p q = (c : t.SimpleCommand) × g.Simple depth p c q
Lang (s.set_tag depth) p q = (c : t.SimpleCommand) × g.Simple depth p c q
Lang (s.goto depth) p q = (c : t.SimpleCommand) × g.Simple depth p c q
Lang (s.fall depth) p q = (c : t.SimpleCommand) × g.Simple depth p c q
Lang s.target p q = (depth : ℕ) (p1 : Stage) (n : List ℕ) → IsName p1 (r.Command depth) n p → (c : t.SimpleCommand) × g.Simple depth p1 c q
Lang s.cell_part p q = Cell p q
Lang (s.cmd depth) p q = (c : t.Command) × g.Cmd depth p c q
Lang (s.if_command depth) p q = (c : t.Command) × g.Cmd depth p c q
Lang (s.ending depth) p q = (p1 : Stage) (c : t.SimpleCommand) → g.Simple depth p1 c p → (d : t.Command) × g.Cmd depth p1 d q
Lang (s.else_part depth) p q = (x : t.ElseBlock) × g.Else depth p x q
Lang (s.block depth) p q = (x : t.CommandBlock) × g.Block depth p x q
Lang (s.case_command depth) p q = (c : t.Command) × g.Cmd depth p c q
Lang (s.arm depth) p q = (cs : t.Expressions) × (b : t.CommandBlock) × g.Arm depth p cs b q
Lang (s.arms depth) p q = (x : t.Arms) × g.Arms depth p x q
Lang s.constant p q = (x : t.Expression) × g.Constant p x q
Lang s.constants p q = (xs : t.Expressions) × g.Constants p xs q
Lang (s.cmds depth) p q = (cs : t.CommandList) × g.Cmds depth p cs q
Lang s.authority p q = (x : Option Under) × g.Authority p x q
Lang s.kind_of p q = (x : KindTree) × g.KindOf p x q
Lang s.enforced p q = (x : KindTree) × g.KindOf p x q
Lang s.initial p q = (x : Option Numeral) × g.Initial p x q
Lang s.declaration p q = (x : Decl) × g.Declaration p x q
Lang s.input p q = (x : Decl) × g.Declaration p x q
Lang s.register p q = (x : Decl) × g.Declaration p x q
Lang s.memory p q = (x : Decl) × g.Declaration p x q
Lang s.declarations p q = (xs : List Decl) × g.Declarations p xs q
Lang (s.state depth) p q = (x : t.StateTree) × g.State depth p x q
Lang (s.states depth) p q = (xs : t.StateList) × g.States depth p xs q
Lang s.last_states p q = (xs : t.StateList) × g.States 1 p xs q
Lang s.header p q = (x : Version) × g.Header p x q
Lang s.design p q = (x : t.DesignTree) × g.Design p x q

abbrev pub Langs : List Symbol → Stage → Stage → Type 0
Langs = LangsOf W Lang

-- what stands for the last of several symbols
pub last : (x : Symbol) (p r : Stage) → Langs (x ∷ []) p r → Lang x p r
last x p r h = subst (λ q. Lang x p q) h.2 h.1

-- where a symbol may be empty, nothing stands for it
pub nothing : (x : Symbol) → s.may_be_empty x ≡ true → (p : Stage) → Lang x p p
nothing s.choice e p = λ p1 x h. (x, g.only h)
nothing s.behind_name e p = λ p1 n h. (_, g.post (g.read h) g.no_cut)
nothing s.slices e p = λ x. (x, g.no_cut)
nothing s.parts e p = (t.no_part, g.no_part)
nothing (s.tail l) e p = λ x. (x, g.no_other)
nothing s.texprs e p = (t.no_tag, g.no_tag)
nothing s.cell_part e p = no_cell
nothing (s.else_part depth) e p = (t.no_else, g.no_else)
nothing (s.cmds depth) e p = (t.no_command, g.no_cmd)
nothing s.constants e p = (t.no_part, g.no_constant)
nothing s.header e p = (v.One, g.no_header)
nothing s.authority e p = (None, g.no_authority)
nothing s.initial e p = (None, g.no_initial)
nothing s.declarations e p = ([], g.no_declaration)
nothing (s.states depth) e p = (t.no_state, g.no_state)
nothing s.last_states e p = (t.no_state, g.no_state)
nothing _ e p = absurd (cc)

-- the operators behind an operand
pub operators : (n : ℕ) (p m q : Stage) (x : t.Expression) → n ≤ unary_precedence → g.Bin unary_precedence p x m → Langs (tightest n) m q
    → (y : t.Expression) × g.Bin (unary_precedence - n) p y q
operators zero p m q x le h more = (x, subst (λ r. g.Bin unary_precedence p x r) more h)
operators (suc n) p m q x le h more =
    let c = split W Lang (tightest n) (s.tail (unary_precedence - suc n) ∷ []) m q more in
    let a = operators n p m c.0 x (omega arith) h c.1 in
    let o = last (s.tail (unary_precedence - suc n)) c.0 q c.2 a.0 in
    let level : unary_precedence - n ≡ (unary_precedence - suc n) + 1 = omega arith in
    (o.0, g.chain (omega arith) (subst (λ l. g.Bin l p a.0 c.0) level a.1) o.1)

pub operators_from : (l : ℕ) (p m q : Stage) (x : t.Expression) → l ≤ unary_precedence → g.Unary p x m → Langs (tails l) m q → (y : t.Expression) × g.Bin l p y q
operators_from l p m q x le h more =
    let a = operators (unary_precedence - l) p m q x (omega arith) (g.operand h) more in
    let level : unary_precedence - (unary_precedence - l) ≡ l = omega arith in
    (a.0, subst (λ n. g.Bin n p a.0 q) level a.1)

-- an expression with a first operand
pub expression : (p m q : Stage) (x : t.Expression) → g.Unary p x m → Langs (tails 1 ++ s.choice ∷ []) m q → (y : t.Expression) × g.Expr p y q
expression p m q x h more =
    let c = split W Lang (tails 1) (s.choice ∷ []) m q more in
    let a = operators_from 1 p m c.0 x (omega arith) h c.1 in
    last s.choice c.0 q c.2 p a.0 a.1
