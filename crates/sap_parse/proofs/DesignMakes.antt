-- Trees of declarations and states, from the equations that the reader's functions have.
use Rattle.std.proofs.Common.{◌≡◌, ◌+◌, ℕ, List, [], ◌∷◌, ◌++◌, Option, Some, refl, sym, ap, subst, ◌∙◌}
use Rattle.sap_parse.specs.DesignRows.{AllStates, Cells, Declared, Head, all_states, cells, declared, head}
use Rattle.sap_parse.specs.Grammar as g
use Rattle.sap_parse.specs.Joining.{join_states}
use Rattle.sap_parse.specs.Stages.{Stage, IsName, IsNumber, IsSign, IsWord, here, mention, numeral}
use Rattle.sap_parse.specs.declared.role.Role.TheVariants as r
use Rattle.sap_parse.specs.declared.role.Role.{Role}
use Rattle.sap_lex.specs.declared.token.Sign.TheVariants as s
use Rattle.sap_tree.specs.declared.word.Word.TheVariants as w
use Rattle.sap_tree.specs.Trees.{state_of, states_of}
use Rattle.sap_tree.specs.declared.word.Word.{Word}
use Rattle.sap_tree.specs.declared.name.Mention.{Mention}
use Rattle.sap_tree.specs.declared.version.Version.{Version}
use Rattle.sap_tree.specs.declared.syntax.Decl.{Decl}
use Rattle.sap_tree.specs.declared.syntax.Kind.{Kind}
use Rattle.sap_tree.specs.declared.syntax.Numeral.{Numeral}
use Rattle.sap_tree.specs.declared.syntax.State.{State}
use Rattle.sap_tree.specs.declared.syntax.Under.{Under}
use Rattle.sap_tree.specs.Syntax as t
use Rattle.sap_text.specs.declared.place.Place.{Place}
use Rattle.sap_tree.specs.declared.syntax.Decl.TheVariants as d
use Rattle.sap_tree.specs.declared.syntax.Kind.TheVariants as k

pub authority_tree : {p1 p2 q : Stage} {place : Place} {n : Mention} → IsWord p1 r.Plain w.Under p2 → IsName p2 r.Plain n.name q → place ≡ here p1 → n ≡ mention p2 n.name
    → g.Authority p1 (Some (record { place = place; level = n })) q
authority_tree {p1 = p1} {p2 = p2} {q = q} {n = n} a b at there =
    subst (λ place. g.Authority p1 (Some (record { place = place; level = n })) q) (sym at)
    (subst (λ m. g.Authority p1 (Some (record { place = here p1; level = m })) q) (sym there) (g.authority a b))

pub dynamic_tree : {p q : Stage} {place : Place} → IsWord p r.Plain w.Dynamic q → place ≡ here p → g.KindOf p (k.Dynamic place) q
dynamic_tree {p = p} {q = q} a at = subst (λ place. g.KindOf p (k.Dynamic place) q) (sym at) (g.dynamic a)

pub enforced_tree : {p1 p2 p3 q : Stage} {n : Mention} {under : Option Under} → IsWord p1 r.Plain w.Enforced p2
    → IsName p2 r.Plain n.name p3 → g.Authority p3 under q → n ≡ mention p2 n.name
    → g.KindOf p1 (k.Enforced n under) q
enforced_tree {p1 = p1} {q = q} {under = under} a b c there = subst (λ m. g.KindOf p1 (k.Enforced m under) q) (sym there) (g.enforced a b c)

pub initial_tree : {p1 p2 q : Stage} {n : Numeral} → IsSign p1 r.Plain s.Is p2 → IsNumber p2 r.Plain n.value q → n ≡ numeral p2 n.value → g.Initial p1 (Some n) q
initial_tree {p1 = p1} {q = q} a b there = subst (λ m. g.Initial p1 (Some m) q) (sym there) (g.initial a b)

pub declared_tree : {role : Role} {word : Word} {p1 p2 p3 p4 q : Stage} {place : Place} {n : Mention} {width : Numeral}
    → IsWord p1 role word p2 → IsName p2 r.Plain n.name p3 → IsSign p3 r.Plain s.Colon p4 → IsNumber p4 r.Plain width.value q
    → place ≡ here p1 → n ≡ mention p2 n.name → width ≡ numeral p4 width.value → Declared role word p1 place n width q
declared_tree {role = role} {word = word} {p1 = p1} {p2 = p2} {q = q} {n = n} {width = width} a b c e at there wide =
    subst (λ place. Declared role word p1 place n width q) (sym at) (subst (λ m. Declared role word p1 (here p1) m width q) (sym there)
    (subst (λ v. Declared role word p1 (here p1) (mention p2 n.name) v q) (sym wide) (declared a b c e)))

pub input_tree : {p1 p2 q : Stage} {place : Place} {n : Mention} {width : Numeral} → Declared r.Input w.Input p1 place n width p2
    → IsSign p2 r.Plain s.Semicolon q → g.Declaration p1 (d.Input place n width) q
input_tree (declared a b c e) f = g.input a b c e f

pub register_tree : {p1 p2 p3 p4 q : Stage} {place : Place} {n : Mention} {width : Numeral} {kind kind' : Kind} {start : Option Numeral}
    → Declared r.Register w.Reg p1 place n width p2 → g.KindOf p2 kind p3 → g.Initial p3 start p4 → IsSign p4 r.Plain s.Semicolon q
    → kind' ≡ kind → g.Declaration p1 (d.Register place n width kind' start) q
register_tree {p2 = p2} {p3 = p3} (declared a b c e) f h l same = g.register a b c e (subst (λ kind. g.KindOf p2 kind p3) (sym same) f) h l

pub cells_tree : {p1 p2 p3 q : Stage} {n : Numeral} → IsSign p1 r.Plain s.OpenBracket p2 → IsNumber p2 r.Plain n.value p3
    → IsSign p3 r.Plain s.CloseBracket q → n ≡ numeral p2 n.value → Cells p1 n q
cells_tree {p1 = p1} {q = q} a b c there = subst (λ m. Cells p1 m q) (sym there) (cells a b c)

pub memory_tree : {p1 p2 p3 p4 q : Stage} {place : Place} {n : Mention} {width size : Numeral} {kind kind' : Kind}
    → Declared r.Memory w.Mem p1 place n width p2 → Cells p2 size p3 → g.KindOf p3 kind p4 → IsSign p4 r.Plain s.Semicolon q → kind' ≡ kind
    → g.Declaration p1 (d.Memory place n width size kind') q
memory_tree {p3 = p3} {p4 = p4} (declared a b c e) (cells f h l) m o same = g.memory a b c e f h l (subst (λ kind. g.KindOf p3 kind p4) (sym same) m) o

pub head_tree : {depth : ℕ} {p1 p2 p3 p4 q : Stage} {place : Place} {n : Mention} {kind : Kind} → IsWord p1 (r.State depth) w.State p2
    → IsName p2 r.Plain n.name p3 → g.KindOf p3 kind p4 → IsSign p4 r.Plain s.OpenBrace q
    → place ≡ here p1 → n ≡ mention p2 n.name → Head depth p1 place n kind q
head_tree {depth = depth} {p1 = p1} {p2 = p2} {q = q} {n = n} {kind = kind} a b c e at there =
    subst (λ place. Head depth p1 place n kind q) (sym at) (subst (λ m. Head depth p1 (here p1) m kind q) (sym there) (head a b c e))

state_one : {depth : ℕ} {p1 p2 p3 p4 q : Stage} {place : Place} {n : Mention} {kind : Kind} {cs : t.CommandList} {children : t.StateList}
    → Head depth p1 place n kind p2 → g.Cmds 1 p2 cs p3 → g.States (depth + 1) p3 children p4 → IsSign p4 r.Plain s.CloseBrace q
    → g.State depth p1 (t.state_node place n kind (t.command_block cs (here p3)) children) q
state_one (head a b c e) f h l = g.state a b c e f h l

pub state_tree : {depth : ℕ} {p1 p2 p3 p4 q : Stage} {place after : Place} {n : Mention} {kind kind' : Kind} {cs : t.CommandList} {children : t.StateList} {x : t.StateTree}
    → Head depth p1 place n kind p2 → g.Cmds 1 p2 cs p3 → g.States (depth + 1) p3 children p4 → IsSign p4 r.Plain s.CloseBrace q
    → kind' ≡ kind → after ≡ here p3 → x ≡ t.state_node place n kind' (t.command_block cs after) children → g.State depth p1 x q
state_tree {depth = depth} {p1 = p1} {q = q} {place = place} {after = after} {n = n} {kind = kind} {cs = cs} {children = children} a b c e same last made =
    subst (λ x. g.State depth p1 x q)
    (sym (made ∙ ap (λ kind. t.state_node place n kind (t.command_block cs after) children) same
    ∙ ap (λ after. t.state_node place n kind (t.command_block cs after) children) last)) (state_one a b c e)

pub join_states_push : (xs : List State) (x : State) (ys : t.StateList) → join_states (states_of (xs ++ x ∷ [])) ys ≡ join_states (states_of xs) (t.and_state (state_of x) ys)
join_states_push [] x ys = refl
join_states_push (y ∷ xs) x ys = ap (λ zs. t.and_state (state_of y) zs) (join_states_push xs x ys)

pub join_states_none : (xs : t.StateList) → join_states xs t.no_state ≡ xs
join_states_none t.no_state = refl
join_states_none (t.and_state x xs) = ap (λ zs. t.and_state x zs) (join_states_none xs)

pub all_states_tree : {p1 p2 q : Stage} {x : t.StateTree} {xs all : t.StateList} → g.State 1 p1 x p2 → g.States 1 p2 xs q → all ≡ t.and_state x xs → AllStates p1 all q
all_states_tree {p1 = p1} {q = q} a b same = subst (λ xs. AllStates p1 xs q) (sym same) (all_states a b)

pub design_tree : {p1 p2 p3 q : Stage} {version : Version} {declarations : List Decl} {states : t.StateList} → g.Header p1 version p2
    → g.Declarations p2 declarations p3 → AllStates p3 states q
    → g.Design p1 (record { version = version; declarations = declarations; states = states }) q
design_tree h a (all_states b c) = g.design h a b c
