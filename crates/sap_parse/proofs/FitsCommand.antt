-- Commands of a text within the limits are within theirs.
use Rattle.sap_lemmas.proofs.Common.{◌≡◌, ◌≤◌, ◌+◌, ℕ, max, Bool, true, false, refl, arith, nat_le, ◌&&◌, ◌||◌, length}
use Rattle.sap_parse.specs.Grammar as g
use Rattle.sap_parse.specs.Limits.{Counts}
use Rattle.sap_parse.specs.Stages.{Stage, IsToken}
use Rattle.sap_parse.specs.declared.role.Role.TheVariants as r
use Rattle.sap_lex.specs.declared.token.Kind.{Kind}
use Rattle.sap_parse.proofs.Between.{all_true, le_true, Between, ◌then◌, gives, still, sized, one_less, stands, KindFact}
use Rattle.sap_parse.proofs.FitsExpr.{Spans, all_of, kind_is, kind_true, expr_between, texpr_between, outermost}
use Rattle.sap_tree.specs.Prelude.{is_outermost, is_simple, is_command, is_block, is_else, are_arms, are_commands, is_constant, are_constants, has_constant, arm_count, command_count, block_count, else_count, arms_count, list_count, command_depth, block_depth, else_depth, arms_depth, list_depth, most_arms, is_second}
use Rattle.sap_tree.specs.declared.version.Version.{Version}
use Rattle.sap_tree.specs.Syntax as t
use Rattle.sap_tree.specs.declared.version.Version.TheVariants as v

-- between these counts are commands or states at this depth: what is tested of them, how many states and commands they begin, and how many levels are theirs
pub record Adds (most depth : ℕ) (is : Bool) (s n l : ℕ) (c d : Counts) : Type 0 where
  pub test : is ≡ true
  pub states : d.states ≡ c.states + s
  pub commands : d.commands ≡ c.commands + n
  pub state_room : c.states ≤ 256 → d.states ≤ 256
  pub command_room : c.commands ≤ 4096 → d.commands ≤ 4096
  pub level : depth ≤ most → depth + l ≤ most

abbrev pub Holds : Version → (most depth : ℕ) → Stage → Stage → Bool → (s n l : ℕ) → Type 0
Holds version most depth p q is s n l = Between version p q (Adds most depth is s n l p.past.counts q.past.counts)

abbrev pub Commands : Version → ℕ → Stage → Stage → Bool → (n l : ℕ) → Type 0
Commands version depth p q is n l = Holds version 65 depth p q is 0 n l

tested : {most depth s n l : ℕ} {a b : Bool} {c d : Counts} → Adds most depth a s n l c d → b ≡ true → Adds most depth b s n l c d
tested f h = record { test = h; states = f.states; commands = f.commands; state_room = f.state_room; command_room = f.command_room; level = f.level }

pub nothing : {version : Version} {most depth : ℕ} {p : Stage} → Holds version most depth p p true 0 0 0
nothing = still (record { test = refl; states = omega arith; commands = omega arith; state_room = λ h. h; command_room = λ h. h; level = λ h. omega arith })

pub joined : {version : Version} {most depth : ℕ} {o p q : Stage} {a b is : Bool} {s n l t m k i j h : ℕ} → Holds version most depth o p a s n l
    → Holds version most depth p q b t m k → (a ≡ true → b ≡ true → is ≡ true) → i ≡ s + t → j ≡ n + m → h ≤ max l k → Holds version most depth o q is i j h
joined x y test states commands levels = gives (x then y) (λ f.
    let s = f.0.states in let n = f.0.commands in let t = f.1.states in let m = f.1.commands in
    record {
      test = test f.0.test f.1.test;
      states = omega arith;
      commands = omega arith;
      state_room = λ h. f.1.state_room (f.0.state_room h);
      command_room = λ h. f.1.command_room (f.0.command_room h);
      level = λ h. let u = f.0.level h in let v = f.1.level h in omega arith;
    })

infixl 10 ◌and◌
pub ◌and◌ : {version : Version} {most depth : ℕ} {o p q : Stage} {a b : Bool} {s n l t m k : ℕ} → Holds version most depth o p a s n l
    → Holds version most depth p q b t m k → Holds version most depth o q (a && b) (s + t) (n + m) (max l k)
x and y = joined x y all_true refl refl (omega arith)

-- what stands in them is one level deeper
infixl 10 ◌owns◌
pub ◌owns◌ : {version : Version} {most depth : ℕ} {o p q : Stage} {a b : Bool} {s n t m k : ℕ} → Holds version most depth o p a s n 1
    → Holds version most (depth + 1) p q b t m k → Holds version most depth o q (a && b) (s + t) (n + m) (1 + k)
x owns y = gives (x then y) (λ f.
    let s = f.0.states in let n = f.0.commands in let t = f.1.states in let m = f.1.commands in
    record {
      test = all_true f.0.test f.1.test;
      states = omega arith;
      commands = omega arith;
      state_room = λ h. f.1.state_room (f.0.state_room h);
      command_room = λ h. f.1.command_room (f.0.command_room h);
      level = λ h. let u = f.0.level h in let v = f.1.level (omega arith) in omega arith;
    })

-- a token that begins nothing, with what is tested of it
plainly : {version : Version} {most depth : ℕ} {p q : Stage} {kind : Kind} {b : Bool} → IsToken p r.Plain kind q → (KindFact version kind → b ≡ true)
    → Holds version most depth p q b 0 0 0
plainly a h = gives (stands a) (λ f.
    let s = f.1.states in let n = f.1.commands in
    record { test = h f.0; states = s; commands = n; state_room = λ h. omega arith; command_room = λ h. omega arith; level = λ h. omega arith })

pub plain : {version : Version} {most depth : ℕ} {p q : Stage} {kind : Kind} → IsToken p r.Plain kind q → Holds version most depth p q (kind_is version kind) 0 0 0
plain {version} {kind = kind} a = plainly a (kind_true version kind)

-- and one of which nothing is
infixr 12 ◌before◌
pub ◌before◌ : {version : Version} {most depth : ℕ} {o p q : Stage} {kind : Kind} {a : Bool} {s n l : ℕ} → IsToken o r.Plain kind p
    → Holds version most depth p q a s n l → Holds version most depth o q a s n l
x before y = joined (plain x) y (λ e f. f) (omega arith) (omega arith) (omega arith)

infixl 10 ◌upto◌
pub ◌upto◌ : {version : Version} {most depth : ℕ} {o p q : Stage} {kind : Kind} {a : Bool} {s n l : ℕ} → Holds version most depth o p a s n l
    → IsToken p r.Plain kind q → Holds version most depth o q a s n l
x upto y = joined x (plain y) (λ e f. e) (omega arith) (omega arith) (omega arith)

-- an expression or tag expression that stands in no other, and the token before it
holding : {version : Version} {most depth : ℕ} {o p q : Stage} {kind : Kind} {a : Bool} {n l : ℕ} → IsToken o r.Plain kind p → Spans version p q a n l
    → Holds version most depth o q (a && (nat_le n 256 && nat_le l 64)) 0 0 0
holding x y = gives (stands x then y) (λ f.
    let b = f.0.1 in let s = b.states in let n = b.commands in let t = f.1.states in let m = f.1.commands in
    record {
      test = outermost b.tokens b.brackets f.1;
      states = omega arith;
      commands = omega arith;
      state_room = λ h. omega arith;
      command_room = λ h. omega arith;
      level = λ h. omega arith;
    })

-- the first token of a command
begun : {version : Version} {n : ℕ} {p q : Stage} {kind : Kind} {b : Bool} → IsToken p (r.Command n) kind q → (KindFact version kind → b ≡ true) → Commands version n p q b 1 1
begun a h = gives (stands a) (λ f.
    let b = f.1.0 in let s = b.states in let m = f.1.1 in let l = f.1.2 in
    record { test = h f.0; states = s; commands = b.commands; state_room = λ h. omega arith; command_room = λ h. m; level = λ h. omega arith })

command : {version : Version} {n : ℕ} {p q : Stage} {kind : Kind} → IsToken p (r.Command n) kind q → Commands version n p q (kind_is version kind) 1 1
command {version} {kind = kind} a = begun a (kind_true version kind)

simple_between : {version : Version} {n : ℕ} {p q : Stage} {x : t.SimpleCommand} → g.Simple n p x q → Commands version n p q (is_simple version x) 1 1
unfolding is_simple
simple_between (g.assign a b x) = command a and holding b (expr_between x)
simple_between (g.write a b i c d x) = command a and holding b (expr_between i) and c before holding d (expr_between x)
simple_between (g.set_tag a b c d x e) = command a and b before (plain c and holding d (texpr_between x)) upto e
simple_between (g.set_cell_tag a b c d i e o x h) =
    command a and b before plain c and holding d (expr_between i) and e before holding o (texpr_between x) upto h
simple_between (g.goto a b) = command a and plain b
simple_between (g.fall a) = command a

-- words of the second version
second_of : (version : Version) → (is_second version || false) ≡ true → is_second version ≡ true
second_of v.One h = h
second_of v.Two h = refl

then_test : (x s a b : Bool) → (x && s && (a && b)) ≡ true → (s && x && a && b) ≡ true
then_test true true a b h = h
then_test true false a b h = h
then_test false true a b h = h
then_test false false a b h = h

case_test : (x few arms : Bool) → few ≡ true → (x && arms) ≡ true → (x && true && few && arms) ≡ true
case_test true true arms f h = h
case_test true false arms f h = f
case_test false few arms f h = h

constant_between : {version : Version} {n : ℕ} {p q : Stage} {x : t.Expression} → g.Constant p x q → Commands version n p q (is_constant x) 0 0
constant_between (g.plain a) = plain a
constant_between (g.wide a) = plain a

constants_between : {version : Version} {n : ℕ} {p q : Stage} {xs : t.Expressions} → g.Constants p xs q → Commands version n p q (are_constants xs) 0 0
constants_between g.no_constant = nothing
constants_between (g.constant a x xs) = a before (constant_between x and constants_between xs)

mutual
  unfolding is_command command_count block_count else_count arms_count list_count command_depth block_depth else_depth arms_depth list_depth

  cmd_between : {version : Version} {n : ℕ} {p q : Stage} {x : t.Command} → g.Cmd n p x q → Commands version n p q (is_command version x) (command_count x) (command_depth x)
  cmd_between (g.unhandled x a) = simple_between x upto a
  cmd_between (g.handled x a b) = simple_between x upto a owns block_between b
  cmd_between {version} (g.branch {x = i} {yes = one} {no = other} a b x c y z) =
      gives (command a and holding b (expr_between x) upto c owns (block_between y and else_between z))
      (λ f. tested f (all_of (is_outermost version i) (is_block version one) (is_else version other) f.test))
  cmd_between {version} (g.decided {c = c} {accepted = one} {refused = other} x a b d e) =
      gives (simple_between x and plainly a (second_of version) owns (block_between b and d before block_between e))
      (λ f. tested f (then_test (is_simple version c) (is_second version) (is_block version one) (is_block version other) f.test))
  cmd_between {version} (g.case {arms = arms} a b x d e y z f) =
      let front = begun a (second_of version) and holding b (expr_between x) upto d upto e in
      gives (sized (front owns (arm_between y and arms_between z) upto f)) (λ k.
      let m = k.1 in let l1 = front.less in let l2 = arm_less version y in let l3 = arms_less version z in
      let few : 1 + arm_count arms ≤ most_arms = omega arith in
      tested k.0 (case_test _ _ _ (le_true few) k.0.test))

  arm_less : (version : Version) {n : ℕ} {p q : Stage} {cs : t.Expressions} {h : t.CommandBlock} → g.Arm n p cs h q → length q.left + 1 ≤ length p.left
  arm_less version {n} (g.arm x xs a h) =
      let l1 = (constant_between {version = version} {n = n} x).less in let l2 = (constants_between {version = version} {n = n} xs).less in
      let l3 = one_less a in let l4 = (block_between {version = version} h).less in
      omega arith

  arms_less : (version : Version) {n : ℕ} {p q : Stage} {x : t.Arms} → g.Arms n p x q → arm_count x + length q.left ≤ length p.left
  arms_less version (g.last a b) = let l1 = one_less a in let l2 = (block_between {version = version} b).less in omega arith
  arms_less version (g.and_arm a b) = let l1 = arm_less version a in let l2 = arms_less version b in omega arith

  arm_between : {version : Version} {n : ℕ} {p q : Stage} {cs : t.Expressions} {h : t.CommandBlock} → g.Arm n p cs h q
      → Commands version n p q (has_constant cs && are_constants cs && is_block version h) (block_count h) (block_depth h)
  arm_between (g.arm x xs a h) = joined (constant_between x and constants_between xs) (a before block_between h) all_true refl (omega arith) (omega arith)

  arms_between : {version : Version} {n : ℕ} {p q : Stage} {x : t.Arms} → g.Arms n p x q → Commands version n p q (are_arms version x) (arms_count x) (arms_depth x)
  arms_between (g.last a b) = a before block_between b
  arms_between (g.and_arm a b) = arm_between a and arms_between b

  else_between : {version : Version} {n : ℕ} {p q : Stage} {x : t.ElseBlock} → g.Else n p x q → Commands version n p q (is_else version x) (else_count x) (else_depth x)
  else_between g.no_else = nothing
  else_between (g.else a b) = a before block_between b

  block_between : {version : Version} {n : ℕ} {p q : Stage} {x : t.CommandBlock} → g.Block n p x q → Commands version n p q (is_block version x) (block_count x) (block_depth x)
  block_between (g.block a cs b) = a before cmds_between cs upto b

  pub cmds_between : {version : Version} {n : ℕ} {p q : Stage} {x : t.CommandList} → g.Cmds n p x q → Commands version n p q (are_commands version x) (list_count x) (list_depth x)
  cmds_between g.no_cmd = nothing
  cmds_between (g.cmd c cs) = cmd_between c and cmds_between cs
