-- The tree of a text within the limits is whole.
use Rattle.sap_lemmas.proofs.Common.{◌≡◌, ◌≤◌, ◌+◌, ℕ, List, Option, Bool, true, cond, refl, sym, ap, subst, ◌∙◌, arith, sum_by-cons, nat_le, ◌&&◌, length, All, list_all, count_by}
use Rattle.sap_parse.specs.Fault.{IsDesign}
use Rattle.sap_parse.specs.Grammar as g
use Rattle.sap_parse.specs.Limits.{Counts, none_yet}
use Rattle.sap_lex.specs.Spelled.{HasText}
use Rattle.sap_lex.specs.Lexing.{version_of, version_of_kind}
use Rattle.sap_parse.specs.Stages.{Stage, IsToken}
use Rattle.sap_parse.specs.declared.role.Role.TheVariants as r
use Rattle.sap_parse.specs.declared.role.Role.{Role}
use Rattle.sap_lex.specs.declared.token.Kind.{Kind as KindOf}
use Rattle.sap_lex.specs.declared.token.Token.{Token}
use Rattle.sap_parse.proofs.Between.{all_true, le_true, AreGood, Between, ◌then◌, gives, still, stands, Plainly, texts_good}
use Rattle.sap_parse.proofs.FitsCommand.{Adds, Holds, ◌and◌, ◌before◌, ◌owns◌, ◌upto◌, cmds_between, joined as joined_held, nothing as nothing_held, plain}
use Rattle.sap_parse.proofs.FitsExpr.{all_of, kind_is, kind_true}
use Rattle.sap_tree.specs.Syntax as t
use Rattle.sap_tree.specs.Prelude.{is_block, are_commands, block_count, list_count, block_depth, list_depth, is_authority, is_kind, is_start, is_declaration, is_input, is_register, is_memory, is_state, are_states, state_count, states_count, state_depth, states_depth, state_commands, states_commands, is_whole, is_name, most_arms}
use Rattle.sap_tree.specs.declared.syntax.Decl.{Decl}
use Rattle.sap_tree.specs.declared.syntax.Kind.{Kind}
use Rattle.sap_tree.specs.declared.syntax.Numeral.{Numeral}
use Rattle.sap_tree.specs.declared.syntax.Under.{Under}
use Rattle.sap_tree.specs.declared.version.Version.{Version}
use Rattle.sap_tree.specs.declared.version.Version.TheVariants as v

-- declarations

-- between these counts are declarations, or parts of one: what is tested of them, and how many inputs, registers and memories they begin
pub record Declares (is : Bool) (i r m : ℕ) (c d : Counts) : Type 0 where
  pub test : is ≡ true
  pub inputs : d.inputs ≡ c.inputs + i
  pub registers : d.registers ≡ c.registers + r
  pub memories : d.memories ≡ c.memories + m
  pub input_room : c.inputs ≤ 64 → d.inputs ≤ 64
  pub register_room : c.registers ≤ 256 → d.registers ≤ 256
  pub memory_room : c.memories ≤ 16 → d.memories ≤ 16
  pub states : d.states ≡ c.states
  pub commands : d.commands ≡ c.commands

abbrev Declared : Version → Stage → Stage → Bool → (i r m : ℕ) → Type 0
Declared version p q is i r m = Between version p q (Declares is i r m p.past.counts q.past.counts)

nothing : {version : Version} {p : Stage} → Declared version p p true 0 0 0
nothing = still (record {
  test = refl;
  inputs = omega arith;
  registers = omega arith;
  memories = omega arith;
  input_room = λ h. h;
  register_room = λ h. h;
  memory_room = λ h. h;
  states = refl;
  commands = refl;
})

joined : {version : Version} {o p q : Stage} {a b is : Bool} {i r m j s n x y z : ℕ} → Declared version o p a i r m → Declared version p q b j s n
    → (a ≡ true → b ≡ true → is ≡ true) → x ≡ i + j → y ≡ r + s → z ≡ m + n → Declared version o q is x y z
joined x y test inputs registers memories = gives (x then y) (λ f.
    let i = f.0.inputs in let r = f.0.registers in let m = f.0.memories in let j = f.1.inputs in let s = f.1.registers in let n = f.1.memories in
    record {
      test = test f.0.test f.1.test;
      inputs = omega arith;
      registers = omega arith;
      memories = omega arith;
      input_room = λ h. f.1.input_room (f.0.input_room h);
      register_room = λ h. f.1.register_room (f.0.register_room h);
      memory_room = λ h. f.1.memory_room (f.0.memory_room h);
      states = f.1.states ∙ f.0.states;
      commands = f.1.commands ∙ f.0.commands;
    })

infixl 10 ◌also◌
◌also◌ : {version : Version} {o p q : Stage} {a b : Bool} {i r m j s n : ℕ} → Declared version o p a i r m → Declared version p q b j s n
    → Declared version o q (a && b) (i + j) (r + s) (m + n)
x also y = joined x y all_true refl refl refl

-- a token that begins so much
begun : {is : Bool} {i r m : ℕ} {c d : Counts} → is ≡ true → Plainly i r m 0 0 c d → (c.inputs ≤ 64 → d.inputs ≤ 64)
    → (c.registers ≤ 256 → d.registers ≤ 256) → (c.memories ≤ 16 → d.memories ≤ 16) → Declares is i r m c d
begun h f inputs registers memories = record {
  test = h;
  inputs = f.inputs;
  registers = f.registers;
  memories = f.memories;
  input_room = inputs;
  register_room = registers;
  memory_room = memories;
  states = omega arith;
  commands = omega arith;
}

-- one that begins nothing, with what is tested of it
mark : {version : Version} {p q : Stage} {kind : KindOf} → IsToken p r.Plain kind q → Declared version p q (kind_is version kind) 0 0 0
mark {version} {kind = kind} a = gives (stands a) (λ f. let b = f.1 in begun (kind_true version kind f.0) b (λ h. omega arith) (λ h. omega arith) (λ h. omega arith))

infixl 10 ◌until◌
◌until◌ : {version : Version} {o p q : Stage} {kind : KindOf} {a : Bool} {i n m : ℕ} → Declared version o p a i n m → IsToken p r.Plain kind q
    → Declared version o q a i n m
x until y = joined x (mark y) (λ e f. e) (omega arith) (omega arith) (omega arith)

authority_between : {version : Version} {p q : Stage} {x : Option Under} → g.Authority p x q → Declared version p q (is_authority version x) 0 0 0
authority_between g.no_authority = nothing
authority_between (g.authority a b) = mark a also mark b

kind_between : {version : Version} {p q : Stage} {x : Kind} → g.KindOf p x q → Declared version p q (is_kind version x) 0 0 0
kind_between (g.dynamic a) = mark a
kind_between (g.enforced a b x) = mark a also mark b also authority_between x

initial_between : {version : Version} {p q : Stage} {x : Option Numeral} → g.Initial p x q → Declared version p q (is_start x) 0 0 0
initial_between g.no_initial = nothing
initial_between (g.initial a b) = mark a also mark b

abbrev one_if : Bool → ℕ
one_if b = cond b 1 0

declaration_between : {version : Version} {p q : Stage} {x : Decl} → g.Declaration p x q
    → Declared version p q (is_declaration version x) (one_if (is_input x)) (one_if (is_register x)) (one_if (is_memory x))
declaration_between {version} (g.input a b c e f) =
    let first : Declared version _ _ true 1 0 0 = gives (stands a) (λ f. let b = f.1.0 in let room = f.1.1 in begun refl b (λ h. room) (λ h. omega arith) (λ h. omega arith)) in
    first also mark b also (mark c also mark e) until f
declaration_between {version} (g.register a b c e k s f) =
    let first : Declared version _ _ true 0 1 0 = gives (stands a) (λ f. let b = f.1.0 in let room = f.1.1 in begun refl b (λ h. omega arith) (λ h. room) (λ h. omega arith)) in
    first also mark b also (mark c also mark e) also kind_between k also initial_between s until f
declaration_between {version} (g.memory a b c e f h i k o) =
    let first : Declared version _ _ true 0 0 1 = gives (stands a) (λ f. let b = f.1.0 in let room = f.1.1 in begun refl b (λ h. omega arith) (λ h. omega arith) (λ h. room)) in
    first also mark b also (mark c also mark e) also (mark f also mark h) also (mark i also kind_between k) until o

declarations_between : {version : Version} {p q : Stage} {xs : List Decl} → g.Declarations p xs q
    → Declared version p q (list_all (is_declaration version) xs) (count_by is_input xs) (count_by is_register xs) (count_by is_memory xs)
declarations_between g.no_declaration = nothing
declarations_between (g.declaration {d = x} {ds = xs} a b) =
    joined (declaration_between a) (declarations_between b) all_true
    (sum_by-cons (λ y. one_if (is_input y)) x xs) (sum_by-cons (λ y. one_if (is_register y)) x xs) (sum_by-cons (λ y. one_if (is_memory y)) x xs)

-- states

-- what declares nothing
settled : {version : Version} {most depth : ℕ} {p q : Stage} {a : Bool} → Declared version p q a 0 0 0 → Holds version most depth p q a 0 0 0
settled x = gives x (λ f.
    let s = f.states in let n = f.commands in
    record { test = f.test; states = omega arith; commands = omega arith; state_room = λ h. omega arith; command_room = λ h. omega arith; level = λ h. omega arith })

-- the first token of a state
state_begun : {version : Version} {n : ℕ} {p q : Stage} {kind : KindOf} → IsToken p (r.State n) kind q → Holds version 17 n p q (kind_is version kind) 1 0 1
state_begun {version} {kind = kind} a = gives (stands a) (λ f.
    let b = f.1.0 in let s = b.states in let n = b.commands in let m = f.1.1 in let l = f.1.2 in
    record { test = kind_true version kind f.0; states = s; commands = n; state_room = λ h. m; command_room = λ h. omega arith; level = λ h. omega arith })

-- the commands of a body
body : {version : Version} {most depth : ℕ} {p q : Stage} {a : Bool} {s n l : ℕ} → Holds version 65 1 p q a s n l → Holds version most depth p q (a && nat_le l 64) s n 0
body {l = l} x = gives x (λ f.
    let few : l ≤ 64 = let u = f.level (omega arith) in omega arith in
    record { test = all_true f.test (le_true few); states = f.states; commands = f.commands; state_room = f.state_room; command_room = f.command_room; level = λ h. omega arith })

mutual
  unfolding is_state is_block block_count list_count block_depth list_depth state_count states_count state_commands states_commands state_depth states_depth

  state_between : {version : Version} {n : ℕ} {p q : Stage} {x : t.StateTree} → g.State n p x q
      → Holds version 17 n p q (is_state version x) (state_count x) (state_commands x) (state_depth x)
  state_between {version} {n} (g.state {name = name} {kind = kind} {cs = cs} a b k c xs ys e) =
      let named = is_name version name && is_kind version kind in
      let own : Holds version 17 n _ _ (named && are_commands version cs && nat_le (list_depth cs) 64) 1 (list_count cs) 1 =
      joined_held (state_begun a and plain b and settled (kind_between k)) (c before body (cmds_between xs))
      (λ e f. all_of named (are_commands version cs) (nat_le (list_depth cs) 64) (all_true e f)) refl (omega arith) (omega arith) in
      own owns states_between ys upto e

  states_between : {version : Version} {n : ℕ} {p q : Stage} {xs : t.StateList} → g.States n p xs q
      → Holds version 17 n p q (are_states version xs) (states_count xs) (states_commands xs) (states_depth xs)
  states_between g.no_state = nothing_held
  states_between (g.and_state a b) = state_between a and states_between b

-- a design

-- the first line, where there is one, begins nothing
header_between : {version : Version} {p q : Stage} {v : Version} → g.Header p v q → Declared version p q true 0 0 0
header_between g.no_header = nothing
header_between (g.header a b c) = mark a also mark b also mark c

whole_fits : (version : Version) (ds : List Decl) (x : t.StateTree) (xs : t.StateList) {c d e : Counts} → c ≡ none_yet
    → Declares (list_all (is_declaration version) ds) (count_by is_input ds) (count_by is_register ds) (count_by is_memory ds) c d
    → Adds 17 1 (are_states version (t.and_state x xs)) (states_count (t.and_state x xs)) (states_commands (t.and_state x xs)) (states_depth (t.and_state x xs)) d e
    → is_whole (record { version = version; declarations = ds; states = t.and_state x xs }) ≡ true
unfolding is_whole
whole_fits version ds x xs none f g =
    let i0 = ap (λ (c : Counts). c.inputs) none in let r0 = ap (λ (c : Counts). c.registers) none in let m0 = ap (λ (c : Counts). c.memories) none in
    let s0 = ap (λ (c : Counts). c.states) none in let n0 = ap (λ (c : Counts). c.commands) none in
    let ir = f.input_room (omega arith) in let rr = f.register_room (omega arith) in let mr = f.memory_room (omega arith) in
    let sr = g.state_room (omega arith) in let nr = g.command_room (omega arith) in let l = g.level (omega arith) in
    let e1 : count_by is_input ds ≤ 64 = omega arith in
    let e2 : count_by is_register ds ≤ 256 = omega arith in
    let e3 : count_by is_memory ds ≤ 16 = omega arith in
    let e4 : states_count (t.and_state x xs) ≤ 256 = omega arith in
    let e5 : states_depth (t.and_state x xs) ≤ 16 = omega arith in
    let e6 : states_commands (t.and_state x xs) ≤ 4096 = omega arith in
    all_true (all_true (all_true f.test refl) g.test)
    (all_true (all_true (all_true (all_true (all_true (le_true e1) (le_true e2)) (le_true e3)) (le_true e4)) (le_true e5)) (le_true e6))

design_between : {p q : Stage} {x : t.DesignTree} → g.Design p x q → p.past.counts ≡ none_yet → Between x.version p q (is_whole x ≡ true)
unfolding is_state state_count states_count state_commands states_commands state_depth states_depth
design_between (g.design {version = version} {x = x} {xs = xs} h ds one more) none =
    let declared = joined (header_between h) (declarations_between ds) (λ e f. f) (omega arith) (omega arith) (omega arith) in
    gives (declared then (state_between one and states_between more)) (λ f. whole_fits version _ x xs none f.0 f.1)

-- the version of a design is that of its tokens

-- a first token that is no word of a first line
starts : {p q : Stage} {role : Role} {kind : KindOf} → IsToken p role kind q → version_of_kind kind ≡ v.One → version_of p.left ≡ v.One
unfolding version_of
starts h e = ap version_of h.left ∙ ap version_of_kind h.is ∙ e

declared_one : {p q : Stage} {x : Decl} → g.Declaration p x q → version_of p.left ≡ v.One
declared_one (g.input a b c e f) = starts a refl
declared_one (g.register a b c e k s f) = starts a refl
declared_one (g.memory a b c e f h i k o) = starts a refl

state_one : {n : ℕ} {p q : Stage} {x : t.StateTree} → g.State n p x q → version_of p.left ≡ v.One
state_one (g.state a b k c cs xs e) = starts a refl

plain_one : {p q r : Stage} {ds : List Decl} {x : t.StateTree} → g.Declarations p ds q → g.State 1 q x r → version_of p.left ≡ v.One
plain_one g.no_declaration s = state_one s
plain_one (g.declaration a b) s = declared_one a

version_is : {p q : Stage} {x : t.DesignTree} → g.Design p x q → x.version ≡ version_of p.left
unfolding version_of
version_is (g.design g.no_header ds one more) = sym (plain_one ds one)
version_is (g.design (g.header a b c) ds one more) = sym (ap version_of a.left ∙ ap version_of_kind a.is)

pub design_is_whole : (source : List ℕ) (ts : List Token) (x : t.DesignTree) → length ts ≤ most_arms → All (HasText (version_of ts) source) ts → IsDesign ts x → is_whole x ≡ true
design_is_whole source ts x few texts h =
    let good = subst (λ version. AreGood version ts) (sym (version_is h.design)) (texts_good (version_of ts) source ts texts) in
    ((design_between h.design refl).back good few h.first_is).1
