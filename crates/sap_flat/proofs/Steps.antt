-- One command, one state more, and the ends of loops over them.
use Rattle.sap_lemmas.proofs.Common.{◌≡◌, ℕ, ◌+◌, ◌<◌, ◌≤◌, List, [], ◌∷◌, ◌++◌, length, get_or, drop, Some, None, refl, sym, ap, ap₂, ◌∙◌, arith, append_assoc, slice_get, Vec, Global, append-nil}
use Rattle.sap_maps.specs.Prelude.{Name, Term, constant, read}
use Rattle.sap_ir.specs.Prelude.{term_of, action_of, command_of, commands_of, Action, set, Command, Forest, seat_width, body_of, forest_of}
use Rattle.sap_ir.specs.declared.guarded.Act.{Act}
use Rattle.sap_ir.specs.declared.guarded.Calc.{Calc}
use Rattle.sap_ir.specs.declared.guarded.GuardedCmd.{GuardedCmd}
use Rattle.sap_ir.specs.declared.plain.nested.PlainCmd.{PlainCmd}
use Rattle.sap_ir.specs.declared.plain.nested.PlainState.{PlainState, out-PlainState}
use Rattle.sap_ir.specs.declared.guarded.Act.TheVariants as act
use Rattle.sap_ir.specs.declared.plain.nested.PlainCmd.TheVariants as cmd
use Rattle.sap_ir.specs.declared.plain.nested.PlainCmd.TheViews as shown
use Rattle.sap_net.specs.PortNames.{seat_name, root_seat}
use Rattle.sap_flat.specs.Gates.{gate_name}
use Rattle.sap_flat.specs.Flat.{Flat, under, is_number, flat_states}
use Rattle.sap_flat.specs.Lists.{first_commands, restart_commands, place_in, goto_commands, choice_commands, commands_flat, command_flat, gates_commands, states_flat, state_flat}
use Rattle.sap_flat.proofs.Grows.{body_grows}
use Rattle.sap_flat.proofs.Makes.{made, then_flat, commands-drop, commands-past, command_do, command_if, command_goto, command_fall, gates-drop, state_is, states-drop, states-past, goto_some, goto_none, whole_is}

-- what is behind is what a flat list says
pub record Behind (now init : List Command) (rest all : Flat) : Type 0 where
  pub commands : now ++ rest.commands ≡ init ++ all.commands
  pub next : rest.next ≡ all.next

step : (now new init : List Command) (m : ℕ) (one : Flat) (f : ℕ → Flat) (rest all : Flat) → rest ≡ then_flat one f
    → new ≡ now ++ one.commands → m ≡ one.next → Behind now init rest all → Behind new init (f m) all
step now new init m one f rest all d e n b =
    record {
      commands = ap₂ (λ (cs : List Command) (k : ℕ). cs ++ (f k).commands) e n
          ∙ append_assoc now one.commands (f one.next).commands
          ∙ ap (λ (r : Flat). now ++ r.commands) (sym d)
          ∙ b.commands;
      next = ap (λ (k : ℕ). (f k).next) n ∙ ap (λ (r : Flat). r.next) (sym d) ∙ b.next;
    }

-- nothing is behind
rest_none : (now init : List Command) (k : ℕ) (rest all : Flat) → rest ≡ made [] k → Behind now init rest all → (now ≡ init ++ all.commands) × (k ≡ all.next)
rest_none now init k rest all e b = (
  sym (append-nil now) ∙ ap (λ (r : Flat). now ++ r.commands) (sym e) ∙ b.commands,
  ap (λ (r : Flat). r.next) (sym e) ∙ b.next,
)

-- commands

pub commands_step : (seat : Name) (ss : List PlainState) (fell : ℕ) (cs : List PlainCmd) (i : ℕ) (item : PlainCmd) (j k m : ℕ)
    (now new init : List Command) (all : Flat) → i < length cs → item ≡ get_or cs i item
    → new ≡ now ++ (command_flat seat ss fell item j k).commands → m ≡ (command_flat seat ss fell item j k).next
    → Behind now init (commands_flat seat ss fell (drop i cs) j k) all → Behind new init (commands_flat seat ss fell (drop (i + 1) cs) j m) all
commands_step seat ss fell cs i item j k m now new init all l e c n b =
    step now new init m (command_flat seat ss fell item j k) (commands_flat seat ss fell (drop (i + 1) cs) j)
    (commands_flat seat ss fell (drop i cs) j k) all (commands-drop seat ss fell cs i item j k l
    ∙ ap (λ (y : PlainCmd). then_flat (command_flat seat ss fell y j k) (commands_flat seat ss fell (drop (i + 1) cs) j)) (sym e)) c n b

pub commands_rest : (seat : Name) (ss : List PlainState) (fell : ℕ) (cs : List PlainCmd) (i j k : ℕ) (now init : List Command) (all : Flat)
    → length cs ≤ i → Behind now init (commands_flat seat ss fell (drop i cs) j k) all → (now ≡ init ++ all.commands) × (k ≡ all.next)
commands_rest seat ss fell cs i j k now init all l b =
    rest_none now init k (commands_flat seat ss fell (drop i cs) j k) all (commands-past seat ss fell cs i j k l) b

three_behind : (a b c d : List Command) → ((a ++ b) ++ c) ++ d ≡ a ++ (b ++ (c ++ d))
three_behind a b c d = append_assoc (a ++ b) c d ∙ append_assoc a b (c ++ d)

pub if_made : (seat : Name) (ss : List PlainState) (fell : ℕ) (item : PlainCmd) (t : Calc) (ys ns : Vec PlainCmd Global)
    (yl nl : List PlainCmd) (j k a b k2 k3 k4 : ℕ) (out0 out1 out2 out3 : List Command) → item ≡ shown.If t ys ns → yl ≡ ys.items
    → nl ≡ ns.items → a ≡ k → b ≡ k + 1 → k2 ≡ k + 2 → out1 ≡ out0 ++ choice_commands j (term_of t) a b
    → out2 ≡ out1 ++ (commands_flat seat ss fell yl a k2).commands → k3 ≡ (commands_flat seat ss fell yl a k2).next
    → out3 ≡ out2 ++ (commands_flat seat ss fell nl b k3).commands → k4 ≡ (commands_flat seat ss fell nl b k3).next
    → (out3 ≡ out0 ++ (command_flat seat ss fell item j k).commands) × (k4 ≡ (command_flat seat ss fell item j k).next)
if_made seat ss fell item t ys ns yl nl j k a b k2 k3 k4 out0 out1 out2 out3 is ye ne ae be k2e o1 o2 k3e o3 k4e =
    let y : ℕ → ℕ → List PlainCmd → Flat = λ i m cs. commands_flat seat ss fell cs i m in
    let fy = commands_flat seat ss fell ys.items k (k + 2) in
    let fn = commands_flat seat ss fell ns.items (k + 1) fy.next in
    let ey : commands_flat seat ss fell yl a k2 ≡ fy = ap (λ (cs : List PlainCmd). commands_flat seat ss fell cs a k2) ye
    ∙ ap₂ (λ (i m : ℕ). commands_flat seat ss fell ys.items i m) ae k2e in
    let e3 : k3 ≡ fy.next = k3e ∙ ap (λ (f : Flat). f.next) ey in
    let en : commands_flat seat ss fell nl b k3 ≡ fn = ap (λ (cs : List PlainCmd). commands_flat seat ss fell cs b k3) ne
    ∙ ap₂ (λ (i m : ℕ). commands_flat seat ss fell ns.items i m) be e3 in
    let ec : choice_commands j (term_of t) a b ≡ choice_commands j (term_of t) k (k + 1) = ap₂ (λ (i m : ℕ). choice_commands j (term_of t) i m) ae be in
    let whole : command_flat seat ss fell item j k ≡ made (choice_commands j (term_of t) k (k + 1) ++ (fy.commands ++ fn.commands)) fn.next =
    ap (λ (c : PlainCmd). command_flat seat ss fell c j k) is ∙ command_if seat ss fell t ys ns j k in (
      o3
          ∙ ap (λ (cs : List Command). cs ++ (commands_flat seat ss fell nl b k3).commands) (o2
          ∙ ap (λ (cs : List Command). cs ++ (commands_flat seat ss fell yl a k2).commands) (o1 ∙ ap (λ (cs : List Command). out0 ++ cs) ec))
          ∙ ap₂ (λ (f g : Flat). ((out0 ++ choice_commands j (term_of t) k (k + 1)) ++ f.commands) ++ g.commands) ey en
          ∙ three_behind out0 (choice_commands j (term_of t) k (k + 1)) fy.commands fn.commands
          ∙ ap (λ (f : Flat). out0 ++ f.commands) (sym whole),
      k4e ∙ ap (λ (f : Flat). f.next) en ∙ ap (λ (f : Flat). f.next) (sym whole),
    )

-- gates of a group

pub gates_step : (c : Term Name) (seat : Name) (u : ℕ) (ss : List PlainState) (n i j : ℕ) (now new all : List Command) → n < length ss
    → new ≡ now ++ record { when = c; act = set (gate_name j) (is_number (read seat) u i) } ∷ []
    → now ++ gates_commands c seat u (drop n ss) i j ≡ all → new ++ gates_commands c seat u (drop (n + 1) ss) (i + 1) (j + 1) ≡ all
gates_step c seat u ss n i j now new all l e b =
    ap (λ (cs : List Command). cs ++ gates_commands c seat u (drop (n + 1) ss) (i + 1) (j + 1)) e
    ∙ append_assoc now (record { when = c; act = set (gate_name j) (is_number (read seat) u i) } ∷ []) (gates_commands c seat u (drop (n + 1) ss) (i + 1) (j + 1))
    ∙ ap (λ (cs : List Command). now ++ cs) (sym (gates-drop c seat u ss n i j l)) ∙ b

-- states

pub states_step : (seat : Name) (group ss : List PlainState) (i : ℕ) (item : PlainState) (j k m : ℕ) (now new init : List Command) (all : Flat)
    → i < length ss → item ≡ get_or ss i item → new ≡ now ++ (state_flat seat group item j k).commands
    → m ≡ (state_flat seat group item j k).next → Behind now init (states_flat seat group (drop i ss) j k) all
    → Behind new init (states_flat seat group (drop (i + 1) ss) (j + 1) m) all
states_step seat group ss i item j k m now new init all l e c n b =
    step now new init m (state_flat seat group item j k) (states_flat seat group (drop (i + 1) ss) (j + 1))
    (states_flat seat group (drop i ss) j k) all (states-drop seat group ss i item j k l
    ∙ ap (λ (y : PlainState). then_flat (state_flat seat group y j k) (states_flat seat group (drop (i + 1) ss) (j + 1))) (sym e)) c n b

pub states_rest : (seat : Name) (group ss : List PlainState) (i j k : ℕ) (now init : List Command) (all : Flat) → length ss ≤ i
    → Behind now init (states_flat seat group (drop i ss) j k) all → (now ≡ init ++ all.commands) × (k ≡ all.next)
states_rest seat group ss i j k now init all l b =
    rest_none now init k (states_flat seat group (drop i ss) j k) all (states-past seat group ss i j k l) b

-- a state: its body, the gates of its children and all below
pub state_made : (seat : Name) (group : List PlainState) (s : PlainState) (kids : List PlainState) (cs : List PlainCmd) (own : Name)
    (j k fell first k2 k3 k4 : ℕ) (out0 out1 out2 out3 : List Command) → kids ≡ (out-PlainState s).children.items
    → cs ≡ (out-PlainState s).cmds.items → own ≡ seat_name (out-PlainState s).name → fell ≡ k → first ≡ k + 1 → k2 ≡ k + 1 + length kids
    → out1 ≡ out0 ++ (commands_flat seat group fell cs j k2).commands → k3 ≡ (commands_flat seat group fell cs j k2).next
    → out2 ≡ out1 ++ gates_commands (read (gate_name fell)) own (seat_width (length kids)) kids 0 first
    → out3 ≡ out2 ++ (states_flat own kids kids first k3).commands → k4 ≡ (states_flat own kids kids first k3).next
    → (out3 ≡ out0 ++ (state_flat seat group s j k).commands) × (k4 ≡ (state_flat seat group s j k).next)
state_made seat group s kids cs own j k fell first k2 k3 k4 out0 out1 out2 out3 ke ce oe fe ae k2e o1 k3e o2 o3 k4e =
    let kl = (out-PlainState s).children.items in
    let cl = (out-PlainState s).cmds.items in
    let mine = seat_name (out-PlainState s).name in
    let d = commands_flat seat group k cl j (k + 1 + length kl) in
    let gs = gates_commands (read (gate_name k)) mine (seat_width (length kl)) kl 0 (k + 1) in
    let c = states_flat mine kl kl (k + 1) d.next in
    let ed : commands_flat seat group fell cs j k2 ≡ d =
    ap₂ (λ (i m : ℕ). commands_flat seat group i cs j m) fe (k2e ∙ ap (λ (l : List PlainState). k + 1 + length l) ke)
    ∙ ap (λ (l : List PlainCmd). commands_flat seat group k l j (k + 1 + length kl)) ce in
    let eg : gates_commands (read (gate_name fell)) own (seat_width (length kids)) kids 0 first ≡ gs =
    ap₂ (λ (i m : ℕ). gates_commands (read (gate_name i)) own (seat_width (length kids)) kids 0 m) fe ae
    ∙ ap₂ (λ (x : Name) (l : List PlainState). gates_commands (read (gate_name k)) x (seat_width (length l)) l 0 (k + 1)) oe ke in
    let e3 : k3 ≡ d.next = k3e ∙ ap (λ (f : Flat). f.next) ed in
    let ec : states_flat own kids kids first k3 ≡ c =
    ap₂ (λ (i m : ℕ). states_flat own kids kids i m) ae e3 ∙ ap₂ (λ (x : Name) (l : List PlainState). states_flat x l l (k + 1) d.next) oe ke in
    let whole : state_flat seat group s j k ≡ made (d.commands ++ (gs ++ c.commands)) c.next = state_is seat group s j k in (
      o3 ∙ ap (λ (l : List Command). l ++ (states_flat own kids kids first k3).commands) (o2
          ∙ ap₂ (λ (l m : List Command). l ++ m) (o1 ∙ ap (λ (f : Flat). out0 ++ f.commands) ed) eg)
          ∙ ap (λ (f : Flat). ((out0 ++ d.commands) ++ gs) ++ f.commands) ec
          ∙ three_behind out0 d.commands gs c.commands
          ∙ ap (λ (f : Flat). out0 ++ f.commands) (sym whole),
      k4e ∙ ap (λ (f : Flat). f.next) ec ∙ ap (λ (f : Flat). f.next) (sym whole),
    )

-- a goto
pub goto_found : (seat : Name) (ss : List PlainState) (j n : ℕ) (x : Name) (s : PlainState) (kids more : List PlainState)
    (out0 out1 out2 out3 : List Command) → n ≡ place_in ss x → slice_get ss n ≡ Some s → kids ≡ (out-PlainState s).children.items
    → more ≡ (out-PlainState s).children.items → out1 ≡ out0 ++ under j (set seat (constant (seat_width (length ss)) n)) ∷ []
    → out2 ≡ out1 ++ first_commands j x kids → out3 ≡ out2 ++ restart_commands j more → out3 ≡ out0 ++ goto_commands seat ss j x
goto_found seat ss j n x s kids more out0 out1 out2 out3 ne g ke me o1 o2 o3 =
    let kl = (out-PlainState s).children.items in
    let first : Command = under j (set seat (constant (seat_width (length ss)) (place_in ss x))) in
    o3 ∙ ap (λ (l : List Command). l ++ restart_commands j more) (o2
    ∙ ap (λ (l : List Command). l ++ first_commands j x kids) (o1 ∙ ap (λ (m : ℕ). out0 ++ under j (set seat (constant (seat_width (length ss)) m)) ∷ []) ne))
    ∙ ap₂ (λ (l m : List PlainState). ((out0 ++ first ∷ []) ++ first_commands j x l) ++ restart_commands j m) ke me
    ∙ three_behind out0 (first ∷ []) (first_commands j x kl) (restart_commands j kl)
    ∙ ap (λ (l : List Command). out0 ++ l) (sym (goto_some seat ss j x s (ap (slice_get ss) (sym ne) ∙ g)))

pub goto_missing : (seat : Name) (ss : List PlainState) (j n : ℕ) (x : Name) (out0 out1 : List Command) → n ≡ place_in ss x
    → slice_get ss n ≡ None → out1 ≡ out0 ++ under j (set seat (constant (seat_width (length ss)) n)) ∷ [] → out1 ≡ out0 ++ goto_commands seat ss j x
goto_missing seat ss j n x out0 out1 ne g o1 =
    o1 ∙ ap (λ (m : ℕ). out0 ++ under j (set seat (constant (seat_width (length ss)) m)) ∷ []) ne
    ∙ ap (λ (l : List Command). out0 ++ l) (sym (goto_none seat ss j x (ap (slice_get ss) (sym ne) ∙ g)))

pub do_made : (seat : Name) (ss : List PlainState) (fell : ℕ) (item : PlainCmd) (a : Act) (x : Action) (j k : ℕ) (out0 out1 : List Command)
    → item ≡ cmd.Do a → x ≡ action_of a → out1 ≡ out0 ++ under j x ∷ [] → (out1 ≡ out0 ++ (command_flat seat ss fell item j k).commands)
    × (k ≡ (command_flat seat ss fell item j k).next)
do_made seat ss fell item a x j k out0 out1 is e o =
    let whole = ap (λ (c : PlainCmd). command_flat seat ss fell c j k) is ∙ command_do seat ss fell a j k in (
      o ∙ ap (λ (y : Action). out0 ++ under j y ∷ []) e ∙ ap (λ (f : Flat). out0 ++ f.commands) (sym whole),
      ap (λ (f : Flat). f.next) (sym whole),
    )

pub goto_made : (seat : Name) (ss : List PlainState) (fell : ℕ) (item : PlainCmd) (x : Name) (j k : ℕ) (out0 out1 : List Command)
    → item ≡ cmd.Goto x → out1 ≡ out0 ++ goto_commands seat ss j x → (out1 ≡ out0 ++ (command_flat seat ss fell item j k).commands)
    × (k ≡ (command_flat seat ss fell item j k).next)
goto_made seat ss fell item x j k out0 out1 is o =
    let whole = ap (λ (c : PlainCmd). command_flat seat ss fell c j k) is ∙ command_goto seat ss fell x j k in
    (o ∙ ap (λ (f : Flat). out0 ++ f.commands) (sym whole), ap (λ (f : Flat). f.next) (sym whole))

pub fall_made : (seat : Name) (ss : List PlainState) (fell : ℕ) (item : PlainCmd) (j k : ℕ) (out0 out1 : List Command) → item ≡ cmd.Fall
    → out1 ≡ out0 ++ under j (set (gate_name fell) (constant 1 1)) ∷ [] → (out1 ≡ out0 ++ (command_flat seat ss fell item j k).commands)
    × (k ≡ (command_flat seat ss fell item j k).next)
fall_made seat ss fell item j k out0 out1 is o =
    let whole = ap (λ (c : PlainCmd). command_flat seat ss fell c j k) is ∙ command_fall seat ss fell j k in
    (o ∙ ap (λ (f : Flat). out0 ++ f.commands) (sym whole), ap (λ (f : Flat). f.next) (sym whole))

-- places

-- one gate of a group more

pushed : (xs : List GuardedCmd) (y : GuardedCmd) → commands_of (xs ++ y ∷ []) ≡ commands_of xs ++ command_of y ∷ []
pushed [] y = refl
pushed (x ∷ xs) y = ap (λ (cs : List Command). command_of x ∷ cs) (pushed xs y)

pub mark_step : (c : Term Name) (seat : Name) (u : ℕ) (ss : List PlainState) (i first : ℕ) (out0 out1 : List GuardedCmd) (w v : Calc)
    (n : Name) (all : List Command) → i < length ss → out1 ≡ out0 ++ record { when = w; act = act.Set n v } ∷ [] → term_of w ≡ c
    → n ≡ gate_name (first + i) → term_of v ≡ is_number (read seat) u i
    → commands_of out0 ++ gates_commands c seat u (drop i ss) i (first + i) ≡ all → commands_of out1 ++ gates_commands c seat u (drop (i + 1) ss) (i + 1) (first + (i + 1)) ≡ all
mark_step c seat u ss i first out0 out1 w v n all l o we ne ve h =
    let e : first + (i + 1) ≡ first + i + 1 = omega arith in
    let p : commands_of out1 ≡ commands_of out0 ++ record { when = c; act = set (gate_name (first + i)) (is_number (read seat) u i) } ∷ [] =
    ap commands_of o ∙ pushed out0 (record { when = w; act = act.Set n v })
    ∙ ap₂ (λ (t d : Term Name). commands_of out0 ++ record { when = t; act = set n d } ∷ []) we ve
    ∙ ap (λ (m : Name). commands_of out0 ++ record { when = c; act = set m (is_number (read seat) u i) } ∷ []) ne in
    ap (λ (m : ℕ). commands_of out1 ++ gates_commands c seat u (drop (i + 1) ss) (i + 1) m) e
    ∙ gates_step c seat u ss i i (first + i) (commands_of out0) (commands_of out1) all l p h

pub commands_grow : (seat : Name) (ss : List PlainState) (fell : ℕ) (cs : List PlainCmd) (j k : ℕ) → k ≤ (commands_flat seat ss fell cs j k).next
unfolding commands_flat
commands_grow seat ss fell cs j k = body_grows seat (forest_of ss) fell (body_of cs) j k

-- all states
pub all_made : (f : Forest) (ss : List PlainState) (seat : Name) (k m : ℕ) (out0 out1 out2 : List Command) → forest_of ss ≡ f
    → seat ≡ root_seat → out0 ≡ [] → k ≡ length ss → out1 ≡ out0 ++ gates_commands (constant 1 1) seat (seat_width (length ss)) ss 0 0
    → out2 ≡ out1 ++ (states_flat seat ss ss 0 k).commands → m ≡ (states_flat seat ss ss 0 k).next → (out2 ≡ (flat_states f).commands) × (m ≡ (flat_states f).next)
all_made f ss seat k m out0 out1 out2 fe se z ke o1 o2 me =
    let r = states_flat root_seat ss ss 0 (length ss) in
    let gs = gates_commands (constant 1 1) root_seat (seat_width (length ss)) ss 0 0 in
    let er : states_flat seat ss ss 0 k ≡ r = ap₂ (λ (x : Name) (i : ℕ). states_flat x ss ss 0 i) se ke in
    let whole : flat_states f ≡ made (gs ++ r.commands) r.next = ap flat_states (sym fe) ∙ whole_is ss in (
      o2 ∙ ap₂ (λ (l : List Command) (g : Flat). l ++ g.commands) (o1
          ∙ ap₂ (λ (l : List Command) (x : Name). l ++ gates_commands (constant 1 1) x (seat_width (length ss)) ss 0 0) z se) er
          ∙ ap (λ (g : Flat). g.commands) (sym whole),
      me ∙ ap (λ (g : Flat). g.next) er ∙ ap (λ (g : Flat). g.next) (sym whole),
    )
