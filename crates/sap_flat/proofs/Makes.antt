-- What lists of commands and of states become, one after another.
use Rattle.sap_lemmas.proofs.Common.{◌≡◌, ℕ, zero, suc, ◌+◌, ◌<◌, ◌≤◌, List, [], ◌∷◌, ◌++◌, length, get_or, drop, Some, None, Bool, refl, sym, ap, ◌∙◌, arith, add-one, append_assoc, inl, inr, Vec, Global, if◌then◌else◌, slice_get, not, Option, true, false, nat_lt, position_or_len, unwrap_or, cond, nat_tests, bytes_eq, cases_Bool, append-nil}
use Rattle.std.proofs.lemmas.List.Recursion.{is_position_or_len}
use Rattle.std.proofs.lemmas.List.Sums.{prefix_len-le-length}
use Rattle.sap_maps.specs.Prelude.{Name, Term, constant, read}
use Rattle.sap_ir.specs.Prelude.{term_of, action_of, set, Command, Body, stop, act, cases, goto, fall, Forest, none, state, size, place, children_of, seat_width, command_before, body_of, state_before, forest_of, follow, planted}
use Rattle.sap_ir.specs.declared.guarded.Act.{Act}
use Rattle.sap_ir.specs.declared.guarded.Calc.{Calc}
use Rattle.sap_ir.specs.declared.plain.nested.PlainCmd.{PlainCmd}
use Rattle.sap_ir.specs.declared.plain.nested.PlainState.{PlainState, out-PlainState}
use Rattle.sap_ir.specs.declared.plain.nested.PlainCmd.TheVariants as cmd
use Rattle.sap_ir.specs.declared.plain.nested.PlainCmd.TheViews as shown
use Rattle.sap_net.specs.PortNames.{seat_name, root_seat}
use Rattle.sap_ir.proofs.plain.Views.{body_of-none, body_of-more, before-do, before-if, before-goto, before-fall, forest_of-none, forest_of-more, state_before-out, follow-before, planted-before}
use Rattle.sap_flat.specs.Gates.{gate_name, gate_wire, gate_wires}
use Rattle.sap_flat.specs.Flat.{Flat, under, is_number, flat_first, flat_restart, flat_goto, flat_body, flat_gates, flat_group, flat_states}
use Rattle.sap_flat.specs.Lists.{first_commands, restart_commands, restart_one, place_in, goto_commands, choice_commands, commands_flat, command_flat, gates_commands, states_flat, state_flat}
use Rattle.sap_ir.specs.declared.guarded.Var.{Var}

-- gates

gates_more : (k n : ℕ) → gate_wires k (n + 1) ≡ gate_wires k n ++ gate_wire (k + n) ∷ []
gates_more k zero = let e : k + 0 ≡ k = omega arith in rw e refl
gates_more k (suc n) =
    let e : suc n + 1 ≡ suc (n + 1) = omega arith in
    let d : k + 1 + n ≡ k + suc n = omega arith in
    ap (gate_wires k) e
    ∙ ap (λ (ws : List Var). gate_wire k ∷ ws) (gates_more (k + 1) n ∙ ap (λ (i : ℕ). gate_wires (k + 1) n ++ gate_wire i ∷ []) d)

pub gates_push : (n : ℕ) → gate_wires 0 (n + 1) ≡ gate_wires 0 n ++ gate_wire n ∷ []
gates_push n =
    let e : 0 + n ≡ n = omega arith in gates_more 0 n ∙ ap (λ (i : ℕ). gate_wires 0 n ++ gate_wire i ∷ []) e

-- sizes and places

pub size_is : (ss : List PlainState) → size (forest_of ss) ≡ length ss
size_is [] = ap size forest_of-none
size_is (s ∷ ss) = ap size (forest_of-more s ss ∙ state_before-out s (forest_of ss)) ∙ ap suc (size_is ss)

-- a state's children return to the first

pub first_none : (j : ℕ) (x : Name) (ss : List PlainState) → length ss ≡ 0 → first_commands j x ss ≡ []
unfolding first_commands
first_none j x [] h = ap (flat_first j x) forest_of-none
first_none j x (s ∷ ss) h = absurd (omega (arith, h))

pub first_some : (j : ℕ) (x : Name) (ss : List PlainState) → 0 < length ss → first_commands j x ss ≡ under j (set (seat_name x) (constant (seat_width (length ss)) 0)) ∷ []
unfolding first_commands
first_some j x [] h = absurd (omega (arith, h))
first_some j x (s ∷ ss) h =
    let e = forest_of-more s ss ∙ state_before-out s (forest_of ss) in
    ap (flat_first j x) e
    ∙ ap (λ (n : ℕ). under j (set (seat_name x) (constant (seat_width n) 0)) ∷ []) (ap suc (size_is ss))

pub ruleset firsts = (first_none, first_some, append-nil)

-- each group below returns to its first

restart_planted : (j : ℕ) (f g : Forest) → flat_restart j (planted f g) ≡ flat_restart j f ++ flat_restart j g
restart_planted j none g = refl
restart_planted j (state x b kids rest) g =
    ap (λ (cs : List Command). flat_first j x kids ++ (flat_restart j kids ++ cs)) (restart_planted j rest g)
    ∙ ap (λ (cs : List Command). flat_first j x kids ++ cs) (sym (append_assoc (flat_restart j kids) (flat_restart j rest) (flat_restart j g)))
    ∙ sym (append_assoc (flat_first j x kids) (flat_restart j kids ++ flat_restart j rest) (flat_restart j g))

restart_more : (j : ℕ) (s : PlainState) (ss : List PlainState) → restart_commands j (s ∷ ss) ≡ restart_one j s ++ restart_commands j ss
unfolding restart_commands restart_one
restart_more j s ss =
    ap (flat_restart j) (forest_of-more s ss ∙ sym (planted-before s none (forest_of ss)))
    ∙ restart_planted j (state_before s none) (forest_of ss)

restart_none : (j : ℕ) → restart_commands j [] ≡ []
unfolding restart_commands
restart_none j = ap (flat_restart j) forest_of-none

pub restart-drop : (j : ℕ) (ss : List PlainState) (n : ℕ) (d : PlainState) → n < length ss
    → restart_commands j (drop n ss) ≡ restart_one j (get_or ss n d) ++ restart_commands j (drop (n + 1) ss)
restart-drop j [] n d h = absurd (omega arith)
restart-drop j (s ∷ ss) zero d h = restart_more j s ss
restart-drop j (s ∷ ss) (suc n) d h = let r = restart-drop j ss n d (omega arith) in simp (add-one) (simp (add-one) at r)

pub restart-past : (j : ℕ) (ss : List PlainState) (n : ℕ) → length ss ≤ n → restart_commands j (drop n ss) ≡ []
restart-past j [] zero h = restart_none j
restart-past j [] (suc n) h = restart_none j
restart-past j (s ∷ ss) zero h = absurd (omega arith)
restart-past j (s ∷ ss) (suc n) h = restart-past j ss n (omega arith)

-- nothing is left
pub restart_rest : (es : List Command) (j : ℕ) (ss : List PlainState) (n : ℕ) (all : List Command) → length ss ≤ n → es ++ restart_commands j (drop n ss) ≡ all → es ≡ all
restart_rest es j ss n all h e = sym (append-nil es) ∙ ap (λ (l : List Command). es ++ l) (sym (restart-past j ss n h)) ∙ e

pub restart_one-is : (j : ℕ) (s : PlainState) → restart_one j s ≡ first_commands j (out-PlainState s).name (out-PlainState s).children.items
    ++ restart_commands j (out-PlainState s).children.items
unfolding restart_one first_commands restart_commands
restart_one-is j s =
    ap (flat_restart j) (state_before-out s none)
    ∙ ap (λ (cs : List Command). flat_first j (out-PlainState s).name (forest_of (out-PlainState s).children.items) ++ cs)
    (append-nil (flat_restart j (forest_of (out-PlainState s).children.items)))

pub ruleset restarts = (restart-drop, restart-past, restart_one-is, append_assoc)

-- places

place_more : (s : PlainState) (ss : List PlainState) (x : Name) → place_in (s ∷ ss) x ≡ (if bytes_eq (out-PlainState s).name x then 0 else suc (place_in ss x))
unfolding place_in
place_more s ss x = ap (λ (f : Forest). place f x) (forest_of-more s ss ∙ state_before-out s (forest_of ss))

place_none : (x : Name) → place_in [] x ≡ 0
unfolding place_in
place_none x = ap (λ (f : Forest). place f x) forest_of-none

pub place_listed : (x : Name) (ss : List PlainState) → place_in ss x ≡ position_or_len (λ s. bytes_eq (out-PlainState s).name x) ss
place_listed x ss =
    is_position_or_len (λ (l : List PlainState). place_in l x) (λ s. bytes_eq (out-PlainState s).name x) (place_none x)
    (λ s l. let e : suc (place_in l x) ≡ 1 + place_in l x = omega arith in place_more s l x ∙ ap (λ (n : ℕ). if bytes_eq (out-PlainState s).name x then 0 else n) e) ss

-- the place that passes, or the end
pub position_or_end : {A : Type 0} (p : A → Bool) (xs : List A) (found : Option ℕ)
    → found ≡ cond (nat_lt (position_or_len p xs) (length xs)) (Some (position_or_len p xs)) None → unwrap_or found (length xs) ≡ position_or_len p xs
position_or_end p xs found e =
    let most = prefix_len-le-length (λ x. not (p x)) xs in
    ap (λ o. unwrap_or o (length xs)) e ∙ by (nat_lt (position_or_len p xs) (length xs)) (λ h. grind (arith, nat_tests)) where
      by : (b : Bool) → (b ≡ false → length xs ≡ position_or_len p xs) → unwrap_or (cond b (Some (position_or_len p xs)) None) (length xs) ≡ position_or_len p xs
      by true h = refl
      by false h = h refl

-- a goto

pub children_found : (ss : List PlainState) (x : Name) (s : PlainState) → slice_get ss (place_in ss x) ≡ Some s
    → children_of (forest_of ss) x ≡ forest_of (out-PlainState s).children.items
children_found [] x s h = absurd (let q : None ≡ Some s = h in cc)
children_found (t ∷ ss) x s h =
    let e = forest_of-more t ss ∙ state_before-out t (forest_of ss) in
    elim (cases_Bool (bytes_eq (out-PlainState t).name x)) [
      | inl p ↦
          let z : place_in (t ∷ ss) x ≡ 0 = place_more t ss x ∙ ap (λ (b : Bool). if b then 0 else suc (place_in ss x)) p in
          let q : Some t ≡ Some s = sym (ap (slice_get (t ∷ ss)) z) ∙ h in
          let r : t ≡ s = cc in
          ap (λ (f : Forest). children_of f x) e ∙ rw p (ap (λ (y : PlainState). forest_of (out-PlainState y).children.items) r)
      | inr p ↦
          let z : place_in (t ∷ ss) x ≡ suc (place_in ss x) = place_more t ss x ∙ ap (λ (b : Bool). if b then 0 else suc (place_in ss x)) p in
          ap (λ (f : Forest). children_of f x) e ∙ rw p (children_found ss x s (sym (ap (slice_get (t ∷ ss)) z) ∙ h))
    ]

pub children_missing : (ss : List PlainState) (x : Name) → slice_get ss (place_in ss x) ≡ None → children_of (forest_of ss) x ≡ none
children_missing [] x h = ap (λ (f : Forest). children_of f x) forest_of-none
children_missing (t ∷ ss) x h =
    let e = forest_of-more t ss ∙ state_before-out t (forest_of ss) in
    elim (cases_Bool (bytes_eq (out-PlainState t).name x)) [
      | inl p ↦
          let z : place_in (t ∷ ss) x ≡ 0 = place_more t ss x ∙ ap (λ (b : Bool). if b then 0 else suc (place_in ss x)) p in
          absurd (let q : Some t ≡ None = sym (ap (slice_get (t ∷ ss)) z) ∙ h in cc)
      | inr p ↦
          let z : place_in (t ∷ ss) x ≡ suc (place_in ss x) = place_more t ss x ∙ ap (λ (b : Bool). if b then 0 else suc (place_in ss x)) p in
          ap (λ (f : Forest). children_of f x) e ∙ rw p (children_missing ss x (sym (ap (slice_get (t ∷ ss)) z) ∙ h))
    ]

pub goto_some : (seat : Name) (ss : List PlainState) (j : ℕ) (x : Name) (s : PlainState) → slice_get ss (place_in ss x) ≡ Some s
    → goto_commands seat ss j x ≡ under j (set seat (constant (seat_width (length ss)) (place_in ss x)))
    ∷ (first_commands j x (out-PlainState s).children.items ++ restart_commands j (out-PlainState s).children.items)
unfolding goto_commands place_in first_commands restart_commands
goto_some seat ss j x s h =
    let n = place (forest_of ss) x in
    ap (λ (f : Forest). under j (set seat (constant (seat_width (size (forest_of ss))) n)) ∷ (flat_first j x f ++ flat_restart j f)) (children_found ss x s h)
    ∙ ap (λ (m : ℕ). under j (set seat (constant (seat_width m) n))
    ∷ (flat_first j x (forest_of (out-PlainState s).children.items) ++ flat_restart j (forest_of (out-PlainState s).children.items))) (size_is ss)

pub goto_none : (seat : Name) (ss : List PlainState) (j : ℕ) (x : Name) → slice_get ss (place_in ss x) ≡ None
    → goto_commands seat ss j x ≡ under j (set seat (constant (seat_width (length ss)) (place_in ss x))) ∷ []
unfolding goto_commands place_in
goto_none seat ss j x h =
    let n = place (forest_of ss) x in
    ap (λ (f : Forest). under j (set seat (constant (seat_width (size (forest_of ss))) n)) ∷ (flat_first j x f ++ flat_restart j f)) (children_missing ss x h)
    ∙ ap (λ (m : ℕ). under j (set seat (constant (seat_width m) n)) ∷ []) (size_is ss)

pub ruleset gotos = (goto_some, goto_none, append_assoc)

-- bodies

pub choice_is : (j : ℕ) (t : Term Name) (a b : ℕ) → choice_commands j t a b ≡ under j (set (gate_name a) t) ∷ under j (set (gate_name b) (is_number (read (gate_name a)) 1 0)) ∷ []
unfolding choice_commands
choice_is j t a b = refl

pub ruleset choices = (choice_is, append_assoc)

abbrev pub made : List Command → (next : ℕ) → Flat
made cs k = record { commands = cs; next = k }

-- one list of commands behind another
abbrev pub then_flat : Flat → (ℕ → Flat) → Flat
then_flat x f = let y = f x.next in record { commands = x.commands ++ y.commands; next = y.next }

body_follow : (seat : Name) (group : Forest) (fell : ℕ) (a b : Body) (j k : ℕ)
    → flat_body seat group fell (follow a b) j k ≡ then_flat (flat_body seat group fell a j k) (flat_body seat group fell b j)
body_follow seat group fell stop b j k = refl
body_follow seat group fell (act d rest) b j k =
    ap (λ (r : Flat). made (under j d ∷ r.commands) r.next) (body_follow seat group fell rest b j k)
body_follow seat group fell (cases t y n rest) b j k =
    let fy = flat_body seat group fell y k (k + 2) in
    let fn = flat_body seat group fell n (k + 1) fy.next in
    let fr = flat_body seat group fell rest j fn.next in
    let fb = flat_body seat group fell b j fr.next in
    let first = under j (set (gate_name k) t) in
    let second = under j (set (gate_name (k + 1)) (is_number (read (gate_name k)) 1 0)) in
    ap (λ (r : Flat). made (first ∷ second ∷ ((fy.commands ++ fn.commands) ++ r.commands)) r.next) (body_follow seat group fell rest b j fn.next)
    ∙ ap (λ (cs : List Command). made (first ∷ second ∷ cs) fb.next) (sym (append_assoc (fy.commands ++ fn.commands) fr.commands fb.commands))
body_follow seat group fell (goto x rest) b j k =
    let fr = flat_body seat group fell rest j k in
    let fb = flat_body seat group fell b j fr.next in
    ap (λ (r : Flat). made (flat_goto seat group j x ++ r.commands) r.next) (body_follow seat group fell rest b j k)
    ∙ ap (λ (cs : List Command). made cs fb.next) (sym (append_assoc (flat_goto seat group j x) fr.commands fb.commands))
body_follow seat group fell (fall rest) b j k =
    ap (λ (r : Flat). made (under j (set (gate_name fell) (constant 1 1)) ∷ r.commands) r.next) (body_follow seat group fell rest b j k)

commands_more : (seat : Name) (ss : List PlainState) (fell : ℕ) (c : PlainCmd) (cs : List PlainCmd) (j k : ℕ)
    → commands_flat seat ss fell (c ∷ cs) j k ≡ then_flat (command_flat seat ss fell c j k) (commands_flat seat ss fell cs j)
unfolding commands_flat command_flat
commands_more seat ss fell c cs j k =
    ap (λ (b : Body). flat_body seat (forest_of ss) fell b j k) (body_of-more c cs ∙ sym (follow-before c stop (body_of cs)))
    ∙ body_follow seat (forest_of ss) fell (command_before c stop) (body_of cs) j k

commands_none : (seat : Name) (ss : List PlainState) (fell : ℕ) (j k : ℕ) → commands_flat seat ss fell [] j k ≡ made [] k
unfolding commands_flat
commands_none seat ss fell j k = ap (λ (b : Body). flat_body seat (forest_of ss) fell b j k) body_of-none

pub commands-drop : (seat : Name) (ss : List PlainState) (fell : ℕ) (cs : List PlainCmd) (n : ℕ) (d : PlainCmd) (j k : ℕ) → n < length cs
    → commands_flat seat ss fell (drop n cs) j k ≡ then_flat (command_flat seat ss fell (get_or cs n d) j k) (commands_flat seat ss fell (drop (n + 1) cs) j)
commands-drop seat ss fell [] n d j k h = absurd (omega arith)
commands-drop seat ss fell (c ∷ cs) zero d j k h = commands_more seat ss fell c cs j k
commands-drop seat ss fell (c ∷ cs) (suc n) d j k h =
    let r = commands-drop seat ss fell cs n d j k (omega arith) in simp (add-one) (simp (add-one) at r)

pub commands-past : (seat : Name) (ss : List PlainState) (fell : ℕ) (cs : List PlainCmd) (n j k : ℕ) → length cs ≤ n → commands_flat seat ss fell (drop n cs) j k ≡ made [] k
commands-past seat ss fell [] zero j k h = commands_none seat ss fell j k
commands-past seat ss fell [] (suc n) j k h = commands_none seat ss fell j k
commands-past seat ss fell (c ∷ cs) zero j k h = absurd (omega arith)
commands-past seat ss fell (c ∷ cs) (suc n) j k h = commands-past seat ss fell cs n j k (omega arith)

pub command_do : (seat : Name) (ss : List PlainState) (fell : ℕ) (a : Act) (j k : ℕ) → command_flat seat ss fell (cmd.Do a) j k ≡ made (under j (action_of a) ∷ []) k
unfolding command_flat
command_do seat ss fell a j k = ap (λ (b : Body). flat_body seat (forest_of ss) fell b j k) (before-do a stop)

pub command_if : (seat : Name) (ss : List PlainState) (fell : ℕ) (t : Calc) (ys ns : Vec PlainCmd Global) (j k : ℕ)
    → command_flat seat ss fell (shown.If t ys ns) j k ≡ (let y = commands_flat seat ss fell ys.items k (k + 2) in
    let n = commands_flat seat ss fell ns.items (k + 1) y.next in made (choice_commands j (term_of t) k (k + 1) ++ (y.commands ++ n.commands)) n.next)
unfolding command_flat commands_flat choice_commands
command_if seat ss fell t ys ns j k =
    let y = flat_body seat (forest_of ss) fell (body_of ys.items) k (k + 2) in
    let n = flat_body seat (forest_of ss) fell (body_of ns.items) (k + 1) y.next in
    ap (λ (b : Body). flat_body seat (forest_of ss) fell b j k) (before-if t ys ns stop)
    ∙ ap (λ (cs : List Command). made (under j (set (gate_name k) (term_of t))
    ∷ under j (set (gate_name (k + 1)) (is_number (read (gate_name k)) 1 0)) ∷ cs) n.next) (append-nil (y.commands ++ n.commands))

pub command_goto : (seat : Name) (ss : List PlainState) (fell : ℕ) (x : Name) (j k : ℕ) → command_flat seat ss fell (cmd.Goto x) j k ≡ made (goto_commands seat ss j x) k
unfolding command_flat goto_commands
command_goto seat ss fell x j k =
    ap (λ (b : Body). flat_body seat (forest_of ss) fell b j k) (before-goto x stop)
    ∙ ap (λ (cs : List Command). made cs k) (append-nil (flat_goto seat (forest_of ss) j x))

pub command_fall : (seat : Name) (ss : List PlainState) (fell : ℕ) (j k : ℕ) → command_flat seat ss fell cmd.Fall j k ≡ made (under j (set (gate_name fell) (constant 1 1)) ∷ []) k
unfolding command_flat
command_fall seat ss fell j k = ap (λ (b : Body). flat_body seat (forest_of ss) fell b j k) (before-fall stop)

pub ruleset bodies = (commands-drop, commands-past, command_do, command_if, command_goto, command_fall, append_assoc, append-nil)

-- gates of a group

gates_next : (c : Term Name) (seat : Name) (u : ℕ) (s : PlainState) (ss : List PlainState) (i j : ℕ)
    → gates_commands c seat u (s ∷ ss) i j ≡ record { when = c; act = set (gate_name j) (is_number (read seat) u i) } ∷ gates_commands c seat u ss (i + 1) (j + 1)
unfolding gates_commands
gates_next c seat u s ss i j = ap (λ (f : Forest). flat_gates c seat u f i j) (forest_of-more s ss ∙ state_before-out s (forest_of ss))

gates_none : (c : Term Name) (seat : Name) (u i j : ℕ) → gates_commands c seat u [] i j ≡ []
unfolding gates_commands
gates_none c seat u i j = ap (λ (f : Forest). flat_gates c seat u f i j) forest_of-none

pub gates-drop : (c : Term Name) (seat : Name) (u : ℕ) (ss : List PlainState) (n i j : ℕ) → n < length ss
    → gates_commands c seat u (drop n ss) i j ≡ record { when = c; act = set (gate_name j) (is_number (read seat) u i) } ∷ gates_commands c seat u (drop (n + 1) ss) (i + 1) (j + 1)
gates-drop c seat u [] n i j h = absurd (omega arith)
gates-drop c seat u (s ∷ ss) zero i j h = gates_next c seat u s ss i j
gates-drop c seat u (s ∷ ss) (suc n) i j h = let r = gates-drop c seat u ss n i j (omega arith) in simp (add-one) (simp (add-one) at r)

pub gates-past : (c : Term Name) (seat : Name) (u : ℕ) (ss : List PlainState) (n i j : ℕ) → length ss ≤ n → gates_commands c seat u (drop n ss) i j ≡ []
gates-past c seat u [] zero i j h = gates_none c seat u i j
gates-past c seat u [] (suc n) i j h = gates_none c seat u i j
gates-past c seat u (s ∷ ss) zero i j h = absurd (omega arith)
gates-past c seat u (s ∷ ss) (suc n) i j h = gates-past c seat u ss n i j (omega arith)

pub ruleset marks = (gates-drop, gates-past, append_assoc, append-nil)

-- groups

-- a state with so many children, with nothing behind it
abbrev one_state : (seat : Name) → (group : Forest) → Name → Body → (kids : Forest) → (n j k : ℕ) → Flat
one_state seat group x b kids n j k =
    let d = flat_body seat group k b j (k + 1 + n) in
    let c = flat_group (seat_name x) kids kids (k + 1) d.next in
    made ((d.commands ++ (flat_gates (read (gate_name k)) (seat_name x) (seat_width n) kids 0 (k + 1) ++ c.commands)) ++ []) c.next

pub state_is : (seat : Name) (group : List PlainState) (s : PlainState) (j k : ℕ)
    → state_flat seat group s j k ≡ (let kids = (out-PlainState s).children.items in let own = seat_name (out-PlainState s).name in
    let d = commands_flat seat group k (out-PlainState s).cmds.items j (k + 1 + length kids) in
    let c = states_flat own kids kids (k + 1) d.next in
    made (d.commands ++ (gates_commands (read (gate_name k)) own (seat_width (length kids)) kids 0 (k + 1) ++ c.commands)) c.next)
unfolding state_flat commands_flat states_flat gates_commands
state_is seat group s j k =
    let x = (out-PlainState s).name in
    let b = body_of (out-PlainState s).cmds.items in
    let kids = forest_of (out-PlainState s).children.items in
    ap (λ (f : Forest). flat_group seat (forest_of group) f j k) (state_before-out s none)
    ∙ ap (λ (n : ℕ). one_state seat (forest_of group) x b kids n j k) (size_is (out-PlainState s).children.items)
    ∙ ap (λ (cs : List Command). made cs (one_state seat (forest_of group) x b kids (length (out-PlainState s).children.items) j k).next) (append-nil _)

states_more : (seat : Name) (group : List PlainState) (s : PlainState) (ss : List PlainState) (j k : ℕ)
    → states_flat seat group (s ∷ ss) j k ≡ then_flat (state_flat seat group s j k) (states_flat seat group ss (j + 1))
unfolding states_flat state_flat
states_more seat group s ss j k =
    let x = (out-PlainState s).name in
    let b = body_of (out-PlainState s).cmds.items in
    let kids = forest_of (out-PlainState s).children.items in
    let d = flat_body seat (forest_of group) k b j (k + 1 + size kids) in
    let c = flat_group (seat_name x) kids kids (k + 1) d.next in
    let cs : List Command = d.commands ++ (flat_gates (read (gate_name k)) (seat_name x) (seat_width (size kids)) kids 0 (k + 1) ++ c.commands) in
    let r = flat_group seat (forest_of group) (forest_of ss) (j + 1) c.next in
    ap (λ (f : Forest). flat_group seat (forest_of group) f j k) (forest_of-more s ss ∙ state_before-out s (forest_of ss))
    ∙ ap (λ (l : List Command). made (l ++ r.commands) r.next) (sym (append-nil cs))
    ∙ sym (ap (λ (f : Forest). then_flat (flat_group seat (forest_of group) f j k) (flat_group seat (forest_of group) (forest_of ss) (j + 1))) (state_before-out s none))

states_none : (seat : Name) (group : List PlainState) (j k : ℕ) → states_flat seat group [] j k ≡ made [] k
unfolding states_flat
states_none seat group j k = ap (λ (f : Forest). flat_group seat (forest_of group) f j k) forest_of-none

pub states-drop : (seat : Name) (group ss : List PlainState) (n : ℕ) (e : PlainState) (j k : ℕ) → n < length ss
    → states_flat seat group (drop n ss) j k ≡ then_flat (state_flat seat group (get_or ss n e) j k) (states_flat seat group (drop (n + 1) ss) (j + 1))
states-drop seat group [] n e j k h = absurd (omega arith)
states-drop seat group (s ∷ ss) zero e j k h = states_more seat group s ss j k
states-drop seat group (s ∷ ss) (suc n) e j k h = let r = states-drop seat group ss n e j k (omega arith) in simp (add-one) (simp (add-one) at r)

pub states-past : (seat : Name) (group ss : List PlainState) (n j k : ℕ) → length ss ≤ n → states_flat seat group (drop n ss) j k ≡ made [] k
states-past seat group [] zero j k h = states_none seat group j k
states-past seat group [] (suc n) j k h = states_none seat group j k
states-past seat group (s ∷ ss) zero j k h = absurd (omega arith)
states-past seat group (s ∷ ss) (suc n) j k h = states-past seat group ss n j k (omega arith)

pub ruleset states = (states-drop, states-past, state_is, append_assoc, append-nil)

-- the whole

pub whole_is : (ss : List PlainState) → flat_states (forest_of ss) ≡ (let r = states_flat root_seat ss ss 0 (length ss) in
    made (gates_commands (constant 1 1) root_seat (seat_width (length ss)) ss 0 0 ++ r.commands) r.next)
unfolding states_flat gates_commands
whole_is ss =
    ap (λ (n : ℕ). let r = flat_group root_seat (forest_of ss) (forest_of ss) 0 n in
    made (flat_gates (constant 1 1) root_seat (seat_width n) (forest_of ss) 0 0 ++ r.commands) r.next) (size_is ss)
