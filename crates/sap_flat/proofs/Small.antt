-- How large the flat program of nested states is.
use Rattle.std.proofs.Common.{◌≡◌, ℕ, ◌+◌, ◌*◌, ◌≤◌, List, [], ◌∷◌, ◌++◌, refl, arith, length-append}
use Rattle.sap_maps.specs.Prelude.{Name, Term, constant, read}
use Rattle.sap_ir.specs.Prelude.{Command, Body, stop, act, cases, goto, fall, Forest, none, state, Nested, size, state_names, children_of, seat_width}
use Rattle.sap_net.specs.PortNames.{seat_name, root_seat}
use Rattle.sap_size.specs.Terms.{operations}
use Rattle.sap_size.specs.Flat.{commands_weight, source_weight}
use Rattle.sap_size.specs.Nested.{states_in, body_weight, forest_weight, nested_weight}
use Rattle.sap_flat.specs.Gates.{gate_name}
use Rattle.sap_flat.specs.Flat.{flat_first, flat_restart, flat_goto, flat_body, flat_gates, flat_group, flat_states, flattened}

both_weigh : (cs ds : List Command) → commands_weight (cs ++ ds) ≡ commands_weight cs + commands_weight ds
both_weigh [] ds = omega arith
both_weigh (c ∷ cs) ds = let r = both_weigh cs ds in omega (arith, r)

-- the registers of a state's group and of all groups below
restart_weighs : (j : ℕ) (x : Name) (f : Forest) → commands_weight (flat_first j x f) + commands_weight (flat_restart j f) ≤ states_in f
restart_weighs j x none = omega arith
restart_weighs j x (state y b kids rest) =
    let p = restart_weighs j y kids in
    let q = restart_weighs j x rest in
    let e = both_weigh (flat_first j y kids) (flat_restart j kids ++ flat_restart j rest) in
    let h = both_weigh (flat_restart j kids) (flat_restart j rest) in
    let l = length-append (state_names kids) (state_names rest) in
    omega (arith, p, q, e, h, l)

goto_weighs : (seat : Name) (group : Forest) (j : ℕ) (x : Name) → commands_weight (flat_goto seat group j x) ≤ 1 + states_in (children_of group x)
goto_weighs seat group j x =
    let kids = children_of group x in
    let p = restart_weighs j x kids in
    let e = both_weigh (flat_first j x kids) (flat_restart j kids) in
    omega (arith, p, e)

body_weighs : (seat : Name) (group : Forest) (fell : ℕ) (b : Body) (j k : ℕ) → commands_weight (flat_body seat group fell b j k).commands ≤ body_weight group b
body_weighs seat group fell stop j k = omega arith
body_weighs seat group fell (act a rest) j k = let r = body_weighs seat group fell rest j k in omega (arith, r)
body_weighs seat group fell (cases t y n rest) j k =
    let fy = flat_body seat group fell y k (k + 2) in
    let fn = flat_body seat group fell n (k + 1) fy.next in
    let fr = flat_body seat group fell rest j fn.next in
    let p = body_weighs seat group fell y k (k + 2) in
    let q = body_weighs seat group fell n (k + 1) fy.next in
    let r = body_weighs seat group fell rest j fn.next in
    let e = both_weigh (fy.commands ++ fn.commands) fr.commands in
    let h = both_weigh fy.commands fn.commands in
    omega (arith, p, q, r, e, h)
body_weighs seat group fell (goto x rest) j k =
    let p = goto_weighs seat group j x in
    let r = body_weighs seat group fell rest j k in
    let e = both_weigh (flat_goto seat group j x) (flat_body seat group fell rest j k).commands in
    omega (arith, p, r, e)
body_weighs seat group fell (fall rest) j k = let r = body_weighs seat group fell rest j k in omega (arith, r)

gates_weigh : (c : Term Name) → operations c ≡ 0 → (seat : Name) (u : ℕ) (f : Forest) (i j : ℕ) → commands_weight (flat_gates c seat u f i j) ≡ 2 * size f
gates_weigh c o seat u none i j = refl
gates_weigh c o seat u (state x b kids rest) i j = let r = gates_weigh c o seat u rest (i + 1) (j + 1) in omega (arith, o, r)

-- beside the gates of these states
group_weighs : (seat : Name) (group from : Forest) (j k : ℕ) → commands_weight (flat_group seat group from j k).commands + 2 * size from ≤ forest_weight group from
group_weighs seat group none j k = omega arith
group_weighs seat group (state x b kids rest) j k =
    let d = flat_body seat group k b j (k + 1 + size kids) in
    let c = flat_group (seat_name x) kids kids (k + 1) d.next in
    let r = flat_group seat group rest (j + 1) c.next in
    let gates : List Command = flat_gates (read (gate_name k)) (seat_name x) (seat_width (size kids)) kids 0 (k + 1) in
    let p = body_weighs seat group k b j (k + 1 + size kids) in
    let g = gates_weigh (read (gate_name k)) refl (seat_name x) (seat_width (size kids)) kids 0 (k + 1) in
    let q = group_weighs (seat_name x) kids kids (k + 1) d.next in
    let s = group_weighs seat group rest (j + 1) c.next in
    let e = both_weigh (d.commands ++ (gates ++ c.commands)) r.commands in
    let h = both_weigh d.commands (gates ++ c.commands) in
    let l = both_weigh gates c.commands in
    omega (arith, p, g, q, s, e, h, l)

states_weigh : (f : Forest) → commands_weight (flat_states f).commands ≤ forest_weight f f
states_weigh f =
    let g = gates_weigh (constant 1 1) refl root_seat (seat_width (size f)) f 0 0 in
    let r = group_weighs root_seat f f 0 (size f) in
    let e = both_weigh (flat_gates (constant 1 1) root_seat (seat_width (size f)) f 0 0) (flat_group root_seat f f 0 (size f)).commands in
    omega (arith, g, r, e)

pub flattened_small : (p : Nested) → source_weight (flattened p) ≤ nested_weight p
flattened_small p = let r = states_weigh p.states in omega (arith, r)
