-- The numbers of gates only grow.
use Rattle.std.proofs.Common.{ℕ, ◌+◌, ◌≤◌, arith}
use Rattle.sap_maps.specs.Maps.{Name}
use Rattle.sap_ir.specs.Plain.Nested.{Body, stop, act, cases, goto, fall, Forest, none, state, size}
use Rattle.sap_net.specs.PortNames.{seat_name}
use Rattle.sap_flat.specs.Flat.{flat_body, flat_group}

pub body_grows : (seat : Name) (group : Forest) (fell : ℕ) (b : Body) (j k : ℕ) → k ≤ (flat_body seat group fell b j k).next
body_grows seat group fell stop j k = omega arith
body_grows seat group fell (act a rest) j k = body_grows seat group fell rest j k
body_grows seat group fell (cases t y n rest) j k =
    let fy = flat_body seat group fell y k (k + 2) in
    let fn = flat_body seat group fell n (k + 1) fy.next in
    let a = body_grows seat group fell y k (k + 2) in
    let b = body_grows seat group fell n (k + 1) fy.next in
    let c = body_grows seat group fell rest j fn.next in
    omega (arith, a, b, c)
body_grows seat group fell (goto x rest) j k = body_grows seat group fell rest j k
body_grows seat group fell (fall rest) j k = body_grows seat group fell rest j k

pub group_grows : (seat : Name) (group f : Forest) (j k : ℕ) → k ≤ (flat_group seat group f j k).next
group_grows seat group none j k = omega arith
group_grows seat group (state x b kids rest) j k =
    let d = flat_body seat group k b j (k + 1 + size kids) in
    let c = flat_group (seat_name x) kids kids (k + 1) d.next in
    let p = body_grows seat group k b j (k + 1 + size kids) in
    let q = group_grows (seat_name x) kids kids (k + 1) d.next in
    let r = group_grows seat group rest (j + 1) c.next in
    omega (arith, p, q, r)
