use Rattle.sap_lemmas.proofs.Common.{◌≡◌, ◌+◌, drop, length, ap, refl, arith, Option, Some, None, IfNone}
use Rattle.sap_stim.proofs.RowRoom.{holds_rows, taken, taken_more, taken_none}
use Rattle.sap_stim.proofs.RowLeast.{longest, no_less}
use Rattle.sap_stim.proofs.room.row_room.Goals as goal

on_none : {X : Type 0} (o : Option X) (P : Type 0) → P → IfNone o P
on_none None P p = p
on_none (Some x) P p = tt

pub returns-clause-holds : goal.returns-clause-holds
returns-clause-holds c =
    let none : taken c.longest_level-level.result (drop c.loop-name.name-index c.args.names.now) ≡ 0 =
    taken_none c.longest_level-level.result c.args.names.now c.loop-name.name-index (omega arith) in
    let is : c.loop-name.room ≡ 28 + taken c.longest_level-level.result c.args.names.now = omega (arith, c.loop-name.invariant, none) in
    holds_rows c.args.lattice.now c.longest_level-level.result c.args.names.now c.loop-name.room c.longest_level-level.ensures.number c.longest_level-level.ensures.names is

pub returns-clause-least : goal.returns-clause-least
returns-clause-least c = λ other holds.
    let none : taken c.longest_level-level.result (drop c.loop-name.name-index c.args.names.now) ≡ 0 =
    taken_none c.longest_level-level.result c.args.names.now c.loop-name.name-index (omega arith) in
    let most = longest c.args.lattice.now c.longest_level-level.result c.lawful.ensures.codes c.lawful.ensures.narrow
    c.lawful.ensures.names.before.not_too_many c.longest_level-level.ensures.some in
    let fewest = no_less c.args.lattice.now c.longest_level-level.result c.args.names.now other most holds in
    omega (arith, c.loop-name.invariant, none, fewest)

pub returns-in_err-room-clause-none : goal.returns-in_err-room-clause-none
returns-in_err-room-clause-none c = on_none c.from_residual-in_err-room.result _ (λ other holds.
    let most = longest c.args.lattice.now c.longest_level-level.result c.lawful.ensures.codes c.lawful.ensures.narrow
    c.lawful.ensures.names.before.not_too_many c.longest_level-level.ensures.some in
    let fewest = no_less c.args.lattice.now c.longest_level-level.result c.args.names.now other most holds in
    let name = c.name-item.result in
    let grown = taken_more c.longest_level-level.result c.args.names.now c.loop-name.name-index c.loop-name.room
    (c.loop-name.room + (length name + c.longest_level-level.result + 23)) (28 + taken c.longest_level-level.result c.args.names.now)
    name c.loop-name-test.true c.name-item.is c.loop-name.invariant refl in
    omega (arith, fewest, grown, ap length c.as_bytes.ensures, c.in_ok-checked_add.ensures, c.in_ok-size.ensures, c.in_err-room.ensures))
