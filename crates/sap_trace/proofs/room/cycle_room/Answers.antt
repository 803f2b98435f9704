use Rattle.std.proofs.Common.{arith}
use Rattle.sap_check.specs.Checked.{levels_in, tree_in}
use Rattle.sap_trace.proofs.Rooms.{cycle_no_less, holds_cycle, no_cycle}
use Rattle.sap_trace.proofs.room.cycle_room.Goals as goal

pub returns-clause-holds : goal.returns-clause-holds
returns-clause-holds c =
    holds_cycle (levels_in c.args.checked.now) (tree_in c.args.checked.now) c.in_ok-line.line c.site_count.result c.in_ok-room.room
    c.in_ok-line.ensures.holds c.site_count.ensures (omega (arith, c.in_ok-room.ensures))

pub returns-clause-least : goal.returns-clause-least
returns-clause-least c = λ other holds.
    let fewest = cycle_no_less (levels_in c.args.checked.now) (tree_in c.args.checked.now) c.in_ok-line.line c.site_count.result other
    c.in_ok-line.ensures.least c.site_count.ensures holds in
    omega (arith, fewest, c.in_ok-room.ensures)

pub returns-in_err-line-clause-none : goal.returns-in_err-line-clause-none
returns-in_err-line-clause-none c = rw c.from_residual.ensures
    (λ other holds. no_cycle (levels_in c.args.checked.now) (tree_in c.args.checked.now) _ other c.in_err-line.ensures.none holds)

pub returns-in_err-room-clause-none : goal.returns-in_err-room-clause-none
returns-in_err-room-clause-none c = rw c.from_residual-in_err-room.ensures (λ other holds.
    let fewest = cycle_no_less (levels_in c.args.checked.now) (tree_in c.args.checked.now) c.in_ok-line.line c.site_count.result other
    c.in_ok-line.ensures.least c.site_count.ensures holds in
    omega (arith, fewest, c.in_err-room.ensures))
