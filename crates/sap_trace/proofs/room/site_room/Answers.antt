use Rattle.std.proofs.Common.{length, subst, arith}
use Rattle.sap_lattice.specs.Levels.{Levels}
use Rattle.sap_check.specs.Checked.{levels_in, tree_in}
use Rattle.sap_stim.proofs.RowLeast.{Longest, longest}
use Rattle.sap_stim.proofs.RowRoom.{Within}
use Rattle.sap_trace.proofs.Rooms.{holds_line, no_less}
use Rattle.sap_trace.proofs.room.site_room.Goals as goal

pub returns-clause-holds : goal.returns-clause-holds
returns-clause-holds c =
    let level = c.longest_level-level.result in
    holds_line (levels_in c.args.checked.now) (tree_in c.args.checked.now) c.most_beside_level.result level c.in_ok-room.room c.longest_level-level.ensures.number
    (subst (λ (l : Levels). Within l.names level (length l.names)) c.lattice-lattice.ensures c.longest_level-level.ensures.names)
    c.most_beside_level.ensures.most (omega (arith, c.in_ok-room.ensures))

pub returns-clause-least : goal.returns-clause-least
returns-clause-least c = λ other holds.
    let level = c.longest_level-level.result in
    let most = longest c.lattice-lattice.result.now level c.lawful.ensures.codes c.lawful.ensures.narrow
    c.lawful.ensures.names.before.not_too_many c.longest_level-level.ensures.some in
    let fewest = no_less (levels_in c.args.checked.now) (tree_in c.args.checked.now) c.most_beside_level.result level other
    (subst (λ (l : Levels). Longest l level) c.lattice-lattice.ensures most) c.most_beside_level.ensures.least
    (omega (arith, c.site_count.ensures)) holds in
    omega (arith, fewest, c.in_ok-room.ensures)

pub returns-in_err-room-clause-none : goal.returns-in_err-room-clause-none
returns-in_err-room-clause-none c = rw c.from_residual.ensures (λ other holds.
    let level = c.longest_level-level.result in
    let most = longest c.lattice-lattice.result.now level c.lawful.ensures.codes c.lawful.ensures.narrow
    c.lawful.ensures.names.before.not_too_many c.longest_level-level.ensures.some in
    let fewest = no_less (levels_in c.args.checked.now) (tree_in c.args.checked.now) c.most_beside_level.result level other
    (subst (λ (l : Levels). Longest l level) c.lattice-lattice.ensures most) c.most_beside_level.ensures.least
    (omega (arith, c.site_count.ensures)) holds in
    omega (arith, fewest, c.in_err-room.ensures))
