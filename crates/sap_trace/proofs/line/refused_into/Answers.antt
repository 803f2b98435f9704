use Rattle.sap_lemmas.proofs.Common.{◌≡◌, ◌<◌, ◌+◌, ◌*◌, ℕ, length, ap, arith, vec_capacity}
use Rattle.sap_check.specs.Checked.{levels_in, tree_in}
use Rattle.sap_check.specs.Sites.{sites_of}
use Rattle.sap_desk.specs.Row.{Row}
use Rattle.sap_sim.proofs.Stepped.{more_within}
use Rattle.sap_stim.proofs.RowTexts.{ok_with_room}
use Rattle.sap_trace.specs.Rooms.{HoldsLine}
use Rattle.sap_trace.proofs.Rooms.{err_at, ok_at}
use Rattle.sap_trace.proofs.line.refused_into.Goals as goal

pub unwrap-requires : goal.unwrap-requires
unwrap-requires c =
    let holds = c.requires.fits.1 in
    let wanted : ℕ → ℕ = λ line. length c.take-bytes.result.items + length (sites_of (tree_in c.args.checked.now)) * line in
    let size : length c.take-bytes.result.items ≡ length c.args.out.now.bytes = ap length c.take-bytes.ensures.bytes in
    ok_with_room c.push_refused.result (vec_capacity c.take-bytes.result) (wanted holds.line)
    (err_at (HoldsLine (levels_in c.args.checked.now) (tree_in c.args.checked.now)) (λ line. vec_capacity c.take-bytes.result < wanted line)
    c.push_refused.result holds.line holds.holds c.push_refused.ensures.full)
    (omega (arith, size, holds.all, c.requires.fits.2, c.take-bytes.ensures.room))

pub returns-clause-more : goal.returns-clause-more
returns-clause-more c = λ room holds.
    more_within (length (sites_of (tree_in c.args.checked.now)) * holds.line) room c.take-bytes.result.items c.push_refused.new.out.items
    c.args.out.now.bytes c.put.new.self.bytes c.take-bytes.ensures.bytes (ap (λ (r : Row). r.bytes) c.put.ensures) holds.all
    (ok_at c.push_refused.result c.unwrap.result c.unwrap.ensures c.push_refused.ensures.more holds.line holds.holds)
