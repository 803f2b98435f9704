use Rattle.sap_lemmas.proofs.Common.{◌<◌, ◌+◌, ◌^◌, ℕ, length, arith, vec_capacity}
use Rattle.sap_desk.proofs.Steps.{on_err}
use Rattle.sap_check.specs.Checked.{levels_in, tree_in}
use Rattle.sap_trace.specs.Lines.{site_line}
use Rattle.sap_trace.specs.Rooms.{HoldsLine}
use Rattle.sap_trace.specs.Seen.{coded_name}
use Rattle.sap_trace.proofs.Rooms.{line_fits}
use Rattle.sap_trace.proofs.line.push_site.Goals as goal

pub returns-in_err-push_line-clause-full : goal.returns-in_err-push_line-clause-full
returns-in_err-push_line-clause-full c =
    let tag = c.at-then-at-eq1.result in
    let small : c.at-then-at-eq1.result < 2 ^ 64 = omega (arith, c.at-then-at-eq1.type_inv) in
    let fits = line_fits (tree_in c.args.checked.now) c.args.cycle c.args.site (coded_name (levels_in c.args.checked.now) tag) c.ranges.cycle.fits in
    let p : (line : ℕ) → HoldsLine (levels_in c.args.checked.now) (tree_in c.args.checked.now) line → vec_capacity c.args.out.now < length c.args.out.now.items + line =
    λ line holds. (let room = holds.code c.args.site tag c.requires.from_one c.requires.within small in omega (arith, fits, room, c.in_err-push_line.ensures.full)) in
    on_err c.from_residual.result p

pub returns-in_ok-push_line-clause-more : goal.returns-in_ok-push_line-clause-more
returns-in_ok-push_line-clause-more c = λ line holds.
    let tag = c.at-then-at-eq1.result in
    let text = site_line (tree_in c.args.checked.now) c.args.cycle c.args.site (coded_name (levels_in c.args.checked.now) c.at-then-at-eq1.result) in
    let small : c.at-then-at-eq1.result < 2 ^ 64 = omega (arith, c.at-then-at-eq1.type_inv) in
    let fits = line_fits (tree_in c.args.checked.now) c.args.cycle c.args.site (coded_name (levels_in c.args.checked.now) tag) c.ranges.cycle.fits in
    let room = holds.code c.args.site tag c.requires.from_one c.requires.within small in
    (text, c.in_ok-push_line.ensures.text, omega (arith, fits, room))
