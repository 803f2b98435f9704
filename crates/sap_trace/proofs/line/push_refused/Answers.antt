use Rattle.sap_lemmas.proofs.Common.{◌≡◌, ◌<◌, ◌+◌, ◌*◌, ℕ, [], ◌++◌, length, sym, ap, ◌∙◌, subst, arith, vec_capacity, append-nil}
use Rattle.sap_desk.proofs.Steps.{on_err}
use Rattle.sap_check.specs.Checked.{levels_in, tree_in}
use Rattle.sap_check.specs.Sites.{sites_of}
use Rattle.sap_cycle.specs.Running.{seen}
use Rattle.sap_sim.specs.Stepped.{HasMore}
use Rattle.sap_sim.proofs.Stepped.{more_behind, more_size}
use Rattle.sap_trace.specs.Rooms.{HoldsLine}
use Rattle.sap_trace.specs.Seen.{seen_lines}
use Rattle.sap_trace.proofs.Rooms.{room_more}
use Rattle.sap_trace.proofs.Seen.{no_lines, seen_step}
use Rattle.sap_trace.proofs.line.push_refused.Goals as goal
use Rattle.sap_trace.proofs.line.push_refused.Goals.{In_err-push_site}

pub loop-k-init : goal.loop-k-init
loop-k-init c = record {
  text = λ shown shows. no_lines c.args.out.now.items;
  room = omega arith;
  more = λ line holds. ([], sym (append-nil c.args.out.now.items), omega arith);
}

pub loop-k-preserved : goal.loop-k-preserved
loop-k-preserved c = record {
  text = λ shown shows.
      seen_step (levels_in c.args.checked.now) (tree_in c.args.checked.now) c.args.cycle c.loop-k.k (seen c.args.runner.now.net shown) c.args.out.now.items _ _
      (c.loop-k.invariant.text shown shows) (c.in_ok-push_site.ensures.text shown shows);
  room = omega (arith, c.loop-k.invariant.room, c.push_site.ensures.room);
  more = λ line holds.
      let sum : (c.loop-k.k + 1) * line ≡ c.loop-k.k * line + line = omega arith in
      subst (λ (most : ℕ). HasMore most c.args.out.now.items c.push_site.new.out.items) (sym sum)
      (more_behind (c.loop-k.k * line) line c.args.out.now.items c.loop-k.out.items c.push_site.new.out.items (c.loop-k.invariant.more line holds)
      (c.in_ok-push_site.ensures.more line holds));
}

full : (c : In_err-push_site) (line : ℕ) → HoldsLine (levels_in c.args.checked.now) (tree_in c.args.checked.now) line
    → vec_capacity c.args.out.now < length c.args.out.now.items + length (sites_of (tree_in c.args.checked.now)) * line
full c line holds =
    let before = more_size (c.loop-k.k * line) c.args.out.now.items c.loop-k.out.items (c.loop-k.invariant.more line holds) in
    let now = c.in_err-push_site.ensures.full line holds in
    let more = room_more c.loop-k.k (length (sites_of (tree_in c.args.checked.now))) line (omega arith) in
    omega (arith, before, now, more, c.loop-k.invariant.room)

pub returns-in_err-push_site-clause-full : goal.returns-in_err-push_site-clause-full
returns-in_err-push_site-clause-full c = on_err c.from_residual.result (λ line holds. full (goal.at.returns-in_err-push_site-clause-full c).In_err-push_site line holds)

pub returns-clause-text : goal.returns-clause-text
returns-clause-text c = λ shown shows.
    let e : c.loop-k.k ≡ length (sites_of (tree_in c.args.checked.now)) = omega arith in
    c.loop-k.invariant.text shown shows
    ∙ ap (λ (n : ℕ). c.args.out.now.items ++ seen_lines (levels_in c.args.checked.now) (tree_in c.args.checked.now) c.args.cycle 1 n (seen c.args.runner.now.net shown)) e

pub returns-clause-more : goal.returns-clause-more
returns-clause-more c = λ line holds.
    let e : c.loop-k.k ≡ length (sites_of (tree_in c.args.checked.now)) = omega arith in
    subst (λ (n : ℕ). HasMore (n * line) c.args.out.now.items c.loop-k.out.items) e (c.loop-k.invariant.more line holds)
