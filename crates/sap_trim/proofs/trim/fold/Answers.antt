use Rattle.sap_lemmas.proofs.Common.{sym, subst, arith, IfOk-weaker}
use Rattle.sap_trim.specs.Needed.{MarksNeeded}
use Rattle.sap_trim.proofs.Compose.{declares_both, lasting_same, runs_both, shown_same}
use Rattle.sap_trim.proofs.Few.{left_most}
use Rattle.sap_trim.proofs.trim.fold.Goals as goal

pub wires_left-left-requires-clause-shown : goal.wires_left-left-requires-clause-shown
wires_left-left-requires-clause-shown c =
    shown_same c.args.netlist c.in_ok-small.small c.in_ok-known.known.shown (c.in_ok-small.ensures {u = tt}).declares c.in_ok-known.ensures.shown

pub wires_left-left-requires-clause-kept : goal.wires_left-left-requires-clause-kept
wires_left-left-requires-clause-kept c = subst (MarksNeeded c.in_ok-small.small) (sym c.deref.ensures.value) (c.in_ok-kept.ensures {u = tt})

pub loop-round-init : goal.loop-round-init
loop-round-init c =
    let small = c.in_ok-small.ensures {u = tt} in
    record {
      declares = small.declares;
      same = small.same;
      folded = small.folded;
      kept = c.in_ok-kept.ensures {u = tt};
      left = c.wires_left-left.ensures;
      few = let most = left_most c.in_ok-small.small in let few = small.few in omega (arith, few, most);
    }

pub folded_of-requires-clause-lasting : goal.folded_of-requires-clause-lasting
folded_of-requires-clause-lasting c =
    lasting_same c.args.netlist c.loop-round.small c.in_ok-known.known.lasting c.loop-round.invariant.declares c.in_ok-known.ensures.lasting

pub folded_of-requires-clause-shown : goal.folded_of-requires-clause-shown
folded_of-requires-clause-shown c =
    shown_same c.args.netlist c.loop-round.small c.in_ok-known.known.shown c.loop-round.invariant.declares c.in_ok-known.ensures.shown

pub wires_left-now-requires-clause-shown : goal.wires_left-now-requires-clause-shown
wires_left-now-requires-clause-shown c =
    let n = c.args.netlist in
    let folded = c.in_ok-folded.folded.netlist in
    shown_same n folded c.in_ok-known.known.shown (declares_both n c.loop-round.small folded c.loop-round.invariant.declares c.in_ok-folded.ensures.declares)
    c.in_ok-known.ensures.shown

pub wires_left-now-requires-clause-kept : goal.wires_left-now-requires-clause-kept
wires_left-now-requires-clause-kept c = subst (MarksNeeded c.in_ok-folded.folded.netlist) (sym c.deref-in-loop-round.ensures.value) c.in_ok-folded.ensures.kept

pub loop-round-preserved : goal.loop-round-preserved
loop-round-preserved c =
    let n = c.args.netlist in
    let small = c.loop-round.small in
    let folded = c.in_ok-folded.folded.netlist in
    record {
      declares = declares_both n small folded c.loop-round.invariant.declares c.in_ok-folded.ensures.declares;
      same = runs_both n small folded c.rules.ensures c.loop-round.invariant.declares c.loop-round.invariant.same c.in_ok-folded.ensures.same;
      folded = c.in_ok-folded.ensures.folded;
      kept = c.in_ok-folded.ensures.kept;
      left = c.wires_left-now.ensures;
      few = omega (arith, c.wires_left-now.ensures, c.if-left-now.false, c.loop-round.invariant.left, c.loop-round.invariant.few);
    }

pub number-requires-clause-lasting : goal.number-requires-clause-lasting
number-requires-clause-lasting c =
    lasting_same c.args.netlist c.loop-round.small c.in_ok-known.known.lasting c.loop-round.invariant.declares c.in_ok-known.ensures.lasting

pub number-requires-clause-shown : goal.number-requires-clause-shown
number-requires-clause-shown c =
    shown_same c.args.netlist c.loop-round.small c.in_ok-known.known.shown c.loop-round.invariant.declares c.in_ok-known.ensures.shown

pub returns-clause-declares : goal.returns-clause-declares
returns-clause-declares c =
    IfOk-weaker c.number.result _ _ (λ trimmed h. declares_both c.args.netlist c.loop-round.small trimmed c.loop-round.invariant.declares h) c.number.ensures.declares

pub returns-clause-same : goal.returns-clause-same
returns-clause-same c =
    IfOk-weaker c.number.result _ _
    (λ trimmed h. runs_both c.args.netlist c.loop-round.small trimmed c.rules-2.ensures c.loop-round.invariant.declares c.loop-round.invariant.same h)
    c.number.ensures.same

pub returns-clause-few : goal.returns-clause-few
returns-clause-few c = IfOk-weaker c.number.result _ _ (λ trimmed h. let few = c.loop-round.invariant.few in omega (arith, h, few)) c.number.ensures.left
