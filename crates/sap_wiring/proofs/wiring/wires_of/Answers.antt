use Rattle.sap_lemmas.proofs.Common.{◌∙◌, sym, ap, get_or, take, arith, subst, same_Some, slice_get-get_or}
use Rattle.std.proofs.Math.Numerals.{add-one}
use Rattle.sap_system.specs.declared.file.WireText.{WireText}
use Rattle.sap_wiring.specs.Wiring.{is_fed, seen}
use Rattle.sap_wiring.proofs.Answered.{Tested, feeds, tested_next, all_kept}
use Rattle.sap_wiring.proofs.wiring.wires_of.Goals as goal

pub judge-requires-clause-fed : goal.judge-requires-clause-fed
judge-requires-clause-fed c = λ text at.
    let texts = c.args.texts.now in
    let t : WireText = get_or texts c.loop-k.k c.index-texts-k.result in
    let here = slice_get-get_or texts c.loop-k.k c.index-texts-k.result (omega arith) in
    c.contains-is_fed.ensures ∙ ap (is_fed c.loop-k.fed.keys) c.as_bytes.ensures ∙ c.loop-k.invariant.fed t.to
    ∙ ap (λ (x : WireText). feeds (take c.loop-k.k texts) x.to) (same_Some t text (sym here ∙ at))

pub loop-k-preserved : goal.loop-k-preserved
loop-k-preserved c =
    let u = seen c.args.around.now in
    let texts = c.args.texts.now in
    let t : WireText = get_or texts c.loop-k.k c.index-texts-k.result in
    let here = slice_get-get_or texts c.loop-k.k c.index-texts-k.result (omega arith) in
    subst (λ i. Tested u texts i c.add.new.wires.items c.add.new.fed.keys) (sym (add-one c.loop-k.k)) (
    tested_next u texts c.loop-k.k t c.loop-k.wires.items c.add.new.wires.items c.in-Ok.wire c.loop-k.fed.keys c.add.new.fed.keys here c.loop-k.invariant
    c.in-Ok.ensures.wire c.in-Ok.ensures.kept c.in_ok-add-in-Ok.ensures.wires c.in_ok-add-in-Ok.ensures.fed
    )

pub returns-clause-kept : goal.returns-clause-kept
returns-clause-kept c = all_kept (seen c.args.around.now) c.args.texts.now c.loop-k.k c.loop-k.wires.items c.loop-k.fed.keys (omega arith) c.loop-k.invariant
