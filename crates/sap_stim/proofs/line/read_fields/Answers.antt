use Rattle.sap_lemmas.proofs.Common.{sym, ap, ◌∙◌, Ok, refl, arith, take_all, take_more_set}
use Rattle.sap_stim.proofs.EachField.{read_more, read_stops, enough_more, read_begins, nothing_read, read_ends}
use Rattle.sap_stim.proofs.line.read_fields.Goals as goal

pub returns-in-Err : goal.returns-in-Err
returns-in-Err c =
    read_stops c.args.lattice.now c.args.fields.now c.loop-k.k _ _ c.loop-k.rest.now c.cut.result.0.now c.in-Err.code c.loop-k-test.true
    c.loop-k.invariant.enough c.in-Err.ensures c.cut.ensures.before
    ∙ c.loop-k.invariant.read

pub loop-k-preserved : goal.loop-k-preserved
loop-k-preserved c = record {
  read =
      read_more c.args.lattice.now c.args.fields.now c.loop-k.k _ _ _ c.loop-k.rest.now c.cut.result.0.now c.cut.result.1.now c.in-Ok.input
      c.loop-k-test.true c.loop-k.invariant.enough c.in-Ok.ensures c.cut.ensures.before c.cut.ensures.behind
      (take_more_set c.loop-k.inputs c.loop-k.k c.in-Ok.input (omega (arith, c.loop-k.auto.inputs, c.requires.places, c.loop-k-test.true)))
      ∙ c.loop-k.invariant.read;
  enough = enough_more c.args.fields.now c.loop-k.k c.loop-k.rest.now c.cut.result.1.now c.loop-k-test.true c.loop-k.invariant.enough c.cut.ensures.behind;
}

pub loop-k-init : goal.loop-k-init
loop-k-init c = record {
  read = nothing_read c.args.lattice.now c.args.fields.now _ c.args.line.now refl c.requires.count;
  enough = (read_begins c.args.lattice.now c.args.fields.now c.args.line.now c.requires.count).1;
}

pub returns : goal.returns
returns c =
    ap Ok (sym (take_all c.loop-k.k c.loop-k.inputs (omega (arith, c.loop-k.auto.inputs, c.requires.places, c.loop-k-test.false))))
    ∙ sym (read_ends c.args.lattice.now c.args.fields.now c.loop-k.k _ c.loop-k.rest.now c.loop-k-test.false)
    ∙ c.loop-k.invariant.read
