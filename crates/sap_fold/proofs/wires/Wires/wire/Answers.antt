use Rattle.sap_lemmas.proofs.Common.{sym, arith, equal_of_bytes_eq}
use Rattle.sap_fold.proofs.wires.Wires.wire.Goals as goal

pub returns : goal.returns
returns c =
    let fits = c.args.self.now.list.ok in
    record {
      place = c.place-place.result;
      within = omega (arith, fits, c.len.ensures, c.if-place-len.false);
      is = c.index-wire.ensures;
      named = equal_of_bytes_eq c.index-wire.result.now.name c.args.name.now (sym (c.if-not-same.ensures {u = tt}));
    }
