use Rattle.std.proofs.Common.{◌∙◌, List, length, take, ap, sym, arith}
use Rattle.sap_names.specs.Best.{best_of}
use Rattle.sap_names.specs.Fault.{Fault}
use Rattle.sap_names.proofs.Faults.{best_of-none}
use Rattle.sap_names.proofs.Twice.{twice_past, twice_step}
use Rattle.sap_names.proofs.design.twice_faults.Goals as goal

pub loop-number-preserved : goal.loop-number-preserved
loop-number-preserved c =
    twice_step c.args.names.now c.as_slice-entity-items.result.now c.loop-number.number c.entity-item.result c.as_bytes.result.now
    c.is_later.result _ _ c.as_slice-entity-items.ensures
    (omega arith) c.entity-item.is c.as_bytes.ensures c.is_later.ensures c.note.ensures
    ∙ c.loop-number.invariant

pub returns : goal.returns
returns c =
    sym (best_of-none c.loop-number.best)
    ∙ ap (λ (l : List Fault). best_of c.loop-number.best l)
    (sym (twice_past (take c.loop-number.number c.args.names.now) c.args.names.now c.loop-number.number (omega (arith, ap length c.as_slice-entity-items.ensures))))
    ∙ c.loop-number.invariant
