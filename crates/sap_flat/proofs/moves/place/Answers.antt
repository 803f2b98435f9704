use Rattle.sap_lemmas.proofs.Common.{rules, tests, ◌∙◌, sym, bytes_eq, YieldsList-from_slice}
use Rattle.std.proofs.lemmas.Iterator.Search.{position_from_yields_List}
use Rattle.sap_ir.specs.declared.plain.nested.PlainState.{PlainState, out-PlainState}
use Rattle.sap_flat.proofs.Makes.{place_listed, position_or_end}
use Rattle.sap_flat.proofs.moves.place.Goals as goal

pub returns : goal.returns
returns c =
    c.unwrap_or.ensures
    ∙ position_or_end (λ (s : PlainState). bytes_eq (out-PlainState s).name c.args.target.now) c.args.states.now c.position.result
    (position_from_yields_List (λ (s : PlainState). bytes_eq (out-PlainState s).name c.args.target.now) _ _ _ c.position.ensures.ran
    (YieldsList-from_slice c.args.states.now cc) (λ x b q k. search (rules, tests)))
    ∙ sym (place_listed c.args.target.now c.args.states.now)
