use Rattle.std.proofs.Common.{◌≡◌, ◌∙◌, ap, sym}
use Rattle.sap_tree.specs.Prelude.{expression_of, expressions_of, first_of}
use Rattle.sap_tree.proofs.Views.{expression_of-concat}
use Rattle.sap_names.proofs.Faults.{both}
use Rattle.sap_text.specs.declared.place.Place.{Place}
use Rattle.sap_names.specs.Best.{best_of}
use Rattle.sap_names.specs.NameFaults.{fault_if}
use Rattle.sap_names.specs.declared.kind.Code.TheVariants.{E7}
use Rattle.sap_names.proofs.Parts.{parts_first, concat_noted, first_of_concat}
use Rattle.sap_names.proofs.expression.+faults.Goals as goal

pub parts_faults-returns-in-len1-up : goal.parts_faults-returns-in-len1-up
parts_faults-returns-in-len1-up t c =
    both _ _ _ _ _ _ c.expression_faults.ensures c.parts_faults.ensures
    (parts_first _ c.args.parts.now c.first-item.result c.in-len1-up.len_at_least c.first-item.is)

pub expression_faults-returns-in-Concat : goal.expression_faults-returns-in-Concat
expression_faults-returns-in-Concat t c =
    let view = ap expression_of c.in-Concat.is ∙ expression_of-concat c.in-Concat.spot c.in-Concat.parts in
    let place : c.first.result ≡ c.in-Concat.spot.first = c.first.ensures ∙ ap first_of view ∙ first_of_concat c.in-Concat.spot _ in
    concat_noted _ c.args.asked c.own-mine.result c.all_sound-operands.result _ _ _ _ _ _ _ c.in-Concat.spot _ _
    view
    (ap expressions_of (sym c.as_slice-list.ensures.value))
    c.own-mine.ensures
    c.all_sound-operands.ensures
    c.unsettled.ensures
    c.lacks.ensures
    (c.note.ensures ∙ ap (λ (p : Place). best_of c.args.best.now (fault_if c.unsettled.result E7 p)) place)
    c.note-in-Concat.ensures
    c.parts_faults.ensures
