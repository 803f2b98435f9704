use Rattle.sap_lemmas.proofs.Common.{List, take, ℕ, ◌++◌, sym, ap, ◌∙◌, map-append}
use Rattle.sap_maps.specs.Maps.{Name}
use Rattle.sap_net.specs.Prelude.{value_name, tag_name, value_of, shown_among, shown_by}
use Rattle.sap_sim.specs.Numbers.{place}
use Rattle.sap_sim.proofs.Lists.{mapped_more}
use Rattle.sap_wave.specs.declared.variable.Variable.{Variable}
use Rattle.sap_wave.specs.Waves.{names_of}
use Rattle.sap_wave_rows.specs.Places.{value_places, tag_places}
use Rattle.sap_wave_rows.specs.Rows.{widths_of}
use Rattle.sap_wave_rows.proofs.Finding.{shown_push}
use Rattle.sap_wave_rows.proofs.shown.shown_of.Goals as goal

pub loop-variable-preserved : goal.loop-variable-preserved
loop-variable-preserved c =
    let vs = c.args.variables.now in
    let ws = widths_of vs in
    let k = c.loop-variable.variable-index in
    let v = c.variable-item.result in
    let before = c.loop-variable.shown.names.items in
    let more = shown_by c.args.tag ws (value_of v.name) in
    record {
      names =
          c.in_ok-push_shown.ensures.names
          ∙ ap (λ (xs : List Name). xs ++ more) c.loop-variable.invariant.names
          ∙ sym (ap (shown_among c.args.tag ws) (mapped_more (λ (x : Variable). x.name) vs k v c.loop-variable-test.true c.variable-item.is)
          ∙ shown_push c.args.tag ws (names_of (take k vs)) v.name);
      values =
          c.in_ok-push_shown.ensures.values
          ∙ ap (λ (ks : List ℕ). ks ++ value_places vs more) c.loop-variable.invariant.values
          ∙ sym (map-append (λ x. place (names_of vs) (value_name x)) before more)
          ∙ ap (value_places vs) (sym c.in_ok-push_shown.ensures.names);
      tags =
          c.in_ok-push_shown.ensures.tags
          ∙ ap (λ (ks : List ℕ). ks ++ tag_places vs more) c.loop-variable.invariant.tags
          ∙ sym (map-append (λ x. place (names_of vs) (tag_name x)) before more)
          ∙ ap (tag_places vs) (sym c.in_ok-push_shown.ensures.names);
    }
