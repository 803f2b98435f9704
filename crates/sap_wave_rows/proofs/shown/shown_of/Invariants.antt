use Rattle.std.proofs.Common.{◌≡◌, take}
use Rattle.sap_net.specs.Shown.{shown_among}
use Rattle.sap_wave.specs.Waves.{names_of}
use Rattle.sap_wave_rows.specs.Places.{value_places, tag_places}
use Rattle.sap_wave_rows.specs.Rows.{widths_of}
use Rattle.sap_wave_rows.proofs.shown.shown_of.Given as goal

abbrev pub invariant-loop-variable : goal.invariant-loop-variable
invariant-loop-variable l = record {
  names : l.shown.names.items ≡ shown_among l.tag (widths_of l.variables) (names_of (take l.variable-index l.variables));
  values : l.shown.values.items ≡ value_places l.variables l.shown.names.items;
  tags : l.shown.tags.items ≡ tag_places l.variables l.shown.names.items;
}
