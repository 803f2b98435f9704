use Rattle.std.proofs.Common.{◌≡◌, length}
use Rattle.sap_stim.specs.Rows.{AreLevelTexts}
use Rattle.sap_stim.proofs.label.level_texts.Given as goal

abbrev pub invariant-loop-tag : goal.invariant-loop-tag
invariant-loop-tag l = record {
  count : length l.texts.items ≡ l.tag;
  texts : AreLevelTexts l.lattice l.texts.items;
}
