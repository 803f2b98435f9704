use Rattle.std.proofs.Common.{◌≡◌, ◌++◌}
use Rattle.sap_tags_terms.specs.Code.{named_in, tag_width}
use Rattle.sap_tagged.specs.Plain.{site_wires}
use Rattle.sap_tags_variables.proofs.wires.add_site_wires.Given as goal

abbrev pub invariant-loop-before : goal.invariant-loop-before
invariant-loop-before l = l.wires.items ≡ l.initial.wires.items ++ site_wires (named_in l.setting) (tag_width l.setting) 1 l.before
