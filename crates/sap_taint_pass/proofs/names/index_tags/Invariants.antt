use Rattle.std.proofs.Common.{◌≡◌, [], ◌∷◌, ◌++◌, map, take}
use Rattle.sap_taint.specs.TagNames.{name_of_tag, NoneClashes}
use Rattle.sap_taint_pass.proofs.names.index_tags.Given as goal

abbrev pub invariant-loop-name : goal.invariant-loop-name
invariant-loop-name l =
    (l.taken ≡ l.netlist.module_name ∷ l.netlist.names ++ map name_of_tag (take l.name-index l.names)) × NoneClashes l.netlist [] (take l.name-index l.names)
