-- On what stands in Lowered: what several crates cite.
use Rattle.std.proofs.Common.{List, [], ap, map, refl, ◌++◌, ◌∷◌, ◌≡◌}
use Rattle.sap_ir.specs.IsGuarded.{variable_names}
use Rattle.sap_ir.specs.declared.guarded.Var.{Var}
use Rattle.sap_lower.specs.Lowered.{input_port, port_shown}
use Rattle.sap_maps.specs.Maps.{Name}
use Rattle.sap_net.specs.declared.parts.Port.{Port}

pub ports_named : (rs xs : List Var) (ps : List Name) → map (λ (p : Port). p.name) (map input_port xs ++ map (port_shown rs) ps) ≡ variable_names xs ++ ps
ports_named rs [] [] = refl
ports_named rs [] (p ∷ ps) = ap (λ (ns : List Name). p ∷ ns) (ports_named rs [] ps)
ports_named rs (x ∷ xs) ps = ap (λ (ns : List Name). x.name ∷ ns) (ports_named rs xs ps)
