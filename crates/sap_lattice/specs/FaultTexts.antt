-- The text of a fault of names and pairs.
use Rattle.std.specs.Prelude.{ℕ, List, ◌++◌, codes}
use Rattle.std.specs.Fmt.{decimal}
use Rattle.sap_lattice.specs.declared.fault.LatFault.{LatFault}
use Rattle.sap_lattice.specs.declared.fault.LatFault.TheVariants.{Count, Bad, UnknownPair, Cycle, NoJoin, NoLeast, Memory}

-- The text of a fault of names and pairs.
abbrev pub rule_text : LatFault → List ℕ
rule_text (Count n) = codes "L3 " ++ decimal n
rule_text (Bad position) = codes "L4 " ++ decimal position
rule_text (UnknownPair position) = codes "L5 " ++ decimal position
rule_text (Cycle x y) = codes "L6 " ++ x ++ codes " " ++ y
rule_text (NoJoin x y) = codes "L7 " ++ x ++ codes " " ++ y
rule_text NoLeast = codes "L8"
rule_text Memory = codes "memory"
