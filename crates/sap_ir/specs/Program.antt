-- What a flat program is seen as.
use Rattle.sap_ir.specs.declared.program.Guarded.{Guarded}
use Rattle.sap_ir.specs.Parts.{parts_source}
use Rattle.sap_ir.specs.Source.{Source}

-- The list of guarded commands that a stored one stands for.
abbrev pub source_of : Guarded → Source
source_of g = parts_source g.parts
