-- What a program of nested states is seen as.
use Rattle.sap_ir.specs.declared.plain.program.Plain.{Plain}
use Rattle.sap_ir.specs.Plain.Parts.{parts_nested}
use Rattle.sap_ir.specs.Plain.Nested.{Nested}

-- The program of nested states that a stored one stands for.
abbrev pub nested_of : Plain → Nested
nested_of p = parts_nested p.parts
