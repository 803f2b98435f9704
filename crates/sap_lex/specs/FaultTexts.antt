-- The text of a fault of a design's text.
use Rattle.std.specs.Prelude.{ℕ, List, ◌++◌, codes}
use Rattle.sap_text.specs.Places.{place_text}
use Rattle.sap_lex.specs.declared.limit.Limit.{Limit}
use Rattle.sap_lex.specs.declared.limit.Limit.TheVariants as limit
use Rattle.sap_lex.specs.declared.fault.ReadFault.{ReadFault}
use Rattle.sap_lex.specs.declared.fault.ReadFault.TheVariants.{E1, E2, E18, Memory}

-- The word by which a fault names a limit.
abbrev pub limit_text : Limit → List ℕ
limit_text limit.Bytes = codes "bytes"
limit_text limit.Name = codes "name"
limit_text limit.Inputs = codes "inputs"
limit_text limit.Registers = codes "registers"
limit_text limit.Memories = codes "memories"
limit_text limit.States = codes "states"
limit_text limit.Nesting = codes "nesting"
limit_text limit.Commands = codes "commands"
limit_text limit.Blocks = codes "blocks"
limit_text limit.Brackets = codes "brackets"
limit_text limit.Expression = codes "expression"

-- The text of a fault of a design's text.
abbrev pub read_text : ReadFault → List ℕ
read_text (E1 place) = codes "E1 " ++ place_text place
read_text (E2 place) = codes "E2 " ++ place_text place
read_text (E18 place kind) = codes "E18 " ++ place_text place ++ codes " " ++ limit_text kind
read_text Memory = codes "memory"
