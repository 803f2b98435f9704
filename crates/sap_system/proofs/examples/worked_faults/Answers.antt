use Rattle.sap_system.proofs.Worked.{no_document_told, no_wires_told, third_key_told, one_text_told, no_parts_told, nine_parts_told, keyword_told, underscore_told, twice_told}
use Rattle.sap_system.proofs.examples.worked_faults.Goals as goal

pub returns-clause-no_document : goal.returns-clause-no_document
returns-clause-no_document c = no_document_told

pub returns-clause-no_wires : goal.returns-clause-no_wires
returns-clause-no_wires c = no_wires_told

pub returns-clause-third_key : goal.returns-clause-third_key
returns-clause-third_key c = third_key_told

pub returns-clause-one_text : goal.returns-clause-one_text
returns-clause-one_text c = one_text_told

pub returns-clause-no_parts : goal.returns-clause-no_parts
returns-clause-no_parts c = no_parts_told

pub returns-clause-nine_parts : goal.returns-clause-nine_parts
returns-clause-nine_parts c = nine_parts_told

pub returns-clause-keyword_name : goal.returns-clause-keyword_name
returns-clause-keyword_name c = keyword_told

pub returns-clause-underscore_name : goal.returns-clause-underscore_name
returns-clause-underscore_name c = underscore_told

pub returns-clause-name_twice : goal.returns-clause-name_twice
returns-clause-name_twice c = twice_told
