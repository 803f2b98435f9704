-- The small program, computed.
use Rattle.std.proofs.Common.{◌≡◌, true, refl}
use Rattle.sap_net.specs.Names.{is_name}
use Rattle.sap_tree.specs.Words as words
use Rattle.sap_ir.specs.Test.{is_guarded}
use Rattle.sap_ir.specs.Plain.Nested.{seat_width}
use Rattle.sap_ir.specs.Plain.IsPlain.{IsPlain}
use Rattle.sap_ir.specs.Plain.Test.{is_plain}
use Rattle.sap_ir.specs.Plain.Examples.{Counts, counting}
use Rattle.sap_ir.proofs.plain.Tested.{plain_from}

pub counts : Counts
counts = refl

passes : is_plain counting ≡ true
unfolding is_plain is_guarded is_name words.is_name seat_width
passes = refl

pub is_program : IsPlain counting
is_program = plain_from counting passes
