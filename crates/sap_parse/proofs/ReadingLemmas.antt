-- On what stands in Reading: what several crates cite.
use Rattle.std.proofs.Common.{Ok, ◌≡◌}
use Rattle.sap_parse.specs.Reading.{Outcome}
use Rattle.sap_parse.specs.Stages.{Stage}

pub ok_one : {a b : Stage} (o : Outcome) → o ≡ Ok a → o ≡ Ok b → a ≡ b
ok_one o e f = cc
