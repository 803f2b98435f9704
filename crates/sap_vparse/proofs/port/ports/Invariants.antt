use Rattle.std.proofs.Common.{◌≡◌, ◌≤◌, ◌++◌, List, length}
use Rattle.sap_vtext.specs.Grammar.{ArePorts}
use Rattle.sap_vtext.specs.Items.{Port}
use Rattle.sap_vtext.specs.Tokens.{Token}
use Rattle.sap_vparse.specs.Reading.{reads}
use Rattle.sap_vparse.specs.Table as s
use Rattle.sap_vparse.specs.Views.{ports_of}
use Rattle.sap_vparse.proofs.port.ports.Given as goal

abbrev pub invariant-ports : goal.invariant-ports
invariant-ports l = record {
  goes : reads s.ports l.fn.tokens ≡ reads s.ports l.tokens;
  tree : (ps : List Port) (m : List Token) → ArePorts l.tokens ps m → ArePorts l.fn.tokens (ports_of l.list.items ++ ps) m;
  no_longer : length l.tokens ≤ length l.fn.tokens;
}

abbrev pub decreases-ports : goal.decreases-ports
decreases-ports l = length l.tokens
