use Rattle.std.proofs.Common.{◌≡◌, ◌++◌, List, length}
use Rattle.sap_vtext.specs.Grammar.{AreItems}
use Rattle.sap_vtext.specs.Items.{Item}
use Rattle.sap_vtext.specs.Tokens.{Token}
use Rattle.sap_vparse.specs.Reading.{reads}
use Rattle.sap_vparse.specs.Table as s
use Rattle.sap_vparse.specs.Views.{items_of}
use Rattle.sap_vparse.proofs.file.items.Given as goal

abbrev pub invariant-items : goal.invariant-items
invariant-items l = record {
  goes : reads s.items l.fn.tokens ≡ reads s.items l.tokens;
  tree : (xs : List Item) (m : List Token) → AreItems l.tokens xs m → AreItems l.fn.tokens (items_of l.list.items ++ xs) m;
}

abbrev pub decreases-items : goal.decreases-items
decreases-items l = length l.tokens
