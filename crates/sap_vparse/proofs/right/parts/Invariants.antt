use Rattle.std.proofs.Common.{◌≡◌, ◌≤◌, ◌++◌, List, length}
use Rattle.sap_vtext.specs.Grammar.{AreParts}
use Rattle.sap_vtext.specs.Items.{Operand}
use Rattle.sap_vtext.specs.Tokens.{Token}
use Rattle.sap_vparse.specs.Reading.{reads}
use Rattle.sap_vparse.specs.Table as s
use Rattle.sap_vparse.specs.Views.{operands_of}
use Rattle.sap_vparse.proofs.right.parts.Given as goal

abbrev pub invariant-parts : goal.invariant-parts
invariant-parts l = record {
  goes : reads s.parts l.fn.tokens ≡ reads s.parts l.tokens;
  tree : (xs : List Operand) (m : List Token) → AreParts l.tokens xs m
      → (ys : List Operand) × (operands_of l.list.items ++ xs ≡ operands_of l.fn.list.items ++ ys) × AreParts l.fn.tokens ys m;
  no_longer : length l.tokens ≤ length l.fn.tokens;
}

abbrev pub decreases-parts : goal.decreases-parts
decreases-parts l = length l.tokens
