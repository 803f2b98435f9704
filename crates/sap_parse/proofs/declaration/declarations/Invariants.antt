use Rattle.std.proofs.Common.{◌≡◌, ◌≤◌, ◌++◌, List, length}
use Rattle.sap_parse.specs.Grammar as g
use Rattle.sap_parse.specs.Reading.{reads}
use Rattle.sap_parse.specs.Stages.{Stage}
use Rattle.sap_parse.specs.Table as s
use Rattle.sap_tree.specs.declared.syntax.Decl.{Decl}
use Rattle.sap_parse.proofs.declaration.declarations.Given as goal

abbrev pub invariant-declarations : goal.invariant-declarations
invariant-declarations l = record {
  goes : reads s.declarations l.fn.tokens ≡ reads s.declarations l.tokens;
  tree : (ys : List Decl) (q : Stage) → g.Declarations l.tokens ys q → g.Declarations l.fn.tokens (l.list.items ++ ys) q;
  no_longer : length l.tokens.left ≤ length l.fn.tokens.left;
}

abbrev pub decreases-declarations : goal.decreases-declarations
decreases-declarations l = length l.tokens.left
