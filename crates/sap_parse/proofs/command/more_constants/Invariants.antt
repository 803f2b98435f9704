use Rattle.std.proofs.Common.{◌≡◌, ◌≤◌, length}
use Rattle.sap_parse.specs.Grammar as g
use Rattle.sap_parse.specs.Joining.{join}
use Rattle.sap_parse.specs.Reading.{reads}
use Rattle.sap_parse.specs.Stages.{Stage}
use Rattle.sap_parse.specs.Table as s
use Rattle.sap_tree.specs.Prelude.{Expressions, expressions_of}
use Rattle.sap_parse.proofs.command.more_constants.Given as goal

abbrev pub invariant-constants : goal.invariant-constants
invariant-constants l = record {
  goes : reads s.constants l.fn.tokens ≡ reads s.constants l.tokens;
  tree : (ys : Expressions) (q : Stage) → g.Constants l.tokens ys q
      → (xs : Expressions) × (join (expressions_of l.constants.items) ys ≡ join (expressions_of l.fn.constants.items) xs) × g.Constants l.fn.tokens xs q;
  no_longer : length l.tokens.left ≤ length l.fn.tokens.left;
}

abbrev pub decreases-constants : goal.decreases-constants
decreases-constants l = length l.tokens.left
