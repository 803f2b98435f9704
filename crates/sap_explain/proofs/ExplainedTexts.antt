-- A text that is comment lines and then the text of a module is explained by them.
use Rattle.sap_lemmas.proofs.Common.{◌≡◌, ℕ, List, ◌++◌, sym, subst}
use Rattle.sap_net.specs.Net.{Net}
use Rattle.sap_vtext.specs.Modules.{IsModule}
use Rattle.sap_explain.specs.Comments.{AreCommentLines, CommentsChangeNothing}
use Rattle.sap_explain.specs.Explained.{IsExplained}

pub explained_by : (lines plain text : List ℕ) → CommentsChangeNothing → AreCommentLines lines → text ≡ lines ++ plain → (net : Net) → IsModule plain net → IsExplained lines text net
explained_by lines plain text nothing are parts net is = record {
  plain = plain;
  parts = parts;
  is_module = is;
  same = subst (λ (t : List ℕ). IsModule t net) (sym parts) ((nothing lines plain net are).1 is);
}
