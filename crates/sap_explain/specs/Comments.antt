-- Comment lines before the text of a module.
use Rattle.std.specs.Prelude.{◌≡◌, ◌↔◌, true, ℕ, List, [], ◌++◌, codes}
use Rattle.std.specs.List.{list_all}
use Rattle.sap_text.specs.Blanks.{is_in_line}
use Rattle.sap_text.specs.Places.{line}
use Rattle.sap_net.specs.Net.{Net}
use Rattle.sap_vtext.specs.Modules.{IsModule}

-- A line that is a comment: it begins with `//`, ends with LF and has no other LF.
pub record IsCommentLine (text : List ℕ) : Type 0 where
  pub rest : List ℕ
  pub in_line : list_all is_in_line rest ≡ true
  pub parts : text ≡ line (codes "//" ++ rest)

-- Comment lines, one after another.
pub data AreCommentLines : List ℕ → Type 0 where
  no_line : AreCommentLines []
  and_line : {first others : List ℕ} → IsCommentLine first → AreCommentLines others → AreCommentLines (first ++ others)

-- Comment lines before a text change nothing: it is the text of a module exactly where it is that without them.
abbrev pub CommentsChangeNothing : Type 0
CommentsChangeNothing =
    (comments text : List ℕ) (net : Net) → AreCommentLines comments → IsModule (comments ++ text) net ↔ IsModule text net
