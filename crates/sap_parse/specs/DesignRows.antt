-- Rows of symbols in declarations and states that functions of the reader take at once, and what stands between their
-- stages.
use Rattle.std.specs.Prelude.{ℕ, List, [], ◌∷◌}
use Rattle.sap_parse.specs.Grammar as g
use Rattle.sap_parse.specs.Stages.{Stage, IsName, IsNumber, IsSign, IsWord, here, mention, numeral}
use Rattle.sap_parse.specs.Table as u
use Rattle.sap_parse.specs.Table.{Symbol}
use Rattle.sap_parse.specs.declared.role.Role.TheVariants as r
use Rattle.sap_parse.specs.declared.role.Role.{Role}
use Rattle.sap_lex.specs.declared.token.Sign.TheVariants as s
use Rattle.sap_text.specs.declared.place.Place.{Place}
use Rattle.sap_tree.specs.Syntax as t
use Rattle.sap_tree.specs.declared.name.Mention.{Mention}
use Rattle.sap_tree.specs.declared.syntax.Kind.{Kind}
use Rattle.sap_tree.specs.declared.syntax.Numeral.{Numeral}
use Rattle.sap_tree.specs.declared.word.Word.TheVariants as w
use Rattle.sap_tree.specs.declared.word.Word.{Word}

-- the word of a declaration, a name, `:` and a width, with the places

-- The symbols of a declaration up to its width.
abbrev pub declared_row : Role → Word → List Symbol
declared_row role word = u.word role word ∷ u.any_name r.Plain ∷ u.sign r.Plain s.Colon ∷ u.number r.Plain ∷ []

-- The text between two stages is the front of a declaration: its keyword, name, colon and width.
pub data Declared (role : Role) (word : Word) : Stage → Place → Mention → Numeral → Stage → Type 0 where
  declared : {p1 p2 p3 p4 q : Stage} {name : List ℕ} {width : ℕ} → IsWord p1 role word p2
      → IsName p2 r.Plain name p3 → IsSign p3 r.Plain s.Colon p4 → IsNumber p4 r.Plain width q
      → Declared role word p1 (here p1) (mention p2 name) (numeral p4 width) q

-- the number of cells in brackets, with its place

-- The symbols of a memory's number of cells, in brackets.
abbrev pub cells_row : List Symbol
cells_row = u.sign r.Plain s.OpenBracket ∷ u.number r.Plain ∷ u.sign r.Plain s.CloseBracket ∷ []

-- The text between two stages is a memory's number of cells, in brackets.
pub data Cells : Stage → Numeral → Stage → Type 0 where
  cells : {p1 p2 p3 q : Stage} {n : ℕ} → IsSign p1 r.Plain s.OpenBracket p2 → IsNumber p2 r.Plain n p3
      → IsSign p3 r.Plain s.CloseBracket q → Cells p1 (numeral p2 n) q

-- the word, the name and the kind of a state, and `{`, with the places

-- The symbols of a state up to its opening brace.
abbrev pub head_row : ℕ → List Symbol
head_row depth = u.word (r.State depth) w.State ∷ u.any_name r.Plain ∷ u.kind_of ∷ u.sign r.Plain s.OpenBrace ∷ []

-- The text between two stages is the front of a state: its keyword, name, kind and opening brace.
pub data Head (depth : ℕ) : Stage → Place → Mention → Kind → Stage → Type 0 where
  head : {p1 p2 p3 p4 q : Stage} {name : List ℕ} {kind : Kind} → IsWord p1 (r.State depth) w.State p2
      → IsName p2 r.Plain name p3
      → g.KindOf p3 kind p4 → IsSign p4 r.Plain s.OpenBrace q
      → Head depth p1 (here p1) (mention p2 name) kind q

-- the top-level states

-- The symbols of all top-level states, of which there is at least one.
abbrev pub all_states_row : List Symbol
all_states_row = u.state 1 ∷ u.last_states ∷ []

-- The text between two stages is all top-level states, of which there is at least one.
pub data AllStates : Stage → t.StateList → Stage → Type 0 where
  all_states : {p1 p2 q : Stage} {x : t.StateTree} {xs : t.StateList} → g.State 1 p1 x p2
      → g.States 1 p2 xs q → AllStates p1 (t.and_state x xs) q
