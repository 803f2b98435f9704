-- Symbols by the rows of symbols that functions of the reader take at once.
use Rattle.std.proofs.Common.{◌≡◌, List, [], ◌∷◌, ◌++◌, false, refl, ◌∙◌}
use Rattle.sap_parse.specs.Reading.{ahead, reads, second, steps_by, strictly}
use Rattle.sap_parse.specs.Rows.{asked_row, between_row, last_number_row, range_row, reads_row}
use Rattle.sap_parse.specs.Stages.{Stage}
use Rattle.sap_parse.specs.Table as s
use Rattle.sap_parse.specs.Table.{Symbol, may_be_empty, next}
use Rattle.sap_parse.specs.declared.cursor.Ahead.TheVariants as a
use Rattle.sap_parse.specs.declared.role.Role.TheVariants as r
use Rattle.sap_lex.specs.declared.token.Kind.{Kind}
use Rattle.sap_lex.specs.declared.token.Sign.TheVariants as j
use Rattle.sap_tree.specs.declared.word.Word.TheVariants as w
use Rattle.sap_parse.proofs.IndexLaws.{bracket_slice}
use Rattle.sap_parse.proofs.Laws.{sign_then, sign_there, step, steps_append, word_then}
use Rattle.sap_walk.specs.Rows.{push}
use Rattle.sap_walk.specs.Walk.{◌>>=◌}
use Rattle.sap_walk.proofs.Walking.{bind_same}

pub row_steps : (σ : List Symbol) (p : Stage) → reads_row σ p ≡ steps_by strictly σ p
unfolding reads_row
row_steps σ p = refl

pub row_more : (x : Symbol) (σ : List Symbol) (p : Stage) → reads_row (x ∷ σ) p ≡ (reads x p >>= reads_row σ)
unfolding reads_row
row_more x σ p = refl

-- a row, and what comes behind it
pub row_then : (σ τ : List Symbol) (p : Stage) → steps_by strictly (σ ++ τ) p ≡ (reads_row σ p >>= steps_by strictly τ)
unfolding reads_row
row_then = steps_append strictly

-- two rows, one behind the other
pub row_row : (σ τ : List Symbol) (p : Stage) → steps_by strictly (σ ++ τ) p ≡ (reads_row σ p >>= reads_row τ)
unfolding reads_row
row_row σ τ p = row_then σ τ p

-- a symbol, and two rows
pub first_row_row : (x : Symbol) (σ τ : List Symbol) (p : Stage) → steps_by strictly (x ∷ (σ ++ τ)) p ≡ (reads x p >>= λ q. (reads_row σ q >>= reads_row τ))
first_row_row x σ τ p = bind_same (reads x p) (steps_by strictly (σ ++ τ)) (λ q. (reads_row σ q >>= reads_row τ)) (row_row σ τ)

-- a symbol that begins with a row, and what comes behind it
pub row_first : (x y : Symbol) (σ τ : List Symbol) → ((i : Kind) → next x i ≡ push (next y i) (σ ++ τ)) → may_be_empty x ≡ false → may_be_empty y ≡ false
    → (p : Stage) → reads x p ≡ (reads_row (y ∷ σ) p >>= steps_by strictly τ)
row_first x y σ τ h e e' p = step strictly x y (σ ++ τ) h e e' p ∙ row_then (y ∷ σ) τ p

-- what stands in a row behind its first symbol
abbrev pub rest : List Symbol → List Symbol
rest [] = []
rest (x ∷ σ) = σ

pub paren_row : (p : Stage) → reads s.paren p ≡ reads_row (between_row r.Opening j.OpenParen r.Closing j.CloseParen) p
unfolding reads_row
paren_row = sign_then strictly s.paren r.Opening j.OpenParen (s.expr ∷ s.sign r.Closing j.CloseParen ∷ []) (λ i. refl) refl

pub choice_row : (p : Stage) → ahead p.left ≡ a.Sign j.Question
    → reads s.choice p ≡ (reads_row (between_row r.Inner j.Question r.Inner j.Colon) p >>= steps_by strictly (s.expr ∷ []))
choice_row p e = sign_there strictly s.choice r.Inner j.Question (rest (between_row r.Inner j.Question r.Inner j.Colon) ++ s.expr ∷ []) (λ i. refl) p e
    ∙ row_then (between_row r.Inner j.Question r.Inner j.Colon) (s.expr ∷ []) p

pub zext_row : (p : Stage)
    → reads s.zext p ≡ (reads (s.word r.Inner w.Zext) p >>= λ q. (reads_row (between_row r.Opening j.OpenParen r.Inner j.Comma) q >>= reads_row (last_number_row j.CloseParen)))
zext_row p =
    word_then strictly s.zext r.Inner w.Zext (between_row r.Opening j.OpenParen r.Inner j.Comma ++ last_number_row j.CloseParen) (λ i. refl) refl p
    ∙ first_row_row (s.word r.Inner w.Zext) (between_row r.Opening j.OpenParen r.Inner j.Comma) (last_number_row j.CloseParen) p

pub braces_row : (p : Stage)
    → reads s.braces p ≡ (reads_row (between_row r.Opening j.OpenBrace r.Inner j.Comma) p >>= steps_by strictly (s.expr ∷ s.parts ∷ s.sign r.Closing j.CloseBrace ∷ []))
braces_row = row_first s.braces (s.sign r.Opening j.OpenBrace) (rest (between_row r.Opening j.OpenBrace r.Inner j.Comma))
    (s.expr ∷ s.parts ∷ s.sign r.Closing j.CloseBrace ∷ []) (λ i. refl) refl refl

pub range_steps : (p : Stage) → reads_row range_row p ≡ (reads (s.number r.Inner) p >>= λ q. (reads (s.sign r.Inner j.Colon) q >>= reads_row (last_number_row j.CloseBracket)))
unfolding reads_row
range_steps p = refl

pub bounds_row : (p : Stage) → reads s.slice p ≡ (reads (s.sign r.Opening j.OpenBracket) p >>= reads_row range_row)
unfolding reads_row
bounds_row = sign_then strictly s.slice r.Opening j.OpenBracket range_row (λ i. refl) refl

pub bracket_row : (p : Stage) → ahead p.left ≡ a.Number → second p.left ≡ a.Sign j.Colon → reads s.behind_bracket p ≡ (reads_row range_row p >>= steps_by strictly (s.slices ∷ []))
bracket_row p e f = bracket_slice strictly p e f ∙ row_then range_row (s.slices ∷ []) p

pub tag_of_row : (p : Stage) → reads s.tag_of p ≡ reads_row (asked_row r.Inner w.Tag r.Opening r.Closing) p
unfolding reads_row
tag_of_row = word_then strictly s.tag_of r.Inner w.Tag (rest (asked_row r.Inner w.Tag r.Opening r.Closing)) (λ i. refl) refl

pub level_at_row : (p : Stage) → reads s.level_at p ≡ reads_row (asked_row r.Inner w.Level r.Opening r.Closing) p
unfolding reads_row
level_at_row = word_then strictly s.level_at r.Inner w.Level (rest (asked_row r.Inner w.Level r.Opening r.Closing)) (λ i. refl) refl
