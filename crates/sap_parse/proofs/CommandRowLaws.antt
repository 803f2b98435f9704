-- Symbols of commands by the rows of symbols that functions of the reader take at once.
use Rattle.std.proofs.Common.{◌≡◌, ◌≢◌, ◌+◌, ◌++◌, ℕ, [], ◌∷◌, refl, sym, ap, ◌∙◌}
use Rattle.sap_parse.specs.Choices.{command_head}
use Rattle.sap_parse.specs.CommandRows.{arms_row, behind_row, constants_row, new_tag_row, new_value_row, tag_place_row}
use Rattle.sap_parse.specs.Reading.{ahead, reads, steps_by, strictly}
use Rattle.sap_parse.specs.Rows.{asked_row, between_row, reads_row}
use Rattle.sap_parse.specs.Stages.{Stage}
use Rattle.sap_parse.specs.Table as s
use Rattle.sap_parse.specs.declared.choice.CommandHead.TheVariants as h
use Rattle.sap_parse.specs.declared.cursor.Ahead.TheVariants as a
use Rattle.sap_parse.specs.declared.cursor.Ahead.{Ahead}
use Rattle.sap_parse.specs.declared.role.Role.TheVariants as r
use Rattle.sap_lex.specs.declared.token.Sign.TheVariants as j
use Rattle.sap_tree.specs.declared.word.Word.TheVariants as w
use Rattle.sap_parse.proofs.CommandLaws.{cell_part_missing, simple_name, target_assign, target_write}
use Rattle.sap_parse.proofs.Laws.{at_word, sign_there, word_there}
use Rattle.sap_parse.proofs.RowLaws.{rest, row_first, row_row, row_then}
use Rattle.sap_walk.specs.Walk.{◌>>=◌}
use Rattle.sap_walk.proofs.Walking.{bind_pure, bind_same}

pub cell_row : (p : Stage) → ahead p.left ≡ a.Sign j.OpenBracket → reads s.cell_part p ≡ reads_row (between_row r.Plain j.OpenBracket r.Plain j.CloseBracket) p
unfolding reads_row
cell_row = sign_there strictly s.cell_part r.Plain j.OpenBracket (rest (between_row r.Plain j.OpenBracket r.Plain j.CloseBracket)) (λ i. refl)

-- an index where one is written, and the new value
target_parts : (p : Stage) → reads s.target p ≡ (reads s.cell_part p >>= reads_row new_value_row)
unfolding reads_row
target_parts p = by_ahead (ahead p.left) refl where
  missing : (x : Ahead) → ahead p.left ≡ x → x ≢ a.Sign j.OpenBracket → reads s.target p ≡ (reads s.cell_part p >>= reads_row new_value_row)
  missing x e ne =
      target_assign strictly p (λ same. ne (sym e ∙ same)) ∙ sym (ap (λ o. o >>= reads_row new_value_row) (cell_part_missing strictly p (λ same. ne (sym e ∙ same))))

  by_ahead : (x : Ahead) → ahead p.left ≡ x → reads s.target p ≡ (reads s.cell_part p >>= reads_row new_value_row)
  by_ahead (a.Sign j.OpenBracket) e =
      target_write strictly p e ∙ row_then (between_row r.Plain j.OpenBracket r.Plain j.CloseBracket) new_value_row p
      ∙ sym (ap (λ o. o >>= reads_row new_value_row) (cell_row p e))
  by_ahead _ e = missing _ e (λ same. absurd (cc))

pub assign_rows : (depth : ℕ) (p : Stage) → command_head (ahead p.left) ≡ h.Name
    → reads (s.simple depth) p ≡ (reads (s.any_name (r.Command depth)) p >>= λ q. (reads s.cell_part q >>= reads_row new_value_row))
assign_rows depth p e =
    simple_name strictly depth p e
    ∙ bind_same (reads (s.any_name (r.Command depth)) p) (steps_by strictly (s.target ∷ []))
    (λ q. (reads s.cell_part q >>= reads_row new_value_row)) (λ q. bind_pure (reads s.target q) ∙ target_parts q)

pub set_tag_rows : (depth : ℕ) (p : Stage) → reads (s.set_tag depth) p ≡ (reads_row (tag_place_row depth) p >>= λ q. (reads s.cell_part q >>= reads_row new_tag_row))
unfolding reads_row
set_tag_rows depth = row_first (s.set_tag depth) (s.word (r.Command depth) w.SetTag) (rest (tag_place_row depth)) (s.cell_part ∷ new_tag_row) (λ i. refl) refl refl

pub arm_rows : (depth : ℕ) (p : Stage) → reads (s.arm depth) p ≡ (reads_row constants_row p >>= steps_by strictly (s.block depth ∷ []))
arm_rows depth = row_first (s.arm depth) s.constant (rest constants_row) (s.block depth ∷ []) (λ i. refl) refl refl

pub if_rows : (depth : ℕ) (p : Stage)
    → reads (s.if_command depth) p ≡ (reads_row (asked_row (r.Command depth) w.If r.Plain r.Plain) p >>= steps_by strictly (s.block (depth + 1) ∷ s.else_part (depth + 1) ∷ []))
if_rows depth = row_first (s.if_command depth) (s.word (r.Command depth) w.If) (rest (asked_row (r.Command depth) w.If r.Plain r.Plain))
    (s.block (depth + 1) ∷ s.else_part (depth + 1) ∷ []) (λ i. refl) refl refl

pub case_rows : (depth : ℕ) (p : Stage) → reads (s.case_command depth) p ≡ (reads_row (asked_row (r.Command depth) w.Case r.Plain r.Plain) p >>= reads_row (arms_row (depth + 1)))
unfolding reads_row
case_rows depth = row_first (s.case_command depth) (s.word (r.Command depth) w.Case) (rest (asked_row (r.Command depth) w.Case r.Plain r.Plain))
    (arms_row (depth + 1)) (λ i. refl) refl refl

pub else_row : (depth : ℕ) (p : Stage) → ahead p.left ≡ a.Word w.Else → reads (s.else_part (depth + 1)) p ≡ reads_row (behind_row w.Else depth) p
unfolding reads_row
else_row depth = word_there strictly (s.else_part (depth + 1)) r.Plain w.Else (rest (behind_row w.Else depth)) (λ i. refl)

pub handled_row : (depth : ℕ) (p : Stage) → ahead p.left ≡ a.Word w.Otherwise → reads (s.ending depth) p ≡ reads_row (behind_row w.Otherwise depth) p
unfolding reads_row
handled_row depth = at_word strictly (s.ending depth) (s.word r.Plain w.Otherwise) (rest (behind_row w.Otherwise depth)) w.Otherwise refl refl

pub decided_rows : (depth : ℕ) (p : Stage) → ahead p.left ≡ a.Word w.Then
    → reads (s.ending depth) p ≡ (reads_row (behind_row w.Then depth) p >>= reads_row (behind_row w.Otherwise depth))
decided_rows depth p e =
    at_word strictly (s.ending depth) (s.word r.Plain w.Then) (rest (behind_row w.Then depth) ++ behind_row w.Otherwise depth) w.Then refl refl p e
    ∙ row_row (behind_row w.Then depth) (behind_row w.Otherwise depth) p
