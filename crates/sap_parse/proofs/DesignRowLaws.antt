-- Symbols of declarations and states by the rows of symbols that functions of the reader take at once.
use Rattle.std.proofs.Common.{◌≡◌, ◌+◌, ◌++◌, ℕ, [], ◌∷◌, refl, ◌∙◌}
use Rattle.sap_parse.specs.DesignRows.{all_states_row, cells_row, declared_row, head_row}
use Rattle.sap_parse.specs.Reading.{reads, steps_by, strictly}
use Rattle.sap_parse.specs.Rows.{reads_row}
use Rattle.sap_parse.specs.Stages.{Stage}
use Rattle.sap_parse.specs.Table as s
use Rattle.sap_parse.specs.Table.{design_symbols}
use Rattle.sap_parse.specs.declared.role.Role.TheVariants as r
use Rattle.sap_lex.specs.declared.token.Sign.TheVariants as j
use Rattle.sap_tree.specs.declared.word.Word.TheVariants as w
use Rattle.sap_parse.proofs.Laws.{read_if}
use Rattle.sap_parse.proofs.RowLaws.{rest, row_first, row_then}
use Rattle.sap_walk.specs.Walk.{◌>>=◌}
use Rattle.sap_walk.proofs.Walking.{bind_same}

pub input_rows : (p : Stage) → reads s.input p ≡ (reads_row (declared_row r.Input w.Input) p >>= steps_by strictly (s.sign r.Plain j.Semicolon ∷ []))
input_rows = row_first s.input (s.word r.Input w.Input) (rest (declared_row r.Input w.Input)) (s.sign r.Plain j.Semicolon ∷ []) (λ i. refl) refl refl

pub register_rows : (p : Stage) → reads s.register p ≡ (reads_row (declared_row r.Register w.Reg) p >>= steps_by strictly (s.kind_of ∷ s.initial ∷ s.sign r.Plain j.Semicolon ∷ []))
register_rows = row_first s.register (s.word r.Register w.Reg) (rest (declared_row r.Register w.Reg))
    (s.kind_of ∷ s.initial ∷ s.sign r.Plain j.Semicolon ∷ []) (λ i. refl) refl refl

pub memory_rows : (p : Stage)
    → reads s.memory p ≡ (reads_row (declared_row r.Memory w.Mem) p >>= λ q. (reads_row cells_row q >>= steps_by strictly (s.kind_of ∷ s.sign r.Plain j.Semicolon ∷ [])))
memory_rows p =
    row_first s.memory (s.word r.Memory w.Mem) (rest (declared_row r.Memory w.Mem)) (cells_row ++ s.kind_of ∷ s.sign r.Plain j.Semicolon ∷ []) (λ i. refl) refl refl p
    ∙ bind_same (reads_row (declared_row r.Memory w.Mem) p) _ _ (row_then cells_row (s.kind_of ∷ s.sign r.Plain j.Semicolon ∷ []))

pub state_rows : (depth : ℕ) (p : Stage)
    → reads (s.state depth) p ≡ (reads_row (head_row depth) p >>= steps_by strictly (s.cmds 1 ∷ s.states (depth + 1) ∷ s.sign r.Plain j.CloseBrace ∷ []))
state_rows depth = row_first (s.state depth) (s.word (r.State depth) w.State) (rest (head_row depth))
    (s.cmds 1 ∷ s.states (depth + 1) ∷ s.sign r.Plain j.CloseBrace ∷ []) (λ i. refl) refl refl

pub design_rows : (p : Stage) → reads s.design p ≡ (reads s.header p >>= λ q. (reads s.declarations q >>= reads_row all_states_row))
unfolding reads_row
design_rows p = read_if strictly s.design design_symbols refl p (λ t ts left. refl)
