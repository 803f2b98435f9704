-- What the symbols of items read, by the symbols of their productions.
use Rattle.std.proofs.Common.{◌≡◌, ◌≢◌, List, [], ◌∷◌, Ok, Err, refl, ap, ◌∙◌}
use Rattle.sap_vtext.specs.Tokens as t
use Rattle.sap_vparse.specs.Choices.{item_head}
use Rattle.sap_vparse.specs.Reading.{plain, head, head_of, of_name, of_nothing, of_sign, of_word, reads, steps}
use Rattle.sap_vparse.specs.Table as s
use Rattle.sap_vparse.specs.Table.{Row, grammar, next}
use Rattle.sap_vparse.specs.declared.choice.ItemHead.TheVariants as i
use Rattle.sap_vparse.specs.declared.choice.ItemHead.{ItemHead}
use Rattle.sap_walk.specs.Rows.{push}
use Rattle.sap_walk.proofs.Walking.{read_empty}
use Rattle.sap_vparse.proofs.Single.{reads_stop}
use Rattle.sap_vparse.proofs.Laws.{name_first, same_with, sign_first, step_with, word_first}

-- items, by what the reader chooses

abbrev item_row : ItemHead → t.Kind → Row
item_row i.Wire k = push (next (s.word t.wire_word) k) (s.range ∷ s.name ∷ s.sign t.semicolon ∷ [])
item_row i.Register k = push (next (s.word t.reg_word) k) (s.range ∷ s.name ∷ s.after_register ∷ [])
item_row i.Integer k = push (next (s.word t.integer_word) k) (s.word t.i_word ∷ s.sign t.semicolon ∷ [])
item_row i.Assign k = push (next (s.word t.assign_word) k) (s.name ∷ s.sign t.is ∷ s.right ∷ [])
item_row i.Initial k = push (next (s.word t.initial_word) k) (s.after_initial ∷ [])
item_row i.Always k = push (next s.clocked k) (s.after_clock ∷ [])

item_rows : (k : t.Kind) → next s.item k ≡ item_row (item_head (head_of k)) k
unfolding item_head
item_rows (t.word t.wire_word) = refl
item_rows _ = refl

item_chosen : {x : ItemHead} (k : t.Kind) → item_head (head_of k) ≡ x → next s.item k ≡ item_row x k
item_chosen k e = item_rows k ∙ ap (λ x. item_row x k) e

pub item_wire : (p : List t.Token) → item_head (head p) ≡ i.Wire → reads s.item p ≡ steps (s.word t.wire_word ∷ s.range ∷ s.name ∷ s.sign t.semicolon ∷ []) p
item_wire p e = step_with s.item (s.word t.wire_word) _ (λ h. item_head h ≡ i.Wire) refl refl item_chosen p e

pub item_register : (p : List t.Token) → item_head (head p) ≡ i.Register
    → reads s.item p ≡ steps (s.word t.reg_word ∷ s.range ∷ s.name ∷ s.after_register ∷ []) p
item_register p e = step_with s.item (s.word t.reg_word) _ (λ h. item_head h ≡ i.Register) refl refl item_chosen p e

pub item_integer : (p : List t.Token) → item_head (head p) ≡ i.Integer
    → reads s.item p ≡ steps (s.word t.integer_word ∷ s.word t.i_word ∷ s.sign t.semicolon ∷ []) p
item_integer p e = step_with s.item (s.word t.integer_word) _ (λ h. item_head h ≡ i.Integer) refl refl item_chosen p e

pub item_assign : (p : List t.Token) → item_head (head p) ≡ i.Assign → reads s.item p ≡ steps (s.word t.assign_word ∷ s.name ∷ s.sign t.is ∷ s.right ∷ []) p
item_assign p e = step_with s.item (s.word t.assign_word) _ (λ h. item_head h ≡ i.Assign) refl refl item_chosen p e

pub item_initial : (p : List t.Token) → item_head (head p) ≡ i.Initial → reads s.item p ≡ steps (s.word t.initial_word ∷ s.after_initial ∷ []) p
item_initial p e = step_with s.item (s.word t.initial_word) _ (λ h. item_head h ≡ i.Initial) refl refl item_chosen p e

pub item_always : (p : List t.Token) → item_head (head p) ≡ i.Always → reads s.item p ≡ steps (s.clocked ∷ s.after_clock ∷ []) p
item_always p e = step_with s.item s.clocked _ (λ h. item_head h ≡ i.Always) refl refl item_chosen p e

-- the rest of items

pub register_end : (p : List t.Token) → head p ≢ of_sign t.open_bracket → reads s.after_register p ≡ reads (s.sign t.semicolon) p
register_end p e = same_with s.after_register (s.sign t.semicolon) (λ h. h ≢ of_sign t.open_bracket) refl refl by_kind p e where
  by_kind : (k : t.Kind) → head_of k ≢ of_sign t.open_bracket → next s.after_register k ≡ push (next (s.sign t.semicolon) k) []
  by_kind (t.sign t.open_bracket) e = absurd (e refl)
  by_kind _ e = refl

pub register_memory : (p : List t.Token) → head p ≡ of_sign t.open_bracket
    → reads s.after_register p ≡ steps (s.sign t.open_bracket ∷ s.digit 0 ∷ s.sign t.colon ∷ s.number ∷ s.sign t.close_bracket ∷ s.sign t.semicolon ∷ []) p
register_memory p e = sign_first s.after_register t.open_bracket _ refl refl p e

pub initial_start : (p : List t.Token) → head p ≡ of_name → reads s.after_initial p ≡ steps (s.name ∷ s.sign t.is ∷ s.constant ∷ s.sign t.semicolon ∷ []) p
initial_start p e = name_first s.after_initial _ refl (λ n. refl) p e

pub initial_cells : (p : List t.Token) → head p ≢ of_name
    → reads s.after_initial p ≡ steps (s.loop ∷ s.name ∷ s.sign t.open_bracket ∷ s.word t.i_word ∷ s.sign t.close_bracket ∷ s.sign t.is ∷ s.constant ∷ s.sign t.semicolon
    ∷ []) p
initial_cells p e = step_with s.after_initial s.loop _ (λ h. h ≢ of_name) refl refl by_kind p e where
  by_kind : (k : t.Kind) → head_of k ≢ of_name → next s.after_initial k ≡ push (next s.loop k) (s.name ∷ s.sign t.open_bracket ∷ s.word t.i_word ∷ s.sign t.close_bracket
      ∷ s.sign t.is ∷ s.constant ∷ s.sign t.semicolon ∷ [])
  by_kind (t.name n) e = absurd (e refl)
  by_kind _ e = refl

pub clock_update : (p : List t.Token) → head p ≡ of_name
    → reads s.after_clock p ≡ steps (s.name ∷ s.sign t.less_or_equal ∷ s.operand ∷ s.sign t.semicolon ∷ []) p
clock_update p e = name_first s.after_clock _ refl (λ n. refl) p e

pub clock_write : (p : List t.Token) → head p ≢ of_name
    → reads s.after_clock p ≡ steps (s.word t.if_word ∷ s.sign t.open_paren ∷ s.operand ∷ s.sign t.close_paren ∷ s.name ∷ s.sign t.open_bracket ∷ s.operand
    ∷ s.sign t.close_bracket ∷ s.sign t.less_or_equal ∷ s.operand ∷ s.sign t.semicolon ∷ []) p
clock_write p e = step_with s.after_clock (s.word t.if_word) _ (λ h. h ≢ of_name) refl refl by_kind p e where
  by_kind : (k : t.Kind) → head_of k ≢ of_name → next s.after_clock k ≡ push (next (s.word t.if_word) k) (s.sign t.open_paren ∷ s.operand ∷ s.sign t.close_paren ∷ s.name
      ∷ s.sign t.open_bracket ∷ s.operand ∷ s.sign t.close_bracket ∷ s.sign t.less_or_equal ∷ s.operand ∷ s.sign t.semicolon ∷ [])
  by_kind (t.name n) e = absurd (e refl)
  by_kind _ e = refl

pub items_more : (p : List t.Token) → head p ≢ of_word t.endmodule_word → reads s.items p ≡ steps (s.item ∷ s.items ∷ []) p
items_more p e = step_with s.items s.item _ (λ h. h ≢ of_word t.endmodule_word) refl refl by_kind p e where
  by_kind : (k : t.Kind) → head_of k ≢ of_word t.endmodule_word → next s.items k ≡ push (next s.item k) (s.items ∷ [])
  by_kind (t.word t.endmodule_word) e = absurd (e refl)
  by_kind _ e = refl

pub items_end : (p : List t.Token) → head p ≡ of_word t.endmodule_word → reads s.items p ≡ steps (s.word t.endmodule_word ∷ s.end ∷ []) p
items_end p e = word_first s.items t.endmodule_word _ refl refl p e

pub end_there : reads s.end [] ≡ Ok []
unfolding reads
end_there = ap plain (read_empty grammar s.end tt refl)

pub end_other : (p : List t.Token) → head p ≢ of_nothing → reads s.end p ≡ Err p
unfolding head
end_other [] ne = absurd (ne refl)
end_other (x ∷ ts) ne = reads_stop s.end x ts refl
