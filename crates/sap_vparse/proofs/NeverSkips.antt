-- No token leaves a symbol of the table out.
use Rattle.sap_lemmas.proofs.Common.{◌≢◌, ℕ, List, [], ◌∷◌, Bool, true, false, subst, eqb, ◌&&◌, bytes_eq}
use Rattle.sap_vtext.specs.Lexing.{sign_text, word_text}
use Rattle.sap_vtext.specs.Tokens as t
use Rattle.sap_vparse.specs.Table as s
use Rattle.sap_vparse.specs.Table.{Symbol, Row, next}
use Rattle.sap_walk.specs.Rows.{push}
use Rattle.sap_walk.specs.Walk.{begins, empty_here, cannot_stand}

-- a row that leaves nothing out
abbrev Full : Row → Type 0
Full (begins role σ) = Unit {0}
Full empty_here = ⊥
Full cannot_stand = Unit {0}

push_full : (n : Row) (σ : List Symbol) → Full n → Full (push n σ)
push_full (begins role ρ) σ h = tt
push_full empty_here σ h = h
push_full cannot_stand σ h = tt

same_full : (b : Bool) → Full (s.if_same b)
same_full true = tt
same_full false = tt

sign_full : (j : t.Sign) (k : t.Kind) → Full (s.sign_next j k)
sign_full j (t.sign x) = same_full (bytes_eq (sign_text x) (sign_text j))
sign_full j _ = tt

word_full : (j : t.Word) (k : t.Kind) → Full (s.word_next j k)
word_full j (t.word x) = same_full (bytes_eq (word_text x) (word_text j))
word_full j _ = tt

digit_full : (j : ℕ) (k : t.Kind) → Full (s.digit_next j k)
digit_full j (t.number n digits) = same_full (eqb n j && eqb digits 1)
digit_full j _ = tt

loop_full : (k : t.Kind) → Full (s.loop_next k)
loop_full k = push_full (s.word_next t.for_word k) _ (word_full t.for_word k)

cells_full : (k : t.Kind) → Full (s.cells_next k)
cells_full k = push_full (s.loop_next k) _ (loop_full k)

write_full : (k : t.Kind) → Full (s.write_next k)
write_full k = push_full (s.word_next t.if_word k) _ (word_full t.if_word k)

clocked_full : (k : t.Kind) → Full (s.clocked_next k)
clocked_full k = push_full (s.word_next t.always_word k) _ (word_full t.always_word k)

item_full : (k : t.Kind) → Full (s.item_next k)
item_full (t.word t.wire_word) = tt
item_full (t.word t.reg_word) = tt
item_full (t.word t.integer_word) = tt
item_full (t.word t.assign_word) = tt
item_full (t.word t.initial_word) = tt
item_full k = push_full (s.clocked_next k) (s.after_clock ∷ []) (clocked_full k)

full : (x : Symbol) (k : t.Kind) → Full (next x k)
full (s.sign j) k = sign_full j k
full (s.word j) k = word_full j k
full (s.digit j) k = digit_full j k
full s.range k = push_full (s.sign_next t.open_bracket k) _ (sign_full t.open_bracket k)
full s.loop k = loop_full k
full s.clocked k = clocked_full k
full s.item k = item_full k
full s.file k = push_full (s.word_next t.module_word k) _ (word_full t.module_word k)
full s.after_initial (t.name n) = tt
full s.after_initial k = cells_full k
full s.after_clock (t.name n) = tt
full s.after_clock k = write_full k
full s.items (t.word t.endmodule_word) = tt
full s.items k = push_full (s.item_next k) (s.items ∷ []) (item_full k)
full s.name (t.name n) = tt
full s.number (t.number n digits) = tt
full s.constant (t.constant width n) = tt
full s.operand (t.name n) = tt
full s.output_kind (t.word t.reg_word) = tt
full s.port (t.word t.input_word) = tt
full s.ports (t.sign t.comma) = tt
full s.parts (t.sign t.comma) = tt
full s.right (t.sign t.tilde) = tt
full s.after_operand (t.sign t.semicolon) = tt
full s.after_name (t.sign t.open_bracket) = tt
full s.after_bracket (t.number n digits) = tt
full s.after_register (t.sign t.semicolon) = tt
full _ _ = tt

-- no token leaves a symbol out
pub never_skips : (x : Symbol) (k : t.Kind) → next x k ≢ empty_here
never_skips x k e = subst Full e (full x k)
