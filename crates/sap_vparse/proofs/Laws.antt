-- What each symbol of the table reads, by the symbols of its production.
use Rattle.std.proofs.Common.{◌≡◌, ◌≢◌, ℕ, List, [], ◌∷◌, ◌++◌, false, refl, sym, ap, ◌∙◌}
use Rattle.sap_bits.specs.declared.Op1.{Op1}
use Rattle.sap_bits.specs.declared.Op2.{Op2}
use Rattle.sap_vtext.specs.Grammar.{binary_sign, unary_sign}
use Rattle.sap_vtext.specs.Tokens as t
use Rattle.sap_vparse.specs.Choices.{after_head, right_head}
use Rattle.sap_vparse.specs.Reading.{Head, head, head_of, of_name, of_number, of_sign, of_word, reads, steps}
use Rattle.sap_vparse.specs.Table as s
use Rattle.sap_vparse.specs.Table.{Symbol, Row, first, may_be_empty, next}
use Rattle.sap_vparse.specs.declared.choice.AfterHead.TheVariants as a
use Rattle.sap_vparse.specs.declared.choice.AfterHead.{AfterHead}
use Rattle.sap_vparse.specs.declared.choice.RightHead.TheVariants as r
use Rattle.sap_vparse.specs.declared.choice.RightHead.{RightHead}
use Rattle.sap_walk.specs.Rows.{push}
use Rattle.sap_walk.specs.Walk.{begins, empty_here, cannot_stand, ◌>>=◌}
use Rattle.sap_walk.proofs.Walking.{bind_bind, bind_pure, bind_same}
use Rattle.sap_vparse.proofs.Single.{kind_of_sign, kind_of_word, next_sign, next_word, reads_first, reads_none, reads_stop}
use Rattle.sap_vparse.proofs.NeverSkips.{never_skips}

-- a symbol that begins with another, where the front is known to be so

steps_append : (σ τ : List Symbol) (p : List t.Token) → steps (σ ++ τ) p ≡ (steps σ p >>= steps τ)
steps_append [] τ p = refl
steps_append (x ∷ σ) τ p = bind_same (reads x p) (steps (σ ++ τ)) (λ q. steps σ q >>= steps τ) (steps_append σ τ) ∙ sym (bind_bind (reads x p) (steps σ) (steps τ))

pub step_with : (x y : Symbol) (σ : List Symbol) (P : Head → Type 0) → may_be_empty x ≡ false → may_be_empty y ≡ false
    → ((k : t.Kind) → P (head_of k) → next x k ≡ push (next y k) σ) → (p : List t.Token) → P (head p) → reads x p ≡ steps (y ∷ σ) p
unfolding head
step_with x y σ P full full' row [] h = reads_none x full ∙ ap (λ o. o >>= steps σ) (sym (reads_none y full'))
step_with x y σ P full full' row (z ∷ ts) h = by_next (next y z.kind) refl (row z.kind h) where
  by_next : (n : Row) → next y z.kind ≡ n → next x z.kind ≡ push (next y z.kind) σ → reads x (z ∷ ts) ≡ (reads y (z ∷ ts) >>= steps σ)
  by_next (begins role ρ) e f =
      reads_first x z ts (ρ ++ σ) (f ∙ ap (λ n. push n σ) e) ∙ steps_append ρ σ ts ∙ ap (λ o. o >>= steps σ) (sym (reads_first y z ts ρ e))
  by_next empty_here e f = absurd (never_skips y z.kind e)
  by_next cannot_stand e f = reads_stop x z ts (f ∙ ap (λ n. push n σ) e) ∙ ap (λ o. o >>= steps σ) (sym (reads_stop y z ts e))

-- a symbol that is another one there
pub same_with : (x y : Symbol) (P : Head → Type 0) → may_be_empty x ≡ false → may_be_empty y ≡ false
    → ((k : t.Kind) → P (head_of k) → next x k ≡ push (next y k) []) → (p : List t.Token) → P (head p) → reads x p ≡ reads y p
same_with x y P full full' row p h = step_with x y [] P full full' row p h ∙ bind_pure (reads y p)

-- a symbol that the token at the front begins, and what is then to come

pub sign_first : (x : Symbol) (c : t.Sign) (σ : List Symbol) → may_be_empty x ≡ false → next x (t.sign c) ≡ first σ
    → (p : List t.Token) → head p ≡ of_sign c → reads x p ≡ steps (s.sign c ∷ σ) p
sign_first x c σ full row = step_with x (s.sign c) σ (λ h. h ≡ of_sign c) full refl by_kind where
  by_kind : (k : t.Kind) → head_of k ≡ of_sign c → next x k ≡ push (next (s.sign c) k) σ
  by_kind k e = let same = kind_of_sign k c e in ap (next x) same ∙ row ∙ ap (λ n. push n σ) (sym (next_sign c k same))

pub word_first : (x : Symbol) (c : t.Word) (σ : List Symbol) → may_be_empty x ≡ false → next x (t.word c) ≡ first σ
    → (p : List t.Token) → head p ≡ of_word c → reads x p ≡ steps (s.word c ∷ σ) p
word_first x c σ full row = step_with x (s.word c) σ (λ h. h ≡ of_word c) full refl by_kind where
  by_kind : (k : t.Kind) → head_of k ≡ of_word c → next x k ≡ push (next (s.word c) k) σ
  by_kind k e = let same = kind_of_word k c e in ap (next x) same ∙ row ∙ ap (λ n. push n σ) (sym (next_word c k same))

pub name_first : (x : Symbol) (σ : List Symbol) → may_be_empty x ≡ false → ((n : List ℕ) → next x (t.name n) ≡ first σ)
    → (p : List t.Token) → head p ≡ of_name → reads x p ≡ steps (s.name ∷ σ) p
name_first x σ full row = step_with x s.name σ (λ h. h ≡ of_name) full refl by_kind where
  by_kind : (k : t.Kind) → head_of k ≡ of_name → next x k ≡ push (next s.name k) σ
  by_kind (t.name n) e = row n
  by_kind _ e = absurd (cc)

abbrev Any : Head → Type 0
Any h = Unit {0}

pub range_steps : (p : List t.Token) → reads s.range p ≡ steps (s.sign t.open_bracket ∷ s.number ∷ s.sign t.colon ∷ s.digit 0 ∷ s.sign t.close_bracket ∷ []) p
range_steps p = step_with s.range (s.sign t.open_bracket) _ Any refl refl (λ k h. refl) p tt

pub loop_steps : (p : List t.Token) → reads s.loop p ≡ steps (s.word t.for_word ∷ s.sign t.open_paren ∷ s.word t.i_word ∷ s.sign t.is ∷ s.digit 0 ∷ s.sign t.semicolon
    ∷ s.word t.i_word ∷ s.sign t.less ∷ s.number ∷ s.sign t.semicolon ∷ s.word t.i_word ∷ s.sign t.is ∷ s.word t.i_word ∷ s.sign t.plus ∷ s.digit 1 ∷ s.sign t.close_paren ∷ []) p
loop_steps p = step_with s.loop (s.word t.for_word) _ Any refl refl (λ k h. refl) p tt

pub clocked_steps : (p : List t.Token) → reads s.clocked p ≡ steps (s.word t.always_word ∷ s.sign t.at ∷ s.sign t.open_paren ∷ s.word t.posedge_word ∷ s.word t.clk_word
    ∷ s.sign t.close_paren ∷ []) p
clocked_steps p = step_with s.clocked (s.word t.always_word) _ Any refl refl (λ k h. refl) p tt

pub file_steps : (p : List t.Token) → reads s.file p ≡ steps (s.word t.module_word ∷ s.name ∷ s.sign t.open_paren ∷ s.word t.input_word ∷ s.word t.clk_word ∷ s.ports
    ∷ s.sign t.semicolon ∷ s.items ∷ []) p
file_steps p = step_with s.file (s.word t.module_word) _ Any refl refl (λ k h. refl) p tt

pub operand_name : (p : List t.Token) → head p ≡ of_name → reads s.operand p ≡ reads s.name p
operand_name p e = name_first s.operand [] refl (λ n. refl) p e ∙ bind_pure (reads s.name p)

pub operand_constant : (p : List t.Token) → head p ≢ of_name → reads s.operand p ≡ reads s.constant p
operand_constant p e = same_with s.operand s.constant (λ h. h ≢ of_name) refl refl by_kind p e where
  by_kind : (k : t.Kind) → head_of k ≢ of_name → next s.operand k ≡ push (next s.constant k) []
  by_kind (t.name n) e = absurd (e refl)
  by_kind _ e = refl

pub kind_reg : (p : List t.Token) → head p ≡ of_word t.reg_word → reads s.output_kind p ≡ reads (s.word t.reg_word) p
kind_reg p e = word_first s.output_kind t.reg_word [] refl refl p e ∙ bind_pure (reads (s.word t.reg_word) p)

pub kind_wire : (p : List t.Token) → head p ≢ of_word t.reg_word → reads s.output_kind p ≡ reads (s.word t.wire_word) p
kind_wire p e = same_with s.output_kind (s.word t.wire_word) (λ h. h ≢ of_word t.reg_word) refl refl by_kind p e where
  by_kind : (k : t.Kind) → head_of k ≢ of_word t.reg_word → next s.output_kind k ≡ push (next (s.word t.wire_word) k) []
  by_kind (t.word t.reg_word) e = absurd (e refl)
  by_kind _ e = refl

pub port_input : (p : List t.Token) → head p ≡ of_word t.input_word → reads s.port p ≡ steps (s.word t.input_word ∷ s.range ∷ s.name ∷ []) p
port_input p e = word_first s.port t.input_word _ refl refl p e

pub port_output : (p : List t.Token) → head p ≢ of_word t.input_word
    → reads s.port p ≡ steps (s.word t.output_word ∷ s.output_kind ∷ s.range ∷ s.name ∷ []) p
port_output p e = step_with s.port (s.word t.output_word) _ (λ h. h ≢ of_word t.input_word) refl refl by_kind p e where
  by_kind : (k : t.Kind) → head_of k ≢ of_word t.input_word → next s.port k ≡ push (next (s.word t.output_word) k) (s.output_kind ∷ s.range ∷ s.name ∷ [])
  by_kind (t.word t.input_word) e = absurd (e refl)
  by_kind _ e = refl

pub ports_more : (p : List t.Token) → head p ≡ of_sign t.comma → reads s.ports p ≡ steps (s.sign t.comma ∷ s.port ∷ s.ports ∷ []) p
ports_more p e = sign_first s.ports t.comma _ refl refl p e

pub ports_end : (p : List t.Token) → head p ≢ of_sign t.comma → reads s.ports p ≡ reads (s.sign t.close_paren) p
ports_end p e = same_with s.ports (s.sign t.close_paren) (λ h. h ≢ of_sign t.comma) refl refl by_kind p e where
  by_kind : (k : t.Kind) → head_of k ≢ of_sign t.comma → next s.ports k ≡ push (next (s.sign t.close_paren) k) []
  by_kind (t.sign t.comma) e = absurd (e refl)
  by_kind _ e = refl

pub parts_more : (p : List t.Token) → head p ≡ of_sign t.comma → reads s.parts p ≡ steps (s.sign t.comma ∷ s.operand ∷ s.parts ∷ []) p
parts_more p e = sign_first s.parts t.comma _ refl refl p e

pub parts_end : (p : List t.Token) → head p ≢ of_sign t.comma → reads s.parts p ≡ reads (s.sign t.close_brace) p
parts_end p e = same_with s.parts (s.sign t.close_brace) (λ h. h ≢ of_sign t.comma) refl refl by_kind p e where
  by_kind : (k : t.Kind) → head_of k ≢ of_sign t.comma → next s.parts k ≡ push (next (s.sign t.close_brace) k) []
  by_kind (t.sign t.comma) e = absurd (e refl)
  by_kind _ e = refl

-- right sides, by what the reader chooses

abbrev right_row : RightHead → t.Kind → Row
right_row (r.One op) k = push (next (s.sign (unary_sign op)) k) (s.operand ∷ s.sign t.semicolon ∷ [])
right_row r.Concat k = push (next (s.sign t.open_brace) k) (s.operand ∷ s.sign t.comma ∷ s.operand ∷ s.parts ∷ s.sign t.semicolon ∷ [])
right_row r.Name k = push (next s.name k) (s.after_name ∷ [])
right_row r.Constant k = push (next s.constant k) (s.after_operand ∷ [])

right_rows : (k : t.Kind) → next s.right k ≡ right_row (right_head (head_of k)) k
unfolding right_head
right_rows (t.sign t.tilde) = refl
right_rows _ = refl

right_chosen : {x : RightHead} (k : t.Kind) → right_head (head_of k) ≡ x → next s.right k ≡ right_row x k
right_chosen k e = right_rows k ∙ ap (λ x. right_row x k) e

pub right_one : (p : List t.Token) (op : Op1) → right_head (head p) ≡ r.One op
    → reads s.right p ≡ steps (s.sign (unary_sign op) ∷ s.operand ∷ s.sign t.semicolon ∷ []) p
right_one p op e = step_with s.right (s.sign (unary_sign op)) _ (λ h. right_head h ≡ r.One op) refl refl right_chosen p e

pub right_concat : (p : List t.Token) → right_head (head p) ≡ r.Concat
    → reads s.right p ≡ steps (s.sign t.open_brace ∷ s.operand ∷ s.sign t.comma ∷ s.operand ∷ s.parts ∷ s.sign t.semicolon ∷ []) p
right_concat p e = step_with s.right (s.sign t.open_brace) _ (λ h. right_head h ≡ r.Concat) refl refl right_chosen p e

pub right_name : (p : List t.Token) → right_head (head p) ≡ r.Name → reads s.right p ≡ steps (s.name ∷ s.after_name ∷ []) p
right_name p e = step_with s.right s.name _ (λ h. right_head h ≡ r.Name) refl refl right_chosen p e

pub right_constant : (p : List t.Token) → right_head (head p) ≡ r.Constant → reads s.right p ≡ steps (s.constant ∷ s.after_operand ∷ []) p
right_constant p e = step_with s.right s.constant _ (λ h. right_head h ≡ r.Constant) refl refl right_chosen p e

-- what stands behind an operand, likewise

abbrev after_row : AfterHead → t.Kind → Row
after_row (a.Two op) k = push (next (s.sign (binary_sign op)) k) (s.operand ∷ s.sign t.semicolon ∷ [])
after_row a.Choose k = push (next (s.sign t.question) k) (s.operand ∷ s.sign t.colon ∷ s.operand ∷ s.sign t.semicolon ∷ [])
after_row a.End k = push (next (s.sign t.semicolon) k) []

after_rows : (k : t.Kind) → next s.after_operand k ≡ after_row (after_head (head_of k)) k
unfolding after_head
after_rows (t.sign t.question) = refl
after_rows _ = refl

after_chosen : {x : AfterHead} (k : t.Kind) → after_head (head_of k) ≡ x → next s.after_operand k ≡ after_row x k
after_chosen k e = after_rows k ∙ ap (λ x. after_row x k) e

pub after_two : (p : List t.Token) (op : Op2) → after_head (head p) ≡ a.Two op
    → reads s.after_operand p ≡ steps (s.sign (binary_sign op) ∷ s.operand ∷ s.sign t.semicolon ∷ []) p
after_two p op e = step_with s.after_operand (s.sign (binary_sign op)) _ (λ h. after_head h ≡ a.Two op) refl refl after_chosen p e

pub after_choose : (p : List t.Token) → after_head (head p) ≡ a.Choose
    → reads s.after_operand p ≡ steps (s.sign t.question ∷ s.operand ∷ s.sign t.colon ∷ s.operand ∷ s.sign t.semicolon ∷ []) p
after_choose p e = step_with s.after_operand (s.sign t.question) _ (λ h. after_head h ≡ a.Choose) refl refl after_chosen p e

pub after_end : (p : List t.Token) → after_head (head p) ≡ a.End → reads s.after_operand p ≡ reads (s.sign t.semicolon) p
after_end p e = same_with s.after_operand (s.sign t.semicolon) (λ h. after_head h ≡ a.End) refl refl after_chosen p e

pub name_bracket : (p : List t.Token) → head p ≡ of_sign t.open_bracket → reads s.after_name p ≡ steps (s.sign t.open_bracket ∷ s.after_bracket ∷ []) p
name_bracket p e = sign_first s.after_name t.open_bracket _ refl refl p e

pub name_other : (p : List t.Token) → head p ≢ of_sign t.open_bracket → reads s.after_name p ≡ reads s.after_operand p
name_other p e = same_with s.after_name s.after_operand (λ h. h ≢ of_sign t.open_bracket) refl refl by_kind p e where
  by_kind : (k : t.Kind) → head_of k ≢ of_sign t.open_bracket → next s.after_name k ≡ push (next s.after_operand k) []
  by_kind (t.sign t.open_bracket) e = absurd (e refl)
  by_kind _ e = refl

pub bracket_slice : (p : List t.Token) → head p ≡ of_number
    → reads s.after_bracket p ≡ steps (s.number ∷ s.sign t.colon ∷ s.number ∷ s.sign t.close_bracket ∷ s.sign t.semicolon ∷ []) p
bracket_slice p e = step_with s.after_bracket s.number _ (λ h. h ≡ of_number) refl refl by_kind p e where
  by_kind : (k : t.Kind) → head_of k ≡ of_number → next s.after_bracket k ≡ push (next s.number k) (s.sign t.colon ∷ s.number ∷ s.sign t.close_bracket ∷ s.sign t.semicolon ∷ [])
  by_kind (t.number n digits) e = refl
  by_kind _ e = absurd (cc)

pub bracket_cell : (p : List t.Token) → head p ≢ of_number → reads s.after_bracket p ≡ steps (s.operand ∷ s.sign t.close_bracket ∷ s.sign t.semicolon ∷ []) p
bracket_cell p e = step_with s.after_bracket s.operand _ (λ h. h ≢ of_number) refl refl by_kind p e where
  by_kind : (k : t.Kind) → head_of k ≢ of_number → next s.after_bracket k ≡ push (next s.operand k) (s.sign t.close_bracket ∷ s.sign t.semicolon ∷ [])
  by_kind (t.number n digits) e = absurd (e refl)
  by_kind _ e = refl
