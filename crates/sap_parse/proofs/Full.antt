-- Rows that are never empty: those of each symbol that may not be.
use Rattle.sap_lemmas.proofs.Common.{◌≡◌, ◌≢◌, ℕ, List, [], ◌∷◌, ◌++◌, Bool, true, false, cond, refl, bytes_eq}
use Rattle.sap_parse.specs.Table as s
use Rattle.sap_parse.specs.Table.{Symbol, Row, if_same, may_be_empty, next, tails}
use Rattle.sap_parse.specs.declared.role.Role.TheVariants as r
use Rattle.sap_parse.specs.declared.role.Role.{Role}
use Rattle.sap_lex.specs.Spelling.{sign_text}
use Rattle.sap_lex.specs.declared.token.Kind.TheVariants as k
use Rattle.sap_lex.specs.declared.token.Kind.{Kind}
use Rattle.sap_lex.specs.declared.token.Sign.TheVariants as j
use Rattle.sap_lex.specs.declared.token.Sign.{Sign as SignOf}
use Rattle.sap_tree.specs.Words.{word_text}
use Rattle.sap_tree.specs.declared.word.Word.TheVariants as w
use Rattle.sap_tree.specs.declared.word.Word.{Word as WordOf}
use Rattle.sap_walk.specs.Rows.{push, optional, ◌or◌, first_then, firsts}
use Rattle.sap_walk.specs.Walk.{Next, begins, empty_here, cannot_stand}

-- a row of what isn't empty
abbrev pub IsFull : {S R : Type 0} → Next S R → Type 0
IsFull n = n ≢ empty_here

pub push_full : {S R : Type 0} (n : Next S R) (σ : List S) → IsFull n → IsFull (push n σ)
push_full empty_here σ h e = h refl
push_full _ σ h e = absurd (cc)

or_full : (n m : Row) → IsFull n → IsFull m → IsFull (n or m)
or_full (begins role ρ) m h g e = absurd (cc)
or_full empty_here m h g e = h refl
or_full cannot_stand m h g e = g e

first_full : (n m : Row) (σ : List Symbol) → IsFull n → IsFull (first_then n σ m)
first_full empty_here m σ h e = h refl
first_full _ m σ h e = absurd (cc)

then_full : (n m : Row) (σ : List Symbol) → IsFull m → IsFull (first_then n σ m)
then_full empty_here m σ h e = h e
then_full _ m σ h e = absurd (cc)

firsts_full : (row : Symbol → Row) (σ τ : List Symbol) → IsFull (firsts row τ) → IsFull (firsts row (σ ++ τ))
firsts_full row [] τ h = h
firsts_full row (x ∷ σ) τ h = then_full (row x) (firsts row (σ ++ τ)) (σ ++ τ) (firsts_full row σ τ h)

-- single tokens

same_full : (role : Role) (b : Bool) → IsFull (if_same role b)
same_full role true e = absurd (cc)
same_full role false e = absurd (cc)

sign_full : (role : Role) (x : SignOf) (i : Kind) → IsFull (s.sign_next role x i)
sign_full role x (k.Sign y) = same_full role (bytes_eq (sign_text y) (sign_text x))
sign_full role x _ = λ e. absurd (cc)

word_full : (role : Role) (x : WordOf) (i : Kind) → IsFull (s.word_next role x i)
word_full role x (k.Word y) = same_full role (bytes_eq (word_text y) (word_text x))
word_full role x _ = λ e. absurd (cc)

name_full : (role : Role) (i : Kind) → IsFull (s.name_next role i)
name_full role (k.Name y) e = absurd (cc)
name_full role _ e = absurd (cc)

number_full : (role : Role) (i : Kind) → IsFull (s.number_next role i)
number_full role (k.Number y) e = absurd (cc)
number_full role _ e = absurd (cc)

sized_full : (role : Role) (i : Kind) → IsFull (s.sized_next role i)
sized_full role (k.Sized y n) e = absurd (cc)
sized_full role _ e = absurd (cc)

-- what begins with a token

after_sign_full : (role : Role) (x : SignOf) (σ : List Symbol) (i : Kind) → IsFull (s.after_sign role x σ i)
after_sign_full role x σ i = push_full (s.sign_next role x i) σ (sign_full role x i)

after_word_full : (role : Role) (x : WordOf) (σ : List Symbol) (i : Kind) → IsFull (s.after_word role x σ i)
after_word_full role x σ i = push_full (s.word_next role x i) σ (word_full role x i)

after_name_full : (role : Role) (σ : List Symbol) (i : Kind) → IsFull (s.after_name role σ i)
after_name_full role σ i = push_full (s.name_next role i) σ (name_full role i)

-- choices

prim_full : (i : Kind) → IsFull (s.prim_next i)
prim_full i = or_full _ _ (number_full r.Inner i)
    (or_full _ _ (sized_full r.Inner i) (or_full _ _ (after_sign_full r.Opening j.OpenParen _ i)
    (or_full _ _ (after_sign_full r.Opening j.OpenBrace _ i) (after_word_full r.Inner w.Zext _ i))))

post_full : (i : Kind) → IsFull (s.post_next i)
post_full i = or_full _ _ (after_name_full r.Inner _ i) (push_full (s.prim_next i) _ (prim_full i))

signed_full : (i : Kind) → IsFull (s.signed_next i)
signed_full (k.Sign x) = by_test (s.is_unary x) where
  by_test : (b : Bool) → IsFull (cond b (begins r.Inner (s.unary ∷ [])) cannot_stand)
  by_test true e = absurd (cc)
  by_test false e = absurd (cc)
signed_full _ = λ e. absurd (cc)

unary_full : (i : Kind) → IsFull (s.unary_next i)
unary_full i = or_full _ _ (signed_full i) (post_full i)

expr_full : (i : Kind) → IsFull (s.expr_next i)
expr_full i = first_full (s.unary_next i) _ _ (unary_full i)

simple_full : (depth : ℕ) (i : Kind) → IsFull (s.simple_next depth i)
simple_full depth i = or_full _ _ (after_name_full (r.Command depth) _ i)
    (or_full _ _ (after_word_full (r.Command depth) w.SetTag _ i) (or_full _ _ (after_word_full (r.Command depth) w.Goto _ i) (word_full (r.Command depth) w.Fall i)))

declaration_full : (i : Kind) → IsFull (s.declaration_next i)
declaration_full i = or_full _ _ (after_word_full r.Input w.Input _ i) (or_full _ _ (after_word_full r.Register w.Reg _ i) (after_word_full r.Memory w.Mem _ i))

index_full : (i : Kind) → IsFull (firsts (s.operand_next i) s.index_symbols)
index_full i =
    firsts_full (s.operand_next i) (s.slices ∷ (tails 1 ++ s.choice ∷ [])) (s.sign r.Closing j.CloseBracket ∷ s.slices ∷ [])
    (first_full (s.sign_next r.Closing j.CloseBracket i) (firsts (s.operand_next i) (s.slices ∷ [])) (s.slices ∷ []) (sign_full r.Closing j.CloseBracket i))

design_full : (n m l : Row) (σ τ : List Symbol) → IsFull m → IsFull (first_then (optional n) σ (first_then m τ l))
design_full (begins role ρ) m l σ τ h e = absurd (cc)
design_full _ m l σ τ h e = first_full m l τ h e

constant_full : (i : Kind) → IsFull (s.constant_next i)
constant_full i = or_full _ _ (number_full r.Plain i) (sized_full r.Plain i)

arm_full : (depth : ℕ) (i : Kind) → IsFull (s.arm_next depth i)
arm_full depth i = push_full (s.constant_next i) _ (constant_full i)

-- each symbol that may not be empty
pub full : (x : Symbol) → may_be_empty x ≡ false → (i : Kind) → IsFull (next x i)
full (s.sign role x) h i = sign_full role x i
full (s.word role x) h i = word_full role x i
full (s.any_name role) h i = name_full role i
full (s.number role) h i = number_full role i
full (s.sized role) h i = sized_full role i
full s.expr h i = expr_full i
full s.unary h i = unary_full i
full s.post h i = post_full i
full s.prim h i = prim_full i
full s.paren h i = after_sign_full r.Opening j.OpenParen _ i
full s.braces h i = after_sign_full r.Opening j.OpenBrace _ i
full s.zext h i = after_word_full r.Inner w.Zext _ i
full s.behind_bracket h i = or_full _ _ (push_full (s.number_next r.Inner i) _ (number_full r.Inner i)) (push_full (s.expr_next i) _ (expr_full i))
full s.behind_number h i = or_full _ _ (after_sign_full r.Inner j.Colon _ i) (index_full i)
full s.slice h i = after_sign_full r.Opening j.OpenBracket _ i
full (s.bin l) h i = first_full (s.unary_next i) _ _ (unary_full i)
full s.texpr h i = or_full _ _ (name_full r.Inner i)
    (or_full _ _ (after_word_full r.Inner w.Tag _ i) (or_full _ _ (after_word_full r.Inner w.Level _ i) (after_word_full r.Inner w.Join _ i)))
full s.tag_of h i = after_word_full r.Inner w.Tag _ i
full s.level_at h i = after_word_full r.Inner w.Level _ i
full s.join h i = after_word_full r.Inner w.Join _ i
full (s.simple depth) h i = simple_full depth i
full (s.set_tag depth) h i = after_word_full (r.Command depth) w.SetTag _ i
full (s.goto depth) h i = after_word_full (r.Command depth) w.Goto _ i
full (s.fall depth) h i = word_full (r.Command depth) w.Fall i
full s.target h i = or_full _ _ (after_sign_full r.Plain j.Becomes _ i) (after_sign_full r.Plain j.OpenBracket _ i)
full (s.cmd depth) h i = or_full _ _ (push_full (s.simple_next depth i) _ (simple_full depth i))
    (or_full _ _ (after_word_full (r.Command depth) w.If _ i) (after_word_full (r.Command depth) w.Case _ i))
full (s.if_command depth) h i = after_word_full (r.Command depth) w.If _ i
full (s.case_command depth) h i = after_word_full (r.Command depth) w.Case _ i
full (s.arm depth) h i = arm_full depth i
full (s.arms depth) h i = or_full _ _ (push_full (s.arm_next depth i) _ (arm_full depth i)) (after_word_full r.Plain w.Else _ i)
full s.constant h i = constant_full i
full (s.ending depth) h i =
    or_full _ _ (sign_full r.Plain j.Semicolon i) (or_full _ _ (after_word_full r.Plain w.Otherwise _ i) (after_word_full r.Plain w.Then _ i))
full (s.block depth) h i = after_sign_full r.Plain j.OpenBrace _ i
full s.kind_of h i = or_full _ _ (word_full r.Plain w.Dynamic i) (after_word_full r.Plain w.Enforced _ i)
full s.enforced h i = after_word_full r.Plain w.Enforced _ i
full s.declaration h i = declaration_full i
full s.input h i = after_word_full r.Input w.Input _ i
full s.register h i = after_word_full r.Register w.Reg _ i
full s.memory h i = after_word_full r.Memory w.Mem _ i
full (s.state depth) h i = after_word_full (r.State depth) w.State _ i
full s.design h i =
    then_full (s.header_next i) _ _ (design_full (push (s.declaration_next i) (s.declarations ∷ [])) (s.state_next 1 i) _ _ _ (after_word_full (r.State 1) w.State _ i))
full _ h i = absurd (cc)
