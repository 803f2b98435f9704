-- What the walk does with a symbol that is a single token.
use Rattle.sap_lemmas.proofs.Common.{◌≡◌, ◌≢◌, ℕ, List, [], ◌∷◌, Option, Some, None, Result, Ok, Err, Bool, true, false, refl, sym, ap, ◌∙◌, ◌++◌, bytes_eq, same_Some, bytes_eq_same, equal_of_bytes_eq, IfErr, IfOk}
use Rattle.sap_parse.specs.Limits.{breach, tally}
use Rattle.sap_parse.specs.Reading.{Breaks, Goes, IsBroken, Passes, ahead, ahead_of, front_name, front_number, front_sized, name_in, number_in, read_by, reads, sized_in, strictly, table}
use Rattle.sap_parse.specs.Stages.{Stage, IsToken}
use Rattle.sap_parse.specs.Table.{Symbol, sign, word, any_name, number, sized, next, may_be_empty, if_same}
use Rattle.sap_parse.specs.declared.cursor.Ahead.TheVariants as a
use Rattle.sap_parse.specs.declared.cursor.Ahead.{Ahead}
use Rattle.sap_parse.specs.declared.cursor.Fault.TheVariants as f
use Rattle.sap_parse.specs.declared.cursor.Fault.{Fault}
use Rattle.sap_lex.specs.Spelling.{sign_of, sign_text, word_among}
use Rattle.sap_lex.specs.declared.limit.Limit.{Limit}
use Rattle.sap_parse.specs.declared.role.Role.{Role}
use Rattle.sap_lex.specs.declared.token.Kind.TheVariants as k
use Rattle.sap_lex.specs.declared.token.Kind.{Kind}
use Rattle.sap_lex.specs.declared.token.Sign.TheVariants as s
use Rattle.sap_lex.specs.declared.token.Sign.{Sign as SignOf}
use Rattle.sap_lex.specs.declared.token.Token.{Token}
use Rattle.sap_tree.specs.Words.{first_words, later_words, word_text}
use Rattle.sap_tree.specs.declared.word.Word.TheVariants as w
use Rattle.sap_tree.specs.declared.word.Word.{Word as WordOf}
use Rattle.sap_walk.specs.Limits.{passed, unless_broken}
use Rattle.sap_walk.specs.Walk.{begins, cannot_stand, at_token, at_limit}
use Rattle.sap_walk.proofs.Walking.{read_take, read_break, read_stop, read_end}

-- one token is all that s is
taken : (s : Symbol) (p : Stage) (role : Role) (t : Token) (q : Stage) → next s t.kind ≡ begins role [] → Passes p role t q → reads s p ≡ Ok q
unfolding read_by strictly
taken s p role t q h passes =
    let entered : unless_broken (breach p.past.counts role t) (passed tally breach role t p.past) ≡ Ok q.past
    = ap (λ b. unless_broken b (passed tally breach role t p.past)) passes.free ∙ ap (λ past. Ok past) (sym passes.past) in
    ap (λ left. reads s (record { past = p.past; left = left })) passes.left ∙ read_take (table strictly) s t q.left p.past role [] q.past h entered

broken : (s : Symbol) (p : Stage) (role : Role) (limit : Limit) → (b : Breaks p role limit) → next s b.token.kind ≡ begins role [] → reads s p ≡ Err (at_limit limit p)
unfolding read_by strictly
broken s p role limit b h =
    ap (λ left. reads s (record { past = p.past; left = left })) b.left
    ∙ read_break (table strictly) s b.token b.rest p.past role [] limit h (ap (λ x. unless_broken x (passed tally breach role b.token p.past)) b.broken)
    ∙ ap (λ left. Err (at_limit limit (record { past = p.past; left = left }))) (sym b.left)

refused : (s : Symbol) (p : Stage) → may_be_empty s ≡ false → ((t : Token) (ts : List Token) → p.left ≡ t ∷ ts → next s t.kind ≡ cannot_stand) → reads s p ≡ Err (at_token p)
unfolding read_by strictly
refused s p full h = by_left p.left refl where
  by_left : (left : List Token) → p.left ≡ left → reads s p ≡ Err (at_token p)
  by_left [] e = ap (λ l. reads s (record { past = p.past; left = l })) e ∙ read_end (table strictly) s p.past full
      ∙ ap (λ l. Err (at_token (record { past = p.past; left = l }))) (sym e)
  by_left (t ∷ ts) e =
      ap (λ l. reads s (record { past = p.past; left = l })) e ∙ read_stop (table strictly) s t ts p.past (h t ts e)
      ∙ ap (λ l. Err (at_token (record { past = p.past; left = l }))) (sym e)

-- how a sign and a word are spelled gives them back

sign_back : (x : SignOf) → sign_of (sign_text x) ≡ Some x
sign_back s.Becomes = refl
sign_back _ = refl

-- of all words, the one that is spelled so
abbrev word_spelled : List ℕ → Option WordOf
word_spelled text = word_among (first_words ++ later_words ++ w.Sapper ∷ w.Two ∷ []) text

word_back : (x : WordOf) → word_spelled (word_text x) ≡ Some x
word_back w.Input = refl
word_back _ = refl

pub sign_same : (x y : SignOf) → bytes_eq (sign_text x) (sign_text y) ≡ true → x ≡ y
sign_same x y e = same_Some x y (sym (sign_back x) ∙ ap sign_of (equal_of_bytes_eq (sign_text x) (sign_text y) e) ∙ sign_back y)

pub word_same : (x y : WordOf) → bytes_eq (word_text x) (word_text y) ≡ true → x ≡ y
word_same x y e = same_Some x y (sym (word_back x) ∙ ap word_spelled (equal_of_bytes_eq (word_text x) (word_text y) e) ∙ word_back y)

-- what differs is spelled in different ways, where what is spelled alike is the same
apart : {X : Type 0} (text : X → List ℕ) → ((x y : X) → bytes_eq (text x) (text y) ≡ true → x ≡ y) → (x y : X) → x ≢ y → bytes_eq (text x) (text y) ≡ false
apart text same x y ne = by_test (bytes_eq (text x) (text y)) refl where
  by_test : (b : Bool) → bytes_eq (text x) (text y) ≡ b → b ≡ false
  by_test true e = absurd (ne (same x y e))
  by_test false e = refl

-- what stands at the front

pub kind_ahead : (i : Kind) (j : SignOf) → ahead_of i ≡ a.Sign j → i ≡ k.Sign j
kind_ahead (k.Sign i) j e = cc
kind_ahead _ j e = absurd (cc)

pub word_kind_ahead : (i : Kind) (j : WordOf) → ahead_of i ≡ a.Word j → i ≡ k.Word j
word_kind_ahead (k.Word i) j e = cc
word_kind_ahead _ j e = absurd (cc)

number_kind : (i : Kind) (n : ℕ) → number_in i ≡ Some n → i ≡ k.Number n
number_kind (k.Number i) n e = cc
number_kind _ n e = absurd (cc)

name_kind : (i : Kind) (n : List ℕ) → name_in i ≡ Some n → i ≡ k.Name n
name_kind (k.Name i) n e = cc
name_kind _ n e = absurd (cc)

sized_kind : (i : Kind) (v : ℕ × ℕ) → sized_in i ≡ Some v → i ≡ k.Sized v.0 v.1
sized_kind (k.Sized i m) v e = (let same : (i, m) ≡ v = cc in ap (λ (x : ℕ × ℕ). k.Sized x.0 x.1) same)
sized_kind _ v e = absurd (cc)

pub ahead_front : {left : List Token} {x : Ahead} (t : Token) (ts : List Token) → ahead left ≡ x → left ≡ t ∷ ts → ahead_of t.kind ≡ x
unfolding ahead
ahead_front t ts e h = sym (ap ahead h) ∙ e

number_front : {left : List Token} {x : Option ℕ} (t : Token) (ts : List Token) → front_number left ≡ x → left ≡ t ∷ ts → number_in t.kind ≡ x
unfolding front_number
number_front t ts e h = sym (ap front_number h) ∙ e

name_front : {left : List Token} {x : Option (List ℕ)} (t : Token) (ts : List Token) → front_name left ≡ x → left ≡ t ∷ ts → name_in t.kind ≡ x
unfolding front_name
name_front t ts e h = sym (ap front_name h) ∙ e

sized_front : {left : List Token} {x : Option (ℕ × ℕ)} (t : Token) (ts : List Token) → front_sized left ≡ x → left ≡ t ∷ ts → sized_in t.kind ≡ x
unfolding front_sized
sized_front t ts e h = sym (ap front_sized h) ∙ e

token_is : {p q : Stage} {role : Role} {t : Token} {kind : Kind} → Passes p role t q → t.kind ≡ kind → IsToken p role kind q
token_is {t = t} passes e = record { token = t; left = passes.left; past = passes.past; is = e }

-- signs

pub next_sign : (role : Role) (j : SignOf) (i : Kind) → i ≡ k.Sign j → next (sign role j) i ≡ begins role []
next_sign role j i e = ap (next (sign role j)) e ∙ ap (if_same role) (bytes_eq_same (sign_text j))

pub next_not_sign : (role : Role) (j : SignOf) (i : Kind) → ahead_of i ≢ a.Sign j → next (sign role j) i ≡ cannot_stand
next_not_sign role j (k.Sign i) ne = ap (if_same role) (apart sign_text sign_same i j (λ e. ne (ap a.Sign e)))
next_not_sign role j _ ne = refl

pub sign_is : (p q : Stage) (role : Role) (j : SignOf) (t : Token) → ahead p.left ≡ a.Sign j → Passes p role t q → IsToken p role (k.Sign j) q
sign_is p q role j t e passes = token_is passes (kind_ahead t.kind j (ahead_front t q.left e passes.left))

pub sign_read : (p q : Stage) (role : Role) (j : SignOf) (t : Token) → ahead p.left ≡ a.Sign j → Passes p role t q → reads (sign role j) p ≡ Ok q
sign_read p q role j t e passes = taken (sign role j) p role t q (next_sign role j t.kind (kind_ahead t.kind j (ahead_front t q.left e passes.left))) passes

pub sign_broken : (p : Stage) (role : Role) (j : SignOf) (limit : Limit) → ahead p.left ≡ a.Sign j → Breaks p role limit → reads (sign role j) p ≡ Err (at_limit limit p)
sign_broken p role j limit e b = broken (sign role j) p role limit b (next_sign role j b.token.kind (kind_ahead b.token.kind j (ahead_front b.token b.rest e b.left)))

pub ahead_back : {left : List Token} {x : Ahead} (t : Token) (ts : List Token) → ahead_of t.kind ≡ x → left ≡ t ∷ ts → ahead left ≡ x
unfolding ahead
ahead_back t ts h e = ap ahead e ∙ h

pub sign_refused : (p : Stage) (role : Role) (j : SignOf) → ahead p.left ≢ a.Sign j → reads (sign role j) p ≡ Err (at_token p)
sign_refused p role j ne = refused (sign role j) p refl (λ t ts e. next_not_sign role j t.kind (λ h. ne (ahead_back t ts h e)))

pub ruleset signs = (sign_is, sign_read, sign_broken, sign_refused)

-- words

pub next_word : (role : Role) (j : WordOf) (i : Kind) → i ≡ k.Word j → next (word role j) i ≡ begins role []
next_word role j i e = ap (next (word role j)) e ∙ ap (if_same role) (bytes_eq_same (word_text j))

pub next_not_word : (role : Role) (j : WordOf) (i : Kind) → ahead_of i ≢ a.Word j → next (word role j) i ≡ cannot_stand
next_not_word role j (k.Word i) ne = ap (if_same role) (apart word_text word_same i j (λ e. ne (ap a.Word e)))
next_not_word role j _ ne = refl

pub word_is : (p q : Stage) (role : Role) (j : WordOf) (t : Token) → ahead p.left ≡ a.Word j → Passes p role t q → IsToken p role (k.Word j) q
word_is p q role j t e passes = token_is passes (word_kind_ahead t.kind j (ahead_front t q.left e passes.left))

pub word_read : (p q : Stage) (role : Role) (j : WordOf) (t : Token) → ahead p.left ≡ a.Word j → Passes p role t q → reads (word role j) p ≡ Ok q
word_read p q role j t e passes = taken (word role j) p role t q (next_word role j t.kind (word_kind_ahead t.kind j (ahead_front t q.left e passes.left))) passes

pub word_broken : (p : Stage) (role : Role) (j : WordOf) (limit : Limit) → ahead p.left ≡ a.Word j → Breaks p role limit → reads (word role j) p ≡ Err (at_limit limit p)
word_broken p role j limit e b = broken (word role j) p role limit b (next_word role j b.token.kind (word_kind_ahead b.token.kind j (ahead_front b.token b.rest e b.left)))

pub word_refused : (p : Stage) (role : Role) (j : WordOf) → ahead p.left ≢ a.Word j → reads (word role j) p ≡ Err (at_token p)
word_refused p role j ne = refused (word role j) p refl (λ t ts e. next_not_word role j t.kind (λ h. ne (ahead_back t ts h e)))

pub ruleset words = (word_is, word_read, word_broken, word_refused)

-- numbers

next_not_number : (role : Role) (i : Kind) → number_in i ≡ None → next (number role) i ≡ cannot_stand
next_not_number role (k.Number n) e = absurd (cc)
next_not_number role _ e = refl

pub number_is : (p q : Stage) (role : Role) (n : ℕ) (t : Token) → front_number p.left ≡ Some n → Passes p role t q → IsToken p role (k.Number n) q
number_is p q role n t e passes = token_is passes (number_kind t.kind n (number_front t q.left e passes.left))

pub number_read : (p q : Stage) (role : Role) (n : ℕ) (t : Token) → front_number p.left ≡ Some n → Passes p role t q → reads (number role) p ≡ Ok q
number_read p q role n t e passes = taken (number role) p role t q (ap (next (number role)) (number_kind t.kind n (number_front t q.left e passes.left))) passes

pub number_broken : (p : Stage) (role : Role) (n : ℕ) (limit : Limit) → front_number p.left ≡ Some n → Breaks p role limit → reads (number role) p ≡ Err (at_limit limit p)
number_broken p role n limit e b = broken (number role) p role limit b (ap (next (number role)) (number_kind b.token.kind n (number_front b.token b.rest e b.left)))

pub number_refused : (p : Stage) (role : Role) → front_number p.left ≡ None → reads (number role) p ≡ Err (at_token p)
number_refused p role e = refused (number role) p refl (λ t ts h. next_not_number role t.kind (number_front t ts e h))

pub ruleset numbers = (number_is, number_read, number_broken, number_refused)

-- names

next_not_name : (role : Role) (i : Kind) → name_in i ≡ None → next (any_name role) i ≡ cannot_stand
next_not_name role (k.Name n) e = absurd (cc)
next_not_name role _ e = refl

pub name_is : (p q : Stage) (role : Role) (n : List ℕ) (t : Token) → front_name p.left ≡ Some n → Passes p role t q → IsToken p role (k.Name n) q
name_is p q role n t e passes = token_is passes (name_kind t.kind n (name_front t q.left e passes.left))

pub name_read : (p q : Stage) (role : Role) (n : List ℕ) (t : Token) → front_name p.left ≡ Some n → Passes p role t q → reads (any_name role) p ≡ Ok q
name_read p q role n t e passes = taken (any_name role) p role t q (ap (next (any_name role)) (name_kind t.kind n (name_front t q.left e passes.left))) passes

pub name_broken : (p : Stage) (role : Role) (n : List ℕ) (limit : Limit) → front_name p.left ≡ Some n → Breaks p role limit → reads (any_name role) p ≡ Err (at_limit limit p)
name_broken p role n limit e b = broken (any_name role) p role limit b (ap (next (any_name role)) (name_kind b.token.kind n (name_front b.token b.rest e b.left)))

pub name_refused : (p : Stage) (role : Role) → front_name p.left ≡ None → reads (any_name role) p ≡ Err (at_token p)
name_refused p role e = refused (any_name role) p refl (λ t ts h. next_not_name role t.kind (name_front t ts e h))

pub ruleset names = (name_is, name_read, name_broken, name_refused)

-- numbers with a width

next_not_sized : (role : Role) (i : Kind) → sized_in i ≡ None → next (sized role) i ≡ cannot_stand
next_not_sized role (k.Sized n m) e = absurd (cc)
next_not_sized role _ e = refl

pub sized_is : (p q : Stage) (role : Role) (v : ℕ × ℕ) (t : Token) → front_sized p.left ≡ Some v → Passes p role t q → IsToken p role (k.Sized v.0 v.1) q
sized_is p q role v t e passes = token_is passes (sized_kind t.kind v (sized_front t q.left e passes.left))

pub sized_read : (p q : Stage) (role : Role) (v : ℕ × ℕ) (t : Token) → front_sized p.left ≡ Some v → Passes p role t q → reads (sized role) p ≡ Ok q
sized_read p q role v t e passes = taken (sized role) p role t q (ap (next (sized role)) (sized_kind t.kind v (sized_front t q.left e passes.left))) passes

pub sized_broken : (p : Stage) (role : Role) (v : ℕ × ℕ) (limit : Limit) → front_sized p.left ≡ Some v → Breaks p role limit → reads (sized role) p ≡ Err (at_limit limit p)
sized_broken p role v limit e b = broken (sized role) p role limit b (ap (next (sized role)) (sized_kind b.token.kind v (sized_front b.token b.rest e b.left)))

pub sized_refused : (p : Stage) (role : Role) → front_sized p.left ≡ None → reads (sized role) p ≡ Err (at_token p)
sized_refused p role e = refused (sized role) p refl (λ t ts h. next_not_sized role t.kind (sized_front t ts e h))

pub ruleset sizeds = (sized_is, sized_read, sized_broken, sized_refused)

-- whatever passing it answers

goes : {A : Type 0} (s : Symbol) (r : Result A Fault) (old new : Stage) (role : Role)
    → ((t : Token) → Passes old role t new → reads s old ≡ Ok new) → ((limit : Limit) → Breaks old role limit → reads s old ≡ Err (at_limit limit old))
    → IfOk r (λ x. (t : Token) × Passes old role t new) → IfErr r (IsBroken old role new) → Goes s old r new
goes s (Ok x) old new role read broken passes breaks = read passes.0 passes.1
goes s (Err (f.Limit limit)) old new role read broken passes breaks = broken limit breaks.0 ∙ ap (λ p. Err (at_limit limit p)) (sym breaks.1)
goes s (Err _) old new role read broken passes breaks = absurd breaks

pub sign_goes : {A : Type 0} (r : Result A Fault) (old new : Stage) (role : Role) (j : SignOf) → ahead old.left ≡ a.Sign j
    → IfOk r (λ x. (t : Token) × Passes old role t new) → IfErr r (IsBroken old role new) → Goes (sign role j) old r new
sign_goes r old new role j e = goes (sign role j) r old new role (λ t. sign_read old new role j t e) (λ limit. sign_broken old role j limit e)

pub word_goes : {A : Type 0} (r : Result A Fault) (old new : Stage) (role : Role) (j : WordOf) → ahead old.left ≡ a.Word j
    → IfOk r (λ x. (t : Token) × Passes old role t new) → IfErr r (IsBroken old role new) → Goes (word role j) old r new
word_goes r old new role j e = goes (word role j) r old new role (λ t. word_read old new role j t e) (λ limit. word_broken old role j limit e)

pub number_goes : {A : Type 0} (r : Result A Fault) (old new : Stage) (role : Role) (n : ℕ) → front_number old.left ≡ Some n
    → IfOk r (λ x. (t : Token) × Passes old role t new) → IfErr r (IsBroken old role new) → Goes (number role) old r new
number_goes r old new role n e = goes (number role) r old new role (λ t. number_read old new role n t e) (λ limit. number_broken old role n limit e)

pub sized_goes : {A : Type 0} (r : Result A Fault) (old new : Stage) (role : Role) (v : ℕ × ℕ) → front_sized old.left ≡ Some v
    → IfOk r (λ x. (t : Token) × Passes old role t new) → IfErr r (IsBroken old role new) → Goes (sized role) old r new
sized_goes r old new role v e = goes (sized role) r old new role (λ t. sized_read old new role v t e) (λ limit. sized_broken old role v limit e)

pub name_goes : {A : Type 0} (r : Result A Fault) (old new : Stage) (role : Role) (n : List ℕ) → front_name old.left ≡ Some n
    → IfOk r (λ x. (t : Token) × Passes old role t new) → IfErr r (IsBroken old role new) → Goes (any_name role) old r new
name_goes r old new role n e = goes (any_name role) r old new role (λ t. name_read old new role n t e) (λ limit. name_broken old role n limit e)

pub token_tree : {A : Type 0} (r : Result A Fault) (old new : Stage) (role : Role) (kind : Kind) → ((t : Token) → Passes old role t new → IsToken old role kind new)
    → IfOk r (λ x. (t : Token) × Passes old role t new) → IfOk r (λ x. IsToken old role kind new)
token_tree (Ok x) old new role kind h passes = h passes.0 passes.1
token_tree (Err e) old new role kind h passes = tt
