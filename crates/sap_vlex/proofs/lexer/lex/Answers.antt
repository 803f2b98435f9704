use Rattle.sap_lemmas.proofs.Common.{◌≡◌, ◌-◌, ◌∙◌, ◌+◌, ◌<◌, ◌++◌, ◌∷◌, [], ℕ, List, sym, ap, subst, arith, length-drop, length, take, drop, append_assoc, drop-drop, drop_all, map-append, append-nil, take_rest}
use Rattle.sap_vtext.specs.Lexing.{Lexed, end, blank_first, token_first, front}
use Rattle.sap_vtext.specs.Lexing as l
use Rattle.sap_vtext.specs.Tokens as t
use Rattle.sap_vlex.specs.Lexemes.{front_of, lexeme_of}
use Rattle.sap_vlex.specs.Lexing.{IsBadAt, IsWithin}
use Rattle.sap_vlex.specs.Spelling.{token_of, tokens_of, kind_of_token}
use Rattle.sap_vlex.specs.Lexing as x
use Rattle.sap_vlex.specs.declared.lexeme.Lexeme.{Lexeme}
use Rattle.sap_vlex.specs.declared.token.Token.{Token}
use Rattle.sap_vlex.proofs.FrontIs.{front_is}
use Rattle.sap_vlex.proofs.lexer.lex.Goals as goal

length_rest : (xs : List ℕ) (n : ℕ) → n < length xs → 0 < length (drop n xs)
length_rest xs n h = omega (arith, length-drop n xs)

is_front : (xs : List ℕ) (n : ℕ) (lexeme : Lexeme) → n < length xs → lexeme ≡ lexeme_of (take (length xs - n) (drop n xs)) → front (drop n xs) ≡ front_of lexeme
is_front xs n lexeme h e =
    front_is (drop n xs) (length_rest xs n h) ∙ ap (λ bs. front_of (lexeme_of bs)) (sym (take_rest xs n)) ∙ ap front_of (sym e)

pushed : (items more : List t.Token) (x : Token) (list : List Token) (old : List Token) → list ≡ old ++ x ∷ [] → tokens_of old ++ (token_of x ∷ more) ≡ tokens_of list ++ more
pushed items more x list old e =
    sym (append_assoc (tokens_of old) (token_of x ∷ []) more) ∙ ap (λ ts. ts ++ more) (sym (map-append token_of old (x ∷ []))) ∙ ap (λ ts. tokens_of ts ++ more) (sym e)

pub lexemes-preserved-in-Blank : goal.lexemes-preserved-in-Blank
lexemes-preserved-in-Blank c =
    let text = c.args.text.now in
    let n = c.lexemes.n in
    let same = take_rest text n in
    let fits = subst (IsWithin (take (length text - n) (drop n text))) c.in-Blank.is c.in_ok-len.ensures.within in
    let stands : front (drop n text) ≡ l.blank c.in-Blank.len = is_front text n c.in_ok-len.field-0 (c.lexemes-test.true) c.in_ok-len.ensures.value ∙ ap front_of c.in-Blank.is in
    record {
      within = omega (arith, fits.1, ap length same, length-drop n text);
      so_far = λ more h. c.lexemes.invariant.so_far more
          (blank_first c.in-Blank.len stands (subst (λ bs. Lexed (n + c.in-Blank.len) bs more) (sym (drop-drop c.in-Blank.len n text)) h));
      first = λ place h. c.lexemes.invariant.first place
          (x.blank_first c.in-Blank.len stands (subst (λ bs. IsBadAt (n + c.in-Blank.len) bs place) (sym (drop-drop c.in-Blank.len n text)) h));
    }

pub lexemes-preserved : goal.lexemes-preserved
lexemes-preserved c =
    let text = c.args.text.now in
    let n = c.lexemes.n in
    let same = take_rest text n in
    let fits = subst (IsWithin (take (length text - n) (drop n text))) c.in-Token.is c.in_ok-len.ensures.within in
    let stands : front (drop n text) ≡ l.token (kind_of_token c.in-Token.kind) c.in-Token.len =
    is_front text n c.in_ok-len.field-0 (c.lexemes-test.true) c.in_ok-len.ensures.value ∙ ap front_of c.in-Token.is in
    record {
      within = omega (arith, fits.1, ap length same, length-drop n text);
      so_far = λ more h.
          subst (Lexed 0 text) (pushed [] more (record { place = n; kind = c.in-Token.kind }) c.push.new.self.items c.lexemes.tokens.items c.in_ok-push-in-Token.ensures.items)
          (c.lexemes.invariant.so_far (token_of (record { place = n; kind = c.in-Token.kind }) ∷ more)
          (token_first (kind_of_token c.in-Token.kind) c.in-Token.len stands (subst (λ bs. Lexed (n + c.in-Token.len) bs more) (sym (drop-drop c.in-Token.len n text)) h)));
      first = λ place h. c.lexemes.invariant.first place
          (x.token_first (kind_of_token c.in-Token.kind) c.in-Token.len stands (subst (λ bs. IsBadAt (n + c.in-Token.len) bs place) (sym (drop-drop c.in-Token.len n text)) h));
    }

pub returns-in-Bad-clause-fault : goal.returns-in-Bad-clause-fault
returns-in-Bad-clause-fault c =
    let text = c.args.text.now in
    let n = c.lexemes.n in
    let stands : front (drop n text) ≡ l.bad = is_front text n c.in_ok-len.field-0 (c.lexemes-test.true) c.in_ok-len.ensures.value ∙ ap front_of c.in-Bad.is in
    λ memory. c.lexemes.invariant.first n (x.here (length_rest text n c.lexemes-test.true) stands)

pub returns-clause-tokens : goal.returns-clause-tokens
returns-clause-tokens c =
    let text = c.args.text.now in
    let n = c.lexemes.n in
    subst (Lexed 0 text) (append-nil (tokens_of c.lexemes.tokens.items))
    (c.lexemes.invariant.so_far [] (subst (λ bs. Lexed n bs []) (sym (drop_all n text (c.lexemes-test.false))) end))
