-- A text has at most one list of tokens.
use Rattle.std.proofs.Common.{◌≡◌, ℕ, ◌+◌, List, drop, refl, ap, ◌∙◌}
use Rattle.sap_vtext.proofs.LexingLemmas.{front_at_end}
use Rattle.sap_vtext.specs.Tokens.{Token}
use Rattle.sap_vtext.specs.Lexing.{front, Lexed, end, blank_first, token_first}

pub one_lexing : {from m : ℕ} {bs cs : List ℕ} {ts us : List Token} → from ≡ m → bs ≡ cs → Lexed from bs ts → Lexed m cs us → ts ≡ us
one_lexing p q end end = refl
one_lexing p q end (blank_first len is rest) = let e = ap front q in let f = front_at_end in absurd (cc)
one_lexing p q end (token_first kind len is rest) = let e = ap front q in let f = front_at_end in absurd (cc)
one_lexing p q (blank_first len is rest) end = let e = ap front q in let f = front_at_end in absurd (cc)
one_lexing p q (token_first kind len is rest) end = let e = ap front q in let f = front_at_end in absurd (cc)
one_lexing p q (blank_first len is rest) (token_first kind len' is' rest') = let e = ap front q in absurd (cc)
one_lexing p q (token_first kind len is rest) (blank_first len' is' rest') = let e = ap front q in absurd (cc)
one_lexing {from} {m} {bs} {cs} p q (blank_first len is rest) (blank_first len' is' rest') =
    let e = ap front q in
    let same : len ≡ len' = cc in
    one_lexing (ap (λ n. n + len) p ∙ ap (λ n. m + n) same) (ap (λ x. drop len x) q ∙ ap (λ n. drop n cs) same) rest rest'
one_lexing {from} {m} {bs} {cs} p q (token_first kind len is rest) (token_first kind' len' is' rest') =
    let e = ap front q in
    let same : len ≡ len' = cc in
    let kinds : kind ≡ kind' = cc in
    let others = one_lexing (ap (λ n. n + len) p ∙ ap (λ n. m + n) same) (ap (λ x. drop len x) q ∙ ap (λ n. drop n cs) same) rest rest' in
    cc
