-- The words of a text that begins with `sapper`, made one after another.
use Rattle.sap_lemmas.proofs.Common.{ℕ, List, ◌++◌, take, drop, map}
use Rattle.sap_lex.specs.Lexing.{later_token}
use Rattle.sap_lex.specs.declared.token.Token.{Token}

-- what is made so far, and what the rest will be
abbrev pub made : ℕ → List Token → List Token
made n ts = take n ts ++ map later_token (drop n ts)
