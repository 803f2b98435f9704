use Rattle.std.proofs.Common.{◌≤◌, ◌-◌, ◌++◌, ℕ, List, length, drop}
use Rattle.sap_vtext.specs.Lexing.{Lexed}
use Rattle.sap_vtext.specs.Tokens.{Token}
use Rattle.sap_vlex.specs.Spelling.{tokens_of}
use Rattle.sap_vlex.specs.Lexing.{IsBadAt}
use Rattle.sap_vlex.proofs.lexer.lex.Given as goal

abbrev pub invariant-lexemes : goal.invariant-lexemes
invariant-lexemes l = record {
  within : l.n ≤ length l.text;
  so_far : (more : List Token) → Lexed l.n (drop l.n l.text) more → Lexed 0 l.text (tokens_of l.tokens.items ++ more);
  first : (place : ℕ) → IsBadAt l.n (drop l.n l.text) place → IsBadAt 0 l.text place;
}

abbrev pub decreases-lexemes : goal.decreases-lexemes
decreases-lexemes l = length l.text - l.n
