use Rattle.std.proofs.Common.{◌≡◌, ◌≤◌, ◌-◌, ◌+◌, length}
use Rattle.sap_lex.specs.Lexing.{Reached}
use Rattle.sap_text.specs.Places.{place_at}
use Rattle.sap_lex.proofs.lexer.lex.Given as goal

abbrev pub invariant-lexemes : goal.invariant-lexemes
invariant-lexemes l = record {
  within : l.n ≤ length l.text;
  reached : Reached l.text l.n l.tokens.items;
  place : l.place ≡ place_at l.text l.n;
  positive : 1 ≤ l.place.column;
  bound : l.place.line + l.place.column ≤ l.n + 2;
}

abbrev pub decreases-lexemes : goal.decreases-lexemes
decreases-lexemes l = length l.text - l.n
