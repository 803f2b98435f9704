use Rattle.std.proofs.Common.{◌≡◌, length}
use Rattle.sap_lex.specs.Lexing.{keyed}
use Rattle.sap_lex.proofs.Keyed.{made}
use Rattle.sap_lex.proofs.key.key.Given as goal

-- with what the tokens that are left become
abbrev pub invariant-loop-place : goal.invariant-loop-place
invariant-loop-place l = record {
  long : length l.tokens.items ≡ length l.initial.tokens.items;
  whole : made l.place l.tokens.items ≡ keyed l.fn.tokens.items;
}
