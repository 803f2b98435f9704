use Rattle.std.proofs.Common.{◌≡◌, ◌≤◌, ◌+◌, List, length, drop}
use Rattle.sap_vtext.specs.Tokens.{Token}
use Rattle.sap_vparse.specs.Rows.{AreFixed, reads_row, symbols_of}
use Rattle.sap_vparse.proofs.row.row.Given as goal

abbrev pub invariant-row : goal.invariant-row
invariant-row l = record {
  goes : reads_row (symbols_of l.row) l.fn.tokens ≡ reads_row (symbols_of (drop l.token-index l.row)) l.tokens;
  tree : (r : List Token) → AreFixed l.tokens (drop l.token-index l.row) r → AreFixed l.fn.tokens l.row r;
  shorter : length l.tokens + l.token-index ≤ length l.fn.tokens;
}
