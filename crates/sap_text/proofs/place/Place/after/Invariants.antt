use Rattle.std.proofs.Common.{◌≡◌, ◌≤◌, ◌+◌, drop}
use Rattle.sap_text.specs.Places.{place_after}
use Rattle.sap_text.proofs.place.Place.after.Given as goal

abbrev pub invariant-bytes : goal.invariant-bytes
invariant-bytes l = record {
  value : place_after l.fn.self l.bytes ≡ place_after (record { line = l.line; column = l.column }) (drop l.b-index l.bytes);
  positive : 1 ≤ l.column;
  bound : l.line + l.column ≤ l.fn.self.line + l.fn.self.column + l.b-index;
}
