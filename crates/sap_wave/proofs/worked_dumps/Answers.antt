use Rattle.std.proofs.Common.{refl}
use Rattle.sap_wave.specs.Digits.{identifier, bits}
use Rattle.sap_wave.proofs.Worked.{written, read, other_number}
use Rattle.sap_wave.proofs.WorkedFaults.{nothing, not_ended_line, no_block, other_identifier, unknown_variable, same_number, no_number}
use Rattle.sap_wave.proofs.worked_dumps.Goals as goal

pub returns : goal.returns
unfolding identifier bits
returns c = record {
  written = written;
  read = read;
  other_number = other_number;
  identifiers = (refl, refl, refl, refl, refl);
  bits = (refl, refl);
  nothing = nothing;
  not_ended = not_ended_line;
  no_block = no_block;
  other_identifier = other_identifier;
  unknown_variable = unknown_variable;
  same_number = same_number;
  no_number = no_number;
}
