-- The reader's counts.
use Rattle.sap_parse.specs.Limits as limits
use Rattle.sap_parse.specs.declared.counts.Counts.{Counts}

-- What the reader's counters have counted.
abbrev pub counts_of : Counts → limits.Counts
counts_of c = record {
  inputs = c.inputs;
  registers = c.registers;
  memories = c.memories;
  states = c.states;
  commands = c.commands;
  tokens = c.tokens;
  brackets = c.brackets;
}
