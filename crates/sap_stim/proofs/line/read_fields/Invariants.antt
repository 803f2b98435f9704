use Rattle.std.proofs.Common.{◌≡◌, take}
use Rattle.sap_stim.specs.Line.{fields_of, inputs_of}
use Rattle.sap_stim.proofs.EachField.{read_on, EnoughLeft}
use Rattle.sap_stim.proofs.line.read_fields.Given as goal

-- with the inputs so far
abbrev pub invariant-loop-k : goal.invariant-loop-k
invariant-loop-k l = record {
  read : read_on l.lattice l.fields l.k (take l.k l.inputs) l.rest ≡ inputs_of l.lattice l.fields (fields_of l.line);
  enough : EnoughLeft l.fields l.k l.rest;
}
