-- What is still to come of a stream.
use Rattle.std.specs.Prelude.{List, ◌++◌, replicate}
use Rattle.sap_meaning.specs.Cycle.{Tagged}
use Rattle.sap_stream.specs.Spans.{cycles_of}
use Rattle.sap_wave_run.specs.declared.cycles.Cycles.{Cycles}

-- What the inputs get in each cycle that is still to come.
abbrev pub cycles_ahead : Cycles → List (List Tagged)
cycles_ahead c = replicate c.left c.inputs.now ++ cycles_of c.behind.now
