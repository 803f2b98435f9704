-- What is still to come of a stream.
use Rattle.std.specs.Prelude.{List, ◌++◌, replicate}
use Rattle.sap_meaning.specs.Cycle.{Tagged}
use Rattle.sap_stream.specs.declared.apart.Ahead.{Ahead}
use Rattle.sap_stream.specs.Spans.{cycles_of}

-- The inputs of each cycle that is still to come.
abbrev pub cycles_ahead : Ahead → List (List Tagged)
cycles_ahead a = replicate a.left a.inputs.now ++ cycles_of a.behind.now
