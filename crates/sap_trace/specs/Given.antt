-- What a module's ports are given on a line of a stimulus.
use Rattle.std.specs.Prelude.{ℕ, List}
use Rattle.sap_lattice.specs.Levels.{Levels, order_of}
use Rattle.sap_lattice.specs.Codes.{code_of}
use Rattle.sap_meaning.specs.Cycle.{Tagged}
use Rattle.sap_interface.specs.Compiled.{coded}

-- Of each field its value, and the code of its level.
abbrev pub given : Levels → List Tagged → List ℕ
given ls = coded (code_of (order_of ls))
