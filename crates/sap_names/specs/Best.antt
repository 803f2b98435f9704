-- The first of several faults, found one after another.
use Rattle.std.specs.Prelude.{List, Option, Bool, ltb, leb, eqb, ◌||◌, ◌&&◌}
use Rattle.sap_text.specs.Best as best
use Rattle.sap_names.specs.Fault.{Fault, number}

-- `a` stands before b, or at its place with no higher code.
abbrev pub comes_first : Fault → Fault → Bool
comes_first a b =
    ltb a.place.line b.place.line || (eqb a.place.line b.place.line
    && (ltb a.place.column b.place.column || (eqb a.place.column b.place.column
    && leb (number a.code) (number b.code))))

-- The fault that comes first, of the best one so far and a further one.
abbrev pub better : Option Fault → Fault → Option Fault
better o f = best.better comes_first o f

-- The first of `o` and the faults of the list.
abbrev pub best_of : Option Fault → List Fault → Option Fault
best_of o fs = best.best_of comes_first o fs
