-- Tables by name.
use Rattle.std.specs.Prelude.{Option, bytes_eq}
use Rattle.std.specs.HashMap.{HashMap, get_by}
use Rattle.std.specs.declared.hash.FoldHasher.{FoldHasher}
use Rattle.std.specs.declared.hash.BuildHasherDefault.{BuildHasherDefault}
use Rattle.sap_maps.specs.Maps.{Name}

-- A table by names.
abbrev pub NameTable : Type 0 → Type 0
NameTable X = HashMap Name X (BuildHasherDefault FoldHasher)

-- What the table has for a name.
abbrev pub of_name : {X : Type 0} → NameTable X → Name → Option X
of_name m n = get_by (bytes_eq n) m
