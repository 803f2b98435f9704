-- What a table says of names.
use Rattle.std.specs.Prelude.{ℕ, List, Option, Vec}
use Rattle.std.specs.Global.{Global}
use Rattle.std.specs.Map.{lookup}
use Rattle.std.specs.Str.{bytes_eq}
use Rattle.sap_vtext.specs.Names.{Known}
use Rattle.sap_vjudge.specs.declared.entry.Entry.{Entry}
use Rattle.sap_vjudge.specs.declared.table.Table.{Table}
use Rattle.sap_vjudge.specs.Entries.{entry_shape, entry_set}

-- The entry of a name.
abbrev pub entry_of : Table → List ℕ → Option Entry
entry_of t n = lookup (λ (k : Vec ℕ Global). bytes_eq n k.items) t.entries.entries

-- What a table knows.
unfoldable pub known_of : Table → Known
known_of t = record {
  shape = λ n. entry_shape (entry_of t n);
  set = λ s n. entry_set (entry_of t n) s;
  integer = t.integer;
}
