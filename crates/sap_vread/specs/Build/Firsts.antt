-- What is noted under a name.
use Rattle.std.specs.Prelude.{ℕ, List, Option, Vec}
use Rattle.std.specs.Global.{Global}
use Rattle.std.specs.Map.{lookup}
use Rattle.std.specs.Str.{bytes_eq}
use Rattle.sap_vread.specs.declared.build.firsts.Firsts.{Firsts}

-- The number that is noted for a name.
unfoldable pub number_of : Firsts → List ℕ → Option ℕ
number_of t n = lookup (λ (k : Vec ℕ Global). bytes_eq n k.items) t.entries.entries
