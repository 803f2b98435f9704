-- On what stands in EntityKind: what several crates cite.
use Rattle.std.proofs.Common.{Some, ◌≡◌}
use Rattle.sap_names.specs.declared.kind.EntityKind.{EntityKind}

pub some_kind : (a b : EntityKind) → Some a ≡ Some b → a ≡ b
some_kind a b e = cc
