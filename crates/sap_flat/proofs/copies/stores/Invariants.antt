use Rattle.std.proofs.Common.{◌≡◌, take}
use Rattle.sap_flat.proofs.copies.stores.Given as goal

abbrev pub invariant-loop-store : goal.invariant-loop-store
invariant-loop-store l = l.copies.items ≡ take l.store-index l.stores
