use Rattle.std.proofs.Common.{◌≡◌, take}
use Rattle.sap_desk.specs.Room.{claims}
use Rattle.sap_desk.proofs.store.claims.Given as goal

abbrev pub invariant-loop-channel : goal.invariant-loop-channel
invariant-loop-channel l = l.sum ≡ claims l.room l.name (take l.channel-index l.channels.items)
