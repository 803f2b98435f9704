-- The laws of walks.
use Rattle.sap_walk.specs.Laws.{InTurn, ReadsWithin}
use Rattle.sap_walk.proofs.Limits.{strict_ok}
use Rattle.sap_walk.proofs.Walking.{walk_steps}

pub in_turn : (Symbol Role Token Kept Limit : Type 0) → InTurn Symbol Role Token Kept Limit
in_turn Symbol Role Token Kept Limit next may_be_empty enter symbols p =
    walk_steps (record { Symbol = Symbol; Role = Role; Token = Token; Past = Kept; Limit = Limit; next = next; may_be_empty = may_be_empty; enter = enter }) symbols p

pub reads_within : (Symbol Role Token Counts Limit : Type 0) → ReadsWithin Symbol Role Token Counts Limit
reads_within Symbol Role Token Counts Limit next may_be_empty tally breach tokens past symbols p fresh free reads =
    strict_ok
    (record { Symbol = Symbol; Role = Role; Token = Token; Counts = Counts; Limit = Limit; next = next; may_be_empty = may_be_empty; tally = tally; breach = breach })
    tokens past symbols p reads fresh free
