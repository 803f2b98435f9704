-- What is done to one entity where a pass goes over many.
use Rattle.std.specs.Prelude.{ℕ, Bool, List, ◌&&◌, nat_eq, nat_lt, if◌then◌else◌}
use Rattle.sap_meaning.specs.Program.{World, root, is_input, is_state, is_dynamic}
use Rattle.sap_meaning.specs.Store.{Store, own, owner, same_slot, raise, source, put_number, put_level}
use Rattle.sap_meaning.specs.Cycle.{Tagged, given}

-- The entity x alone.
abbrev pub only : World → ℕ → ℕ → Bool
only w x y = nat_eq x y && nat_lt y (root w)

-- The store with the level of one entity raised.
abbrev pub raised_one : World → ℕ → ℕ → Store → Store
raised_one w x t s = raise w.order (only w x) t s

-- A state returns to its first child, and to the bottom where it is dynamic.
unfoldable pub reset_one : World → ℕ → Store → Store
reset_one w x s = record s {
  level = λ z. if same_slot z (own x) && (is_state w x && is_dynamic w x) then w.order.bottom else s.level z;
  child = λ p. if nat_eq p x && is_state w x then 0 else s.child p;
}

-- What belongs to the entity x settles.
unfoldable pub settled_one : ℕ → Store → Store
settled_one x s = record s {
  number = λ z. if nat_eq (owner z) x then s.number (source z) else s.number z;
  level = λ z. if nat_eq (owner z) x then s.level (source z) else s.level z;
}

-- The entity x gets what it is given, where it is an input.
unfoldable pub given_one : World → List Tagged → ℕ → Store → Store
given_one w inputs x s =
    if is_input w x then put_level w (own x) (given w inputs x).level
    (put_number (own x) (given w inputs x).number s) else s
