-- What a desk over the host knows of its channels.
use Rattle.std.specs.Prelude.{ℕ, Bool, true, false, List}
use Rattle.sap_desk.specs.Desk.{placed}
use Rattle.sap_desk.specs.declared.slot.Slot.{Slot}
use Rattle.sap_desk.specs.declared.slot.Handle.{Handle}
use Rattle.sap_desk.specs.declared.slot.Handle.TheVariants.{Closed, Reading, Writing, Output, Errors}

-- How many bytes the reads of each channel gave.
abbrev pub given_of : {F : Type 0} → List (Slot F) → ℕ → ℕ
given_of = placed (λ slot. slot.given) 0

-- The channel is open.
abbrev pub is_open : {F : Type 0} → Handle F → Bool
is_open Closed = false
is_open (Reading file) = true
is_open (Writing file) = true
is_open Output = true
is_open Errors = true

-- The channel reads a file.
abbrev pub is_reading : {F : Type 0} → Handle F → Bool
is_reading Closed = false
is_reading (Reading file) = true
is_reading (Writing file) = false
is_reading Output = false
is_reading Errors = false

-- The channel writes a file or a standard stream.
abbrev pub is_writing : {F : Type 0} → Handle F → Bool
is_writing Closed = false
is_writing (Reading file) = false
is_writing (Writing file) = true
is_writing Output = true
is_writing Errors = true

-- which channels are open, for reading, for writing, and for either

-- Which channels read.
abbrev pub readers_of : {F : Type 0} → List (Slot F) → ℕ → Bool
readers_of = placed (λ slot. is_reading slot.handle) false

-- Which channels write.
abbrev pub writers_of : {F : Type 0} → List (Slot F) → ℕ → Bool
writers_of = placed (λ slot. is_writing slot.handle) false

-- Which channels are open.
abbrev pub open_of : {F : Type 0} → List (Slot F) → ℕ → Bool
open_of = placed (λ slot. is_open slot.handle) false
