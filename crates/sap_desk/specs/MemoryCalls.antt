-- What the calls make of a desk in memory, beside what they make of every desk.
use Rattle.std.specs.Prelude.{ℕ, ◌-◌, min, List, [], length, Some, None}
use Rattle.sap_desk.specs.Desk.{Use, closed, reads, writes, stream, Told, at_number, at_name}

-- A file is put in place of one of its name.
abbrev pub with_file : List ℕ → List ℕ → Told → Told
with_file name bytes t = record t { files = at_name name (Some bytes) t.files }

-- A desk as it is made, which takes so many bytes on each channel.
abbrev pub made : ℕ → Told
made room = record {
  files = λ name. None;
  uses = at_number 2 stream (at_number 1 stream (λ k. closed));
  written = λ k. [];
  blame = [];
  room = room;
}

-- How many of so many bytes a channel takes: those that fit, where it is open for writing.
abbrev pub fitting_use : Use → ℕ → ℕ
fitting_use closed count = 0
fitting_use (reads name asked position) count = 0
fitting_use (writes name) count = count
fitting_use stream count = count

-- How many of so many bytes a channel takes.
abbrev pub fitting : Told → ℕ → ℕ → ℕ
fitting t channel count = fitting_use (t.uses channel) (min count (t.room - length (t.written channel)))
