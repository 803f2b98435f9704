-- What a desk holds, as far as it tells, and what each call makes of it.
use Rattle.std.specs.Prelude.{ℕ, ◌+◌, cond, eqb, ltb, List, [], ◌++◌, drop, bytes_eq, codes, Option, Some, None, unwrap_or, option_map, slice_get}

-- A channel is open for reading, for writing or as a stream, or it is closed.
pub data Use : Type 0 where
  -- for nothing: it was never opened, or it was finished
  closed : Use
  -- for reading the file of a name, from a position on; its last read was asked for at the position `asked`, which is 0
  -- before the first
  reads : (name : List ℕ) → (asked position : ℕ) → Use
  -- for writing the file of a name
  writes : (name : List ℕ) → Use
  -- for writing a standard stream: channels 1 and 2
  stream : Use

-- What a desk reports of its state. Names and contents are bytes, and a channel is its number.
pub record Told : Type 0 where
  -- the bytes of the file of a name, if there is one
  pub files : List ℕ → Option (List ℕ)
  -- what each channel is open for
  pub uses : ℕ → Use
  -- what was written on each channel since it was opened: it stays when the channel is finished
  pub written : ℕ → List ℕ
  -- whom the last failed call blames that counted as a fault: a file's name, or `output`
  pub blame : List ℕ
  -- how many bytes a channel takes
  pub room : ℕ

-- The function with another value at one number.
abbrev pub at_number : {A : Type 0} → ℕ → A → (ℕ → A) → ℕ → A
at_number k x f n = cond (eqb n k) x (f n)

-- The function with another value at one name.
abbrev pub at_name : {A : Type 0} → List ℕ → A → (List ℕ → A) → List ℕ → A
at_name k x f n = cond (bytes_eq n k) x (f n)

-- The bytes of a file, none where there is no file.
abbrev pub bytes_of : Told → List ℕ → List ℕ
bytes_of t name = unwrap_or (t.files name) []

-- The bytes that a use has still to read.
abbrev pub rest_of_use : Told → Use → List ℕ
rest_of_use t (reads name asked position) = drop position (bytes_of t name)
rest_of_use t _ = []

-- The bytes that a channel has left to read.
abbrev pub rest_of : Told → ℕ → List ℕ
rest_of t channel = rest_of_use t (t.uses channel)

-- The use is open for reading.
abbrev pub IsReading : Use → Type 0
IsReading (reads name asked position) = Unit {0}
IsReading _ = ⊥

-- The use is open for writing a file or a standard stream.
abbrev pub IsWriting : Use → Type 0
IsWriting (writes name) = Unit {0}
IsWriting stream = Unit {0}
IsWriting _ = ⊥

-- The use is open for reading or for writing.
abbrev pub IsOpen : Use → Type 0
IsOpen closed = ⊥
IsOpen _ = Unit {0}

-- What a call makes of the desk where it answers Ok.

-- `open_in`: the channel reads the file of the name, from its first byte.
abbrev pub opened : ℕ → List ℕ → Told → Told
opened channel name t = record t { uses = at_number channel (reads name 0 0) t.uses }

-- The use after a read that gave `count` bytes: the read was asked for at the position, which moves on by `count`.
abbrev pub moved_use : ℕ → Use → Use
moved_use count (reads name asked position) = reads name position (position + count)
moved_use count u = u

-- `read` was asked for at the channel's position, which moves on by the bytes that it gave. A failed read gave none.
abbrev pub moved : ℕ → ℕ → Told → Told
moved channel count t = record t { uses = at_number channel (moved_use count (t.uses channel)) t.uses }

-- The use after reads that gave `count` bytes in all. The last of them, if there was one, was asked for after `asked`
-- of these bytes.
abbrev pub read_on_use : (asked : Option ℕ) → (count : ℕ) → Use → Use
read_on_use None count (reads name last position) = reads name last (position + count)
read_on_use (Some few) count (reads name last position) = reads name (position + few) (position + count)
read_on_use asked count u = u

-- The state after any number of reads on one channel, as in `read_on_use`.
abbrev pub read_on : (channel : ℕ) → (asked : Option ℕ) → (count : ℕ) → Told → Told
read_on channel asked count t = record t { uses = at_number channel (read_on_use asked count (t.uses channel)) t.uses }

-- `create`: the file of the name is empty, and the channel writes it, with nothing written yet.
abbrev pub created : ℕ → List ℕ → Told → Told
created channel name t = record t {
  files = at_name name (Some []) t.files;
  uses = at_number channel (writes name) t.uses;
  written = at_number channel [] t.written;
}

-- The files after a piece was written by a use.
abbrev pub added_to : Use → List ℕ → (List ℕ → Option (List ℕ)) → List ℕ → Option (List ℕ)
added_to (writes name) piece files = at_name name (Some (unwrap_or (files name) [] ++ piece)) files
added_to _ piece files = files

-- `write` adds the piece to the channel, and to the channel's file if the channel is above 2.
abbrev pub added : ℕ → List ℕ → Told → Told
added channel piece t = record t {
  files = cond (ltb 2 channel) (added_to (t.uses channel) piece t.files) t.files;
  written = at_number channel (t.written channel ++ piece) t.written;
}

-- `finish`: the channel is open for nothing.
abbrev pub finished : ℕ → Told → Told
finished channel t = record t { uses = at_number channel closed t.uses }

-- What a call makes of the desk where it answers Failed.

-- What a desk reports, with this name blamed.
abbrev pub blamed : List ℕ → Told → Told
blamed name t = record t { blame = name }

-- A call on channel 2 blames nobody, one on channel 1 the output, and one on another channel its file.
abbrev pub blame_at : ℕ → List ℕ → Told → Told
blame_at channel name t = cond (eqb channel 2) t (blamed (cond (eqb channel 1) (codes "output") name) t)

-- the file that a failed call blames: none where the channel isn't open for the call

-- The file that a use reads.
abbrev pub name_if_reading : Use → List ℕ
name_if_reading (reads name asked position) = name
name_if_reading _ = []

-- The file that a use writes.
abbrev pub name_if_writing : Use → List ℕ
name_if_writing (writes name) = name
name_if_writing _ = []

-- The file of a use.
abbrev pub name_if_open : Use → List ℕ
name_if_open (reads name asked position) = name
name_if_open (writes name) = name
name_if_open _ = []

-- What `f` gives for the k-th item of a list, or `none` past its end.
abbrev pub placed : {X A : Type 0} → (X → A) → A → List X → ℕ → A
placed f none xs k = unwrap_or (option_map f (slice_get xs k)) none
