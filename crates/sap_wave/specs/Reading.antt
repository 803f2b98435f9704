-- A dump line by line: which line can come behind others, and what was read then. Its faults are said by this; a law
-- says that what reads so is the dump of a wave.
use Rattle.std.specs.Prelude.{◌≡◌, ◌≢◌, ℕ, ◌+◌, ◌<◌, ◌≤◌, List, [], ◌∷◌, ◌++◌, Bool, true, false, Option, Some, None, is_some, unwrap_or, map, length, get_or, set, ◌==◌}
use Rattle.std.specs.List.{list_all}
use Rattle.std.specs.Str.Parse.{digits_value}
use Rattle.sap_maps.specs.Ranges.{IsWidth}
use Rattle.sap_net.specs.Names.{is_name, is_among}
use Rattle.sap_wave.specs.declared.variable.Variable.{Variable}
use Rattle.sap_wave.specs.Digits.{identifier, number_spelled, bits_number}
use Rattle.sap_text.specs.Lines.{Line, lines_of}
use Rattle.sap_wave.specs.Waves.{Wave, names_of}
use Rattle.sap_wave.specs.Lines.{Form, timescale, scope, upscope, end_definitions, variable, block, change, IsLine}

-- A variable where none is given.
abbrev pub nothing : Variable
nothing = record { name = []; width = 0 }

-- The width of a variable, by its number.
abbrev pub width_at : List Variable → ℕ → ℕ
width_at xs k = (get_or xs k nothing).width

-- A block that isn't over: the numbers after each block before it, those that the variables have so far, which in block
-- 0 may be missing, and the first variable that can still change.
pub record OpenBlock : Type 0 where
  pub before : List (List ℕ)
  pub now : List (Option ℕ)
  pub next : ℕ

-- Block 0 has none before it.
abbrev pub is_first : OpenBlock → Bool
is_first o = length o.before == 0

-- Each variable has a number.
abbrev pub is_full : List (Option ℕ) → Bool
is_full now = list_all is_some now

-- The numbers of a block at its end.
abbrev pub numbers_in : List (Option ℕ) → List ℕ
numbers_in now = map (λ o. unwrap_or o 0) now

-- The blocks up to the end of the open one.
abbrev pub blocks_of : OpenBlock → List (List ℕ)
blocks_of o = o.before ++ (numbers_in o.now ∷ [])

-- What was read so far.
pub data State : Type 0 where
  before_timescale before_scope : State
  declaring before_end before_blocks : List Variable → State
  in_block : List Variable → OpenBlock → State

-- Which forms stand at which position.
abbrev pub is_for : State → Form → Bool
is_for before_timescale timescale = true
is_for before_scope scope = true
is_for (declaring xs) (variable width id name) = true
is_for (declaring xs) upscope = true
is_for (before_end xs) end_definitions = true
is_for (before_blocks xs) (block number) = true
is_for (in_block xs o) (block number) = true
is_for (in_block xs o) (change digits id) = true
is_for _ _ = false

-- A variable after these: with the identifier of its number, a width, and a name that none of them has.
pub record IsVariable (xs : List Variable) (width id name : List ℕ) : Type 0 where
  pub numbered : id ≡ identifier (length xs)
  pub sized : IsWidth (digits_value 10 width)
  pub named : is_name name ≡ true
  pub new : is_among name (names_of xs) ≡ false

-- The identifier of one of the variables.
pub record IsKnown (xs : List Variable) (id : List ℕ) : Type 0 where
  pub within : number_spelled id < length xs
  pub spells : id ≡ identifier (number_spelled id)

-- The number that a variable has in an open block.
abbrev pub number_now : OpenBlock → (id : List ℕ) → Option ℕ
number_now o id = get_or o.now (number_spelled id) None

-- A change in an open block: of a variable behind those that changed, in as many digits as its width, and after block 0
-- to another number.
pub record IsChange (xs : List Variable) (o : OpenBlock) (digits id : List ℕ) : Type 0 where
  pub known : IsKnown xs id
  pub later : o.next ≤ number_spelled id
  pub sized : length digits ≡ width_at xs (number_spelled id)
  pub changes : is_first o ≡ false → number_now o id ≢ Some (bits_number digits)

-- The end of an open block, and the number of the next.
pub record IsNextBlock (o : OpenBlock) (number : List ℕ) : Type 0 where
  pub full : is_full o.now ≡ true
  pub in_turn : digits_value 10 number ≡ length o.before + 1

-- Which lines can come next.
abbrev pub Takes : State → Form → Type 0
Takes before_timescale timescale = Unit {0}
Takes before_scope scope = Unit {0}
Takes (declaring xs) (variable width id name) = IsVariable xs width id name
Takes (declaring xs) upscope = Unit {0}
Takes (before_end xs) end_definitions = Unit {0}
Takes (before_blocks xs) (block number) = digits_value 10 number ≡ 0
Takes (in_block xs o) (block number) = IsNextBlock o number
Takes (in_block xs o) (change digits id) = IsChange xs o digits id
Takes _ _ = ⊥

-- The first block, before any change.
abbrev pub first_block : List Variable → OpenBlock
first_block xs = record { before = []; now = map (λ x. None) xs; next = 0 }

-- A block begins with the numbers of the one before it.
abbrev pub next_block : OpenBlock → OpenBlock
next_block o = record { before = blocks_of o; now = o.now; next = 0 }

-- The open block after a change.
abbrev pub changed : OpenBlock → (digits id : List ℕ) → OpenBlock
changed o digits id =
    record {
      before = o.before;
      now = set o.now (number_spelled id) (Some (bits_number digits));
      next = number_spelled id + 1;
    }

-- And what was read then.
abbrev pub after : State → Form → State
after before_timescale timescale = before_scope
after before_scope scope = declaring []
after (declaring xs) (variable width id name) =
    declaring (xs ++ (record { name = name; width = digits_value 10 width } ∷ []))
after (declaring xs) upscope = before_end xs
after (before_end xs) end_definitions = before_blocks xs
after (before_blocks xs) (block number) = in_block xs (first_block xs)
after (in_block xs o) (block number) = in_block xs (next_block o)
after (in_block xs o) (change digits id) = in_block xs (changed o digits id)
after s _ = s

-- From one state to another by these lines.
abbrev pub Reads : State → List Line → State → Type 0
Reads s [] t = s ≡ t
Reads s (l ∷ ls) t = (f : Form) × IsLine l f × Takes s f × Reads (after s f) ls t

-- A dump can end in a block in which each variable has a number.
abbrev pub Ends : State → Wave → Type 0
Ends (in_block xs o) w = (is_full o.now ≡ true) × (w ≡ record { variables = xs; blocks = blocks_of o })
Ends _ w = ⊥

-- The bytes are lines that can come one after another, and a whole wave was read then.
pub record ReadsSo (bytes : List ℕ) (w : Wave) : Type 0 where
  pub last : State
  pub lines : Reads before_timescale (lines_of bytes) last
  pub ends : Ends last w
