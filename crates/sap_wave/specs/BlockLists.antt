-- Blocks' numbers one behind another.
use Rattle.std.specs.Prelude.{ℕ, zero, suc, List, [], ◌∷◌, take, drop}
use Rattle.sap_wave.specs.declared.block_list.BlockList.{BlockList}

-- A list cut into so many parts of so many numbers each.
abbrev pub parts_of : (width count : ℕ) → List ℕ → List (List ℕ)
parts_of width zero ns = []
parts_of width (suc count) ns = take width ns ∷ parts_of width count (drop width ns)

-- The blocks of a list, each of its own numbers.
abbrev pub blocks_in : BlockList → List (List ℕ)
blocks_in b = parts_of b.width b.count b.numbers.items
