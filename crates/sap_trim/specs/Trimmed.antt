-- The helping wires of a netlist: their names and right sides.
use Rattle.std.specs.Prelude.{◌≡◌, ℕ, false, length}
use Rattle.std.specs.List.{AllByRecursion}
use Rattle.sap_net.specs.Net.{Net}
use Rattle.sap_net.specs.IsNetlist.{names_of}
use Rattle.sap_share.specs.Differing.{AllDiffer}
use Rattle.sap_share.specs.Names.{helper}
use Rattle.sap_fold.specs.Settled.{IsSettled, is_copy}
use Rattle.sap_trim.specs.Names.{numbered, helping_wires, NoneNumbered}

-- No two helping wires have the same width and the same right side.
abbrev pub SharesWires : Net → Type 0
SharesWires n = AllDiffer (helping_wires n)

-- The right side of each helping wire is no copy, and folds to itself.
abbrev pub FoldsWires : Net → Type 0
FoldsWires n = AllByRecursion (λ w. (is_copy w.right ≡ false) × IsSettled w) (helping_wires n)

-- Each helping wire is named n and a number.
abbrev pub NamesWires : Net → Type 0
NamesWires n = AllByRecursion (λ w. (k : ℕ) × (w.name ≡ helper k)) (helping_wires n)

-- The helping wires are n0, n1 and so on in the order of their assigns, where nothing else has such a name.
abbrev pub NumbersWires : Net → Type 0
NumbersWires n = NoneNumbered n → names_of (helping_wires n) ≡ numbered (length (helping_wires n))
