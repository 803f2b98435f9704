-- A netlist whose right sides are folded and shared.
use Rattle.std.specs.Prelude.{◌≡◌, true, false, List, ◌++◌}
use Rattle.std.specs.List.{AllByRecursion}
use Rattle.sap_net.specs.Net.{Net}
use Rattle.sap_net.specs.declared.parts.Wire.{Wire}
use Rattle.sap_share.specs.Differing.{AllDiffer}
use Rattle.sap_fold.specs.Settled.{IsSettled, is_copy}

-- Its wires differ, fold no further and are no copies, but for copies behind them.
pub record IsFolded (n : Net) : Type 0 where
  pub helping : List Wire
  pub copies : List Wire
  pub wires : n.wires ≡ helping ++ copies
  pub differ : AllDiffer helping
  pub settled : AllByRecursion IsSettled helping
  pub calculated : AllByRecursion (λ w. is_copy w.right ≡ false) helping
  pub copied : AllByRecursion (λ w. is_copy w.right ≡ true) copies
