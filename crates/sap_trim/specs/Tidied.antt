-- A netlist of the wires that another one needs, each folded by itself.
use Rattle.std.specs.Prelude.{◌≤◌, length}
use Rattle.sap_net.specs.Net.{Net}
use Rattle.sap_net.specs.IsNetlist.{IsNetlist}
use Rattle.sap_trim.specs.Alike.{DeclaresAlike, RunsAlike}
use Rattle.sap_trim.specs.Few.{NeedsNoMore, most_left}
use Rattle.sap_trim.specs.Folded.{IsFolded}
use Rattle.sap_trim.specs.Reads.{ReadsWires}
use Rattle.sap_share.specs.Copying.{CopiesPorts}
use Rattle.sap_trim.specs.Trimmed.{FoldsWires, NamesWires, NumbersWires, SharesWires}
use Rattle.sap_trim.specs.Walked.{State, StandForThemselves}

-- What holds of it, where the walk over the given one begins so.
pub record Tidied (given : Net) (begin : State) (result : Net) : Type 0 where
  pub rules : IsNetlist result
  pub declares : DeclaresAlike given result
  pub same : RunsAlike given result
  pub named : NamesWires result
  pub numbered : NumbersWires result
  pub shared : SharesWires result
  pub settled : FoldsWires result
  pub copies : CopiesPorts result
  pub left : length result.wires ≤ most_left given
  -- where the given one is folded and inputs and registers stand for themselves
  pub read : IsFolded given → StandForThemselves given begin → ReadsWires result

-- What holds of a netlist of all wires of another one, each folded by itself.
pub record SettledNet (given result : Net) : Type 0 where
  pub rules : IsNetlist result
  pub declares : DeclaresAlike given result
  pub same : RunsAlike given result
  pub folded : IsFolded result
  pub few : NeedsNoMore given result
