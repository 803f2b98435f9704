-- What a dump tells: its variables, and their numbers after each block.
use Rattle.std.specs.Prelude.{◌≡◌, ℕ, ◌<◌, ◌≤◌, ◌^◌, List, true, length, map}
use Rattle.std.specs.List.{AllByRecursion, AllZip}
use Rattle.sap_maps.specs.Maps.{Name}
use Rattle.sap_maps.specs.Ranges.{IsWidth}
use Rattle.sap_net.specs.Names.{is_name, AreDistinct}
use Rattle.sap_wave.specs.declared.variable.Variable.{Variable}

-- The variables in order, and the number of each after each block, block 0 first.
pub record Wave : Type 0 where
  pub variables : List Variable
  pub blocks : List (List ℕ)

-- The names of variables.
abbrev pub names_of : List Variable → List Name
names_of xs = map (λ x. x.name) xs

-- Variables that can be declared.
pub record AreVariables (xs : List Variable) : Type 0 where
  pub named : AllByRecursion (λ x. is_name x.name ≡ true) xs
  pub sized : AllByRecursion (λ x. IsWidth x.width) xs
  pub distinct : AreDistinct (names_of xs)

-- One number for each variable, within its width.
abbrev pub NumbersFit : List Variable → List ℕ → Type 0
NumbersFit = AllZip (λ (x : Variable) (n : ℕ). n < 2 ^ x.width)

-- A wave that a dump can tell: variables that can be declared, a block or more, and in each a number for each variable,
-- within its width.
pub record IsFit (w : Wave) : Type 0 where
  pub variables : AreVariables w.variables
  pub begun : 1 ≤ length w.blocks
  pub numbers : AllByRecursion (NumbersFit w.variables) w.blocks
