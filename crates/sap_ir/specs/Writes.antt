-- Which memories are written in a cycle.
use Rattle.std.specs.Prelude.{ℕ, ◌^◌, ◌<◌, ◌==◌, List, [], ◌∷◌, Option, Some, None, if◌then◌else◌}
use Rattle.std.specs.List.{AllByRecursion, AllZip}
use Rattle.sap_maps.specs.Maps.{Name, Valuation}
use Rattle.sap_net.specs.Names.{AreDistinct}
use Rattle.sap_ir.specs.declared.guarded.Var.{Var}
use Rattle.sap_ir.specs.Source.{Action, set, put, Command, Source, width_of}
use Rattle.sap_ir.specs.Guarded.{Going, value_in, after_command, begun}

-- The memory that an action writes, in front of others.
abbrev pub with_memory : Action → List Name → List Name
with_memory (set x a) ms = ms
with_memory (put m i a) ms = m ∷ ms

-- The memories that some commands write, in order.
abbrev pub memories_written : (widths : Name → ℕ) → Going → List Command → List Name
memories_written widths g [] = []
memories_written widths g (c ∷ cs) =
    let others = memories_written widths (after_command widths g c) cs in
    if value_in widths g c.when == 0 then others else with_memory c.act others

-- Registers and memories are within their widths.
pub record AreWithin (s : Source) (v : Valuation) : Type 0 where
  pub registers : AllByRecursion (λ x. v.value x.name < 2 ^ x.width) s.registers
  pub memories : AllByRecursion (λ m. (i : ℕ) → v.cell m.name i < 2 ^ m.width) s.memories

-- The cycle before, if there was one, keeps within the widths.
abbrev pub WithinBefore : Source → Option Valuation → Type 0
WithinBefore s None = Unit {0}
WithinBefore s (Some v) = AreWithin s v

-- One number for each input, within its width.
abbrev pub NumbersFit : List Var → List ℕ → Type 0
NumbersFit = AllZip (λ (x : Var) (n : ℕ). n < 2 ^ x.width)

-- In no cycle, from any numbers within their widths, is a memory written twice.
abbrev pub WritesOnce : Source → Type 0
WritesOnce s =
    (before : Option Valuation) (numbers : List ℕ) → WithinBefore s before → NumbersFit s.inputs numbers
    → AreDistinct (memories_written (width_of s) (begun s before numbers) s.commands)
