-- Runs with the taint of each name.
use Rattle.std.specs.Prelude.{◌≡◌, ℕ, List, [], ◌∷◌, Option, Some, None, map}
use Rattle.std.specs.Option.{option_map}
use Rattle.std.specs.List.{AllByRecursion, AllZip}
use Rattle.sap_maps.specs.Maps.{Name, Valuation}
use Rattle.sap_maps.specs.Scope.{find}
use Rattle.sap_net.specs.declared.parts.Operand.{Operand}
use Rattle.sap_net.specs.declared.parts.Input.{Input}
use Rattle.sap_net.specs.declared.parts.Memory.{Memory}
use Rattle.sap_net.specs.Net.{Net}
use Rattle.sap_net.specs.Runs.{IsCycle, observed}
use Rattle.sap_taint.specs.Tags.{Tags, operand_tag, TagsHold, written_tag}

-- What an input gets in a cycle: a number with its tag.
pub record TaggedNumber : Type 0 where
  pub number : ℕ
  pub tag : ℕ

-- The numbers of tagged inputs.
abbrev pub numbers_of : List TaggedNumber → List ℕ
numbers_of inputs = map (λ x. x.number) inputs

-- A number and a tag for each name.
pub record TaggedValuation : Type 0 where
  pub numbers : Valuation
  pub tags : Tags

-- The tags that a cycle begins with: 0 in the first one; in each later one a register has the tag of its right side in
-- the cycle before, and a memory the tag that it took there.
abbrev pub TagsBegin : Net → (before : Option TaggedValuation) → Tags → Type 0
TagsBegin n None t = AllByRecursion (λ r. t.value r.name ≡ 0) n.registers
    × AllByRecursion (λ m. t.memory m.name ≡ 0) n.memories
TagsBegin n (Some p) t =
    AllByRecursion (λ r. t.value r.name ≡ operand_tag p.tags r.next) n.registers
    × AllByRecursion (λ m. t.memory m.name ≡ written_tag p.numbers p.tags m) n.memories

-- The inputs have these tags.
abbrev pub TagsGiven : Tags → List Input → List TaggedNumber → Type 0
TagsGiven t = AllZip (λ (i : Input) (x : TaggedNumber). t.value i.name ≡ x.tag)

-- The cycle after `before`, or the first, on these inputs: a cycle of the netlist, with the taint of each name in it.
pub record IsTaintedCycle (n : Net) (before : Option TaggedValuation) (inputs : List TaggedNumber)
    (c : TaggedValuation) : Type 0 where
  pub runs : IsCycle n (option_map (λ p. p.numbers) before) (numbers_of inputs) c.numbers
  pub begins : TagsBegin n before c.tags
  pub given : TagsGiven c.tags n.inputs inputs
  pub wires : TagsHold c.tags n.wires

-- The cycles after `before`, one on each list of inputs.
abbrev pub IsTaintedRunAfter : Net → (before : Option TaggedValuation) → List (List TaggedNumber)
    → List TaggedValuation → Type 0
IsTaintedRunAfter n before [] [] = Unit {0}
IsTaintedRunAfter n before [] (c ∷ cs) = ⊥
IsTaintedRunAfter n before (xs ∷ xss) [] = ⊥
IsTaintedRunAfter n before (xs ∷ xss) (c ∷ cs) = IsTaintedCycle n before xs c × IsTaintedRunAfter n (Some c) xss cs

-- A run of the netlist, with the taint of each name in each cycle.
abbrev pub IsTaintedRun : Net → List (List TaggedNumber) → List TaggedValuation → Type 0
IsTaintedRun n xss cs = IsTaintedRunAfter n None xss cs

-- What is seen of a cycle: inputs and wires before its edge, registers and memories after it, with their tags.
abbrev pub value_tag_after : Tags → Name → Option Operand → ℕ
value_tag_after t x None = t.value x
value_tag_after t x (Some next) = operand_tag t next

-- The tag of a memory after a clock edge: with a write's tags, else what was there.
abbrev pub memory_tag_after : TaggedValuation → Name → Option Memory → ℕ
memory_tag_after c x None = c.tags.memory x
memory_tag_after c x (Some m) = written_tag c.numbers c.tags m

-- The numbers and tags after the clock edge of a cycle.
abbrev pub observed_with_tags : Net → TaggedValuation → TaggedValuation
observed_with_tags n c =
    record {
      numbers = observed n c.numbers;
      tags =
          record {
            value = λ x. value_tag_after c.tags x (find (map (λ r. (r.name, r.next)) n.registers) x);
            memory = λ x. memory_tag_after c x (find (map (λ m. (m.name, m)) n.memories) x);
          };
    }
