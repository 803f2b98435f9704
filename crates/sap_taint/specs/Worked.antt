-- What names, clashes, tags and runs come to, worked by hand.
use Rattle.std.specs.Prelude.{◌≡◌, ℕ, [], ◌∷◌, codes, unwrap_or}
use Rattle.sap_bits.specs.declared.Op2.TheVariants.{Add, And}
use Rattle.sap_maps.specs.Maps.{Name, Valuation}
use Rattle.sap_maps.specs.Scope.{find}
use Rattle.sap_net.specs.declared.parts.Operand.TheVariants.{Named, Constant}
use Rattle.sap_net.specs.declared.parts.Right.{Right}
use Rattle.sap_net.specs.declared.parts.Right.TheVariants.{Copy, Two, Choose, Concat, Slice, Cell}
use Rattle.sap_net.specs.declared.parts.Memory.{Memory}
use Rattle.sap_net.specs.Summing.{summing}
use Rattle.sap_net.specs.IsNetlist.{IsNetlist}
use Rattle.sap_taint.specs.TagNames.{name_of_tag, IsClash, HasRoomForTags}
use Rattle.sap_taint.specs.Tags.{Tags, right_tag, written_tag}
use Rattle.sap_taint.specs.Runs.{TaggedValuation, IsTaintedRun, observed_with_tags}
use Rattle.sap_taint.specs.Examples.{handing_on, handing_tags_on, swapping, storing, storing_tags}

-- The one name is that of the other's tag.
abbrev IsTagOf : Name → Name → Type 0
IsTagOf tag name = name_of_tag name ≡ tag

-- The names of some tags, worked out by hand.
pub record WorkedNames : Type 0 where
  pub of_value : IsTagOf (codes "t_x") (codes "v_x")
  pub of_longer_value : IsTagOf (codes "t_p_x") (codes "v_p_x")
  pub of_wire : IsTagOf (codes "t_n1") (codes "n1")
  pub of_tag : IsTagOf (codes "t_t_x") (codes "t_x")
  pub of_bare_value : IsTagOf (codes "t_v_") (codes "v_")

-- Netlists with room for tags, and some without.
pub record WorkedClashes : Type 0 where
  pub room : HasRoomForTags handing_on
  pub room_with_memory : HasRoomForTags summing
  -- a tag would have a declared name
  pub with_name : IsClash swapping (codes "v_x")
  -- so too the first name of a netlist that has tags already
  pub again : IsClash handing_tags_on (codes "v_a")
  -- `v_x` and `x` both want `t_x`
  pub with_tag : IsClash (record handing_on { names = codes "v_x" ∷ codes "x" ∷ [] }) (codes "x")
  pub with_module : IsClash (record handing_on { module_name = codes "t_y" }) (codes "v_y")

-- The names a, b and c have the tags 1, 2 and 4 here, and every memory the tag 8.
abbrev some_tags : Tags
some_tags = record {
  value = λ x. unwrap_or (find ((codes "a", 1) ∷ (codes "b", 2) ∷ (codes "c", 4) ∷ []) x) 0;
  memory = λ _. 8;
}

-- The right side has this tag, where the names' tags are those of the example.
abbrev HasTag : Right → ℕ → Type 0
HasTag right tag = right_tag some_tags right ≡ tag

-- Every name is n here, and every cell 0.
abbrev all_are : ℕ → Valuation
all_are n = record { value = λ _. n; cell = λ _ _. 0 }

-- A memory whose write port reads names.
abbrev by_names : Memory
by_names =
    record {
      name = codes "m";
      width = 1;
      depth = 2;
      start = 0;
      enable = Named (codes "c");
      index = Named (codes "a");
      value = Named (codes "b");
    }

-- The memory takes this tag at the edge.
abbrev TakesTag : Valuation → ℕ → Type 0
TakesTag v tag = written_tag v some_tags by_names ≡ tag

-- The tags of some right sides, worked out by hand.
pub record WorkedTags : Type 0 where
  pub constant : HasTag (Copy (Constant 8 5)) 0
  pub copy : HasTag (Copy (Named (codes "a"))) 1
  pub both_operands : HasTag (Two Add (Named (codes "a")) (Named (codes "b"))) 3
  -- though no bit of the operand can be seen in the result
  pub masked_out : HasTag (Two And (Named (codes "a")) (Constant 8 0)) 1
  -- though both choices are the same
  pub condition : HasTag (Choose (Named (codes "c")) (Constant 8 1) (Constant 8 1)) 4
  -- the choice not taken counts too
  pub choices : HasTag (Choose (Constant 1 1) (Named (codes "a")) (Named (codes "b"))) 3
  pub slice : HasTag (Slice (codes "a") 3 0) 1
  pub concatenation : HasTag (Concat (Named (codes "b") ∷ Constant 1 0 ∷ Named (codes "c") ∷ [])) 6
  pub cell_at_constant : HasTag (Cell (codes "m") (Constant 1 0)) 8
  pub cell_at_name : HasTag (Cell (codes "m") (Named (codes "a"))) 9
  -- of the condition alone, where it is 0
  pub not_written : TakesTag (all_are 0) 12
  pub written : TakesTag (all_are 1) 15

-- A name has this number, with this tag.
abbrev Has : TaggedValuation → Name → (number tag : ℕ) → Type 0
Has c x number tag = (c.numbers.value x ≡ number) × (c.tags.value x ≡ tag)

-- The first cell of a memory has this number, all cells this tag.
abbrev HasCell : TaggedValuation → Name → (number tag : ℕ) → Type 0
HasCell c m number tag = (c.numbers.cell m 0 ≡ number) × (c.tags.memory m ≡ tag)

-- The register hands on 5 with the tag 1, and then 1 with the tag 0.
abbrev pub HandsOn : Type 0
HandsOn =
    (c d : TaggedValuation)
    → IsTaintedRun handing_on ((record { number = 5; tag = 1 } ∷ [])
    ∷ (record { number = 1; tag = 0 } ∷ []) ∷ []) (c ∷ d ∷ [])
    → let first = observed_with_tags handing_on c in let second = observed_with_tags handing_on d in
    Has first (codes "v_x") 5 1 × Has first (codes "v_y") 0 0 × Has second (codes "v_x") 6 1
    × Has second (codes "v_y") 5 1

-- Nothing is written in the first cycle, where the condition is 0 with the tag 1 and the value has the tag 2; 7 is in
-- the second, where the condition is 1 with the tag 0. The memory takes the condition's tag in the first cycle, the
-- value's in the second, and keeps both; v_y takes the cell as it was, with the memory's tag of then.
abbrev pub Stores : Type 0
Stores =
    (c d : TaggedValuation)
    → IsTaintedRun storing
    ((record { number = 0; tag = 1 } ∷ record { number = 5; tag = 2 } ∷ [])
    ∷ (record { number = 1; tag = 0 } ∷ record { number = 7; tag = 2 } ∷ []) ∷ [])
    (c ∷ d ∷ [])
    → let first = observed_with_tags storing c in let second = observed_with_tags storing d in
    HasCell first (codes "v_m") 0 1 × Has first (codes "v_y") 0 0 × HasCell second (codes "v_m") 7 3
    × Has second (codes "v_y") 0 1

-- They are netlists, so those two have such runs.
pub record AreNetlists : Type 0 where
  pub hands : IsNetlist handing_on
  pub hands_tags : IsNetlist handing_tags_on
  pub stores : IsNetlist storing
  pub stores_tags : IsNetlist storing_tags
