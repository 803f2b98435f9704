-- Cycles with tags that agree at low, and cycles that don't. The code of low is 0, that of high is 1.
use Rattle.std.specs.Prelude.{◌≡◌, ℕ, codes, bytes_eq, if◌then◌else◌}
use Rattle.sap_lattice.specs.Codes.{code_of}
use Rattle.sap_meaning.specs.Codes.{LookAlike}
use Rattle.sap_meaning.specs.Examples.{two_levels}
use Rattle.sap_taint.specs.Runs.{TaggedValuation}
use Rattle.sap_taint.specs.Alike.{AreRelated}
use Rattle.sap_taint.specs.Examples.{storing}

-- The register v_y has this number with this tag, each cell of the memory v_m has this number, and all of it has this
-- tag. All else is 0 with the tag 0.
abbrev pub cycle_with : (y y_tag cell m_tag : ℕ) → TaggedValuation
cycle_with y y_tag cell m_tag = record {
  numbers = record { value = λ name. if bytes_eq name (codes "v_y") then y else 0; cell = λ memory index. cell };
  tags = record { value = λ name. if bytes_eq name (codes "v_y") then y_tag else 0; memory = λ memory. m_tag };
}

-- Two cycles agree at the lowest level.
abbrev pub AgreeAtLow : (one other : TaggedValuation) → Type 0
AgreeAtLow one other = AreRelated (LookAlike two_levels (code_of two_levels) 0) storing one other

-- Cycles that differ in high things alone agree; such as differ in a low number or a low tag don't.
pub record ComparedTaint : Type 0 where
  pub codes : (code_of two_levels 0 ≡ 0) × (code_of two_levels 1 ≡ 1)
  -- They differ in the numbers of v_y and of v_m's cells, with high tags in both.
  pub high_things : AgreeAtLow (cycle_with 5 1 3 1) (cycle_with 6 1 4 1)
  -- Each of these pairs differs in one thing: in v_y's number, with a low tag in both; ..
  pub number : AgreeAtLow (cycle_with 5 0 3 0) (cycle_with 6 0 3 0) → ⊥
  -- .. in v_y's tag, low in one alone; ..
  pub tag : AgreeAtLow (cycle_with 5 0 3 0) (cycle_with 5 1 3 0) → ⊥
  -- .. in the numbers of v_m's cells, with a low tag in both; ..
  pub cell : AgreeAtLow (cycle_with 5 0 3 0) (cycle_with 5 0 4 0) → ⊥
  -- .. and in v_m's tag, low in one alone.
  pub memory_tag : AgreeAtLow (cycle_with 5 0 3 0) (cycle_with 5 0 3 1) → ⊥
  -- A tag that is the code of no level agrees with none, itself included.
  pub no_code : AgreeAtLow (cycle_with 5 2 3 0) (cycle_with 5 2 3 0) → ⊥
