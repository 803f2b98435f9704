-- Cycles of a module that agree and look alike at low, and cycles that don't. Level 0 is low, level 1 is high.
use Rattle.std.specs.Prelude.{ℕ, [], ◌∷◌, codes, unwrap_or}
use Rattle.sap_lattice.specs.Codes.{code_of}
use Rattle.sap_maps.specs.Maps.{Valuation}
use Rattle.sap_maps.specs.Scope.{find}
use Rattle.sap_meaning.specs.Examples.{two_levels, enforced_states}
use Rattle.sap_interface.specs.StandsFor.{Named}
use Rattle.sap_compile.specs.Agree.{CyclesAgree, CyclesLookAlike}

-- Input a : 8; reg x : 8 dynamic; state S enforced low and state T enforced high, with three check sites.
abbrev pub compared_design : Named
compared_design = record {
  program = enforced_states;
  names = codes "a" ∷ codes "x" ∷ codes "S" ∷ codes "T" ∷ [];
  code = code_of two_levels;
}

-- What a cycle shows: x and its tag, T's tag, the place of the root's current child, whether site 1 is refused and the
-- tag of that. S's tag is low, and no other site is refused.
pub record Shown : Type 0 where
  pub x : ℕ
  pub x_tag : ℕ
  pub t_tag : ℕ
  pub child : ℕ
  pub refused : ℕ
  pub refused_tag : ℕ

-- The numbers of a cycle that is compared.
abbrev pub numbers_of : Shown → Valuation
numbers_of c = record {
  value = λ name. unwrap_or (find ((codes "v_x", c.x) ∷ (codes "t_x", c.x_tag) ∷ (codes "t_T", c.t_tag)
      ∷ (codes "s_0", c.child)
      ∷ (codes "c_1", c.refused) ∷ (codes "l_1", c.refused_tag) ∷ []) name) 0;
  cell = λ memory index. 0;
}

-- `x` is 5 at low, T is at high, S is the current child, and nothing is refused.
abbrev pub calm : Shown
calm = record { x = 5; x_tag = 0; t_tag = 1; child = 0; refused = 0; refused_tag = 0 }

-- What a relation of two cycles says of pairs that differ in high things, or in one low thing.
pub record TellsApart (R : Valuation → Valuation → Type 0) : Type 0 where
  -- They differ in x's number, at high in both, and in a refusal at high.
  pub high_things : R (numbers_of (record calm { x_tag = 1; refused = 1; refused_tag = 1 }))
      (numbers_of (record calm { x = 6; x_tag = 1 }))
  -- Each of these pairs differs in one thing: in x's number, at low in both; ..
  pub register : R (numbers_of calm) (numbers_of (record calm { x = 6 })) → ⊥
  -- .. in x's tag, low in one alone; ..
  pub tag : R (numbers_of calm) (numbers_of (record calm { x_tag = 1 })) → ⊥
  -- .. in T's tag, which only low data may change; ..
  pub enforced_tag : R (numbers_of calm) (numbers_of (record calm { t_tag = 0 })) → ⊥
  -- .. in a refusal at low; ..
  pub refusal : R (numbers_of calm) (numbers_of (record calm { refused = 1 })) → ⊥
  -- .. and in the current child of the root, S at low or T at high.
  pub child : R (numbers_of calm) (numbers_of (record calm { child = 1 })) → ⊥

-- The relation on what cycles stand for tells the pairs apart.
abbrev pub ComparedCycles : Type 0
ComparedCycles = TellsApart (CyclesAgree compared_design 3 0)

-- The relation on numbers tells the pairs apart.
abbrev pub ComparedNumbers : Type 0
ComparedNumbers = TellsApart (CyclesLookAlike compared_design 3 0)
