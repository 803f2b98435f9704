-- What the law asks of a design's program.
use Rattle.std.proofs.Common.{◌≡◌, ℕ, ◌+◌, ◌^◌, ◌<◌, ◌≤◌, ◌==◌, true, bit_or, nat_le}
use Rattle.sap_meaning.specs.Prelude.{root, children, FineProgram, ExactProgram, program_sites, numbers_from}
use Rattle.sap_net.specs.Names.{AreDistinct}
use Rattle.sap_ir.specs.Prelude.{declared, declarations}
use Rattle.sap_interface.specs.StandsFor.{Named, world}
use Rattle.sap_tagged.specs.Prelude.{FewGroup, plain_of}
use Rattle.sap_tagged.proofs.KeyNames.{NamesApart}

pub record Design (d : Named) (tag sites : ℕ) : Type 0 where
  pub fine : FineProgram d.program
  pub exact : ExactProgram d.program
  pub few_arms : FewGroup d.program.states
  pub numbered : program_sites d.program ≡ numbers_from 1 sites
  pub few : 1 + sites ≤ 2 ^ 64
  pub few_children : (p : ℕ) → children (world d) p ≤ 2 ^ 64
  pub names : NamesApart d
  -- what has children is an entity or the root
  pub parents : (p : ℕ) → 0 < children (world d) p → nat_le p (root (world d)) ≡ true
  pub joined : (x y : ℕ) → d.code ((world d).order.join x y) ≡ bit_or (d.code x) (d.code y)
  pub within : (x y : ℕ) → (bit_or (d.code x) (d.code y) == d.code y) ≡ (world d).order.le x y
  pub small : (x : ℕ) → d.code x < 2 ^ tag
  pub distinct : AreDistinct (declared (declarations (plain_of d tag sites)))
