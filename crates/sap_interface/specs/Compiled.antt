-- When a netlist stands for a design.
use Rattle.std.specs.Prelude.{ℕ, List, [], ◌∷◌, map}
use Rattle.std.specs.List.{AllZip}
use Rattle.sap_maps.specs.Maps.{Valuation}
use Rattle.sap_meaning.specs.Cycle.{Tagged}
use Rattle.sap_meaning.specs.Store.{After}
use Rattle.sap_meaning.specs.State.{first, StreamFits, labelled_run}
use Rattle.sap_net.specs.Net.{Net}
use Rattle.sap_net.specs.Runs.{initial, AllFit, IsRun, observed}
use Rattle.sap_interface.specs.StandsFor.{Named, world, StandsFor}
use Rattle.sap_interface.specs.Interface.{HasInterface}

-- The numbers of a module's input ports in a cycle: for each input of the design its number, then the code of its
-- level.
abbrev pub coded : (code : ℕ → ℕ) → List Tagged → List ℕ
coded code [] = []
coded code (t ∷ ts) = t.number ∷ code t.level ∷ coded code ts

-- A stream with each level replaced by its code.
abbrev pub coded_stream : (code : ℕ → ℕ) → List (List Tagged) → List (List ℕ)
coded_stream code stream = map (coded code) stream

-- Each cycle of a module stands for the same cycle of a labelled run.
abbrev pub CyclesStand : Named → (sites : ℕ) → List Valuation → List After → Type 0
CyclesStand d sites = AllZip (λ (v : Valuation) (a : After). StandsFor d sites v a.store a.refused)

-- The netlist has the interface of the design, and takes every stream that fits it, its levels given as codes. Each
-- cycle of its runs on such a stream stands for the same cycle of the labelled run. `tag` is the width of tags.
pub record NetStandsFor (d : Named) (tag sites : ℕ) (n : Net) : Type 0 where
  pub interface : HasInterface d tag sites n
  pub takes : (stream : List (List Tagged)) → StreamFits (world d) stream → AllFit n.inputs (coded_stream d.code stream)
  pub stands : (stream : List (List Tagged)) → StreamFits (world d) stream
      → (vs : List Valuation) → IsRun n (coded_stream d.code stream) vs
      → CyclesStand d sites (map (observed n) vs) (labelled_run d.program stream)

-- The numbers before the first cycle stand for the design's first state, with nothing refused: each register, each
-- memory's cell, each state's tag and each current child has the number, or the code of the level, that it has there.
abbrev pub NetStartsAs : Named → (sites : ℕ) → Net → Type 0
NetStartsAs d sites n = StandsFor d sites (initial n) (first (world d)) []
