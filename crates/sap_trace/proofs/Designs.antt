-- A netlist that stands for a design, on the streams that a stimulus gives.
use Rattle.std.proofs.Common.{◌≡◌, ℕ, ◌<◌, List, length, map, arith}
use Rattle.sap_tree.specs.Syntax.{DesignTree}
use Rattle.sap_lattice.specs.Prelude.{Levels, order_of, Laws, Codes}
use Rattle.sap_maps.specs.Maps.{Valuation}
use Rattle.sap_meaning.specs.Prelude.{Store, Tagged, cycle, StreamFits, first, program_sites, refused_sites, Sublist}
use Rattle.sap_net.specs.Prelude.{Net, AllFit, IsRun, observed}
use Rattle.sap_interface.specs.Prelude.{world, named_of, StandsForDesign}
use Rattle.sap_interface.specs.Designs as interface
use Rattle.sap_resolved.specs.Fill.{program_of}
use Rattle.sap_stim.specs.Fits.{StimulusFits}
use Rattle.sap_check.specs.Sites.{sites_of}
use Rattle.sap_sim.specs.Prelude.{design_fields, read_for}
use Rattle.sap_sim.proofs.labelled.Designs.{fit_stream}
use Rattle.sap_secure.specs.CheckSites.Numbering.{OneNumbering}
use Rattle.sap_secure.proofs.check_sites.Counts.{count_is}
use Rattle.sap_trace.specs.Given.{given}
use Rattle.sap_trace.specs.Lines.{labelled_trace}
use Rattle.sap_trace.specs.Seen.{HasSiteWires, lines_from}
use Rattle.sap_trace.proofs.Runs.{lines_stand}

module _ (ls : Levels) (d : DesignTree) (n : Net) (stands : StandsForDesign ls d n) where
  pub site_wires : HasSiteWires ls d n
  site_wires k p q = let e : interface.site_count_of d ≡ length (sites_of d) = count_is d in stands.interface.declares.part.site_wires k p (omega arith)

  module _ (laws : Laws (order_of ls)) (fit : StimulusFits) (bytes : List ℕ) where
    fitting : StreamFits (world (named_of ls d)) (read_for ls d bytes).stream
    fitting = fit_stream ls d (read_for ls d bytes).stream (fit ls (design_fields d) bytes laws.bottom_is_level)

    pub inputs_fit : AllFit n.inputs (map (given ls) (read_for ls d bytes).stream)
    inputs_fit = stands.takes (read_for ls d bytes).stream fitting

    -- the lines of the netlist's run
    pub trace_is : Codes (order_of ls) → 0 < length ls.names → OneNumbering ls d
        → ((inputs : List Tagged) (s : Store) → Sublist (refused_sites (cycle (program_of ls d) inputs s).refused) (program_sites (program_of ls d)))
        → (vs : List Valuation) → IsRun n (map (given ls) (read_for ls d bytes).stream) vs
        → lines_from ls d 1 (map (observed n) vs) ≡ labelled_trace ls d (read_for ls d bytes).stream
    trace_is codes some one in_order vs run =
        let stream = (read_for ls d bytes).stream in
        lines_stand ls d codes some one n in_order 1 vs stream (first (program_of ls d).world) (stands.stands stream fitting vs run)
