-- The whole text of a stimulus, of which the text of its first lines is the beginning.
use Rattle.sap_lemmas.proofs.Common.{◌≡◌, ℕ, List, ◌++◌, ◌+◌, append_assoc, length, map, take, sym, ◌∙◌, ap, arith, length-append, None, take-append-le, take_all}
use Rattle.sap_lattice.specs.Prelude.{width_of, Levels, order_of}
use Rattle.sap_maps.specs.Maps.{Valuation}
use Rattle.sap_meaning.specs.Cycle.{Tagged as Given}
use Rattle.sap_net.specs.Prelude.{IsNetlist, SomeRun, Net, AllFit, IsRun, observed, register_ports}
use Rattle.sap_net.proofs.Same.{run_same}
use Rattle.sap_sim.specs.Prelude.{fields_of, numbers_of, rows_from, shown_registers, AreRows, RowsAddUp, rows_of, design_fields, read_for as read_lines}
use Rattle.sap_sim.specs.Simulated.{read_for}
use Rattle.sap_sim.proofs.Registers.{all_shown}
use Rattle.sap_tree.specs.Syntax.{DesignTree}
use Rattle.sap_trace.specs.Lines.{labelled_trace}
use Rattle.sap_trace.specs.Stepping.{AreLines, LinesAddUp, trace_as}
use Rattle.sap_files.specs.Prelude.{IsPrefix, HasWhole}
use Rattle.sap_files.proofs.NetsAlike.{run_rows_same}

pub prefix_of : (part rest whole : List ℕ) → whole ≡ part ++ rest → IsPrefix part whole
prefix_of part rest whole is =
    let size : length whole ≡ length part + length rest = ap length is ∙ length-append part rest in
    let front : take (length part) whole ≡ part
    = ap (take (length part)) is ∙ take-append-le (length part) part rest (omega arith) ∙ take_all (length part) part (omega arith) in
    (length part, omega (arith, size), sym front)

-- a part of a text that the whole goes on from
pub prefix_on : (part more rest whole : List ℕ) → whole ≡ (part ++ more) ++ rest → IsPrefix part whole
prefix_on part more rest whole is = prefix_of part (more ++ rest) whole (is ∙ append_assoc part more rest)

module _ (ls : Levels) (n : Net) (rules : IsNetlist n) (some : SomeRun n) (adds : RowsAddUp ls n)
    (fit : (bytes : List ℕ) → AllFit n.inputs (map (numbers_of ls n) (read_for ls n bytes).stream)) where
  abbrev rows_of_run : (run : List Valuation) → List ℕ
  rows_of_run run = rows_from ls (shown_registers ls n) 1 (map (observed n) run)

  whole_rows : (lines : List (List Given)) (run : List Valuation) → IsRun n (map (numbers_of ls n) lines) run → AreRows ls n lines (rows_of_run run)
  whole_rows lines run is = λ other also.
      run_rows_same ls n rules (shown_registers ls n) (all_shown (width_of (order_of ls)) n (register_ports n.ports)) 1 run other
      (run_same n rules (map (numbers_of ls n) lines) None None run other tt is also)

  pub has_whole : HasWhole (AreRows ls n) ls (fields_of ls n)
  has_whole bytes gained part =
      let (run, is) = some (map (numbers_of ls n) (read_for ls n bytes).stream) (fit bytes) in
      let whole = rows_of_run run in
      let shown : AreRows ls n (read_for ls n bytes).stream whole = whole_rows (read_for ls n bytes).stream run is in
      let (rest, goes_on) = adds.part bytes (gained ++ part.rest) part.lines part.more (rows_of whole (read_for ls n bytes).fault) part.stream part.shown
      (adds.whole bytes whole shown) in
      (whole, shown, prefix_on gained part.rest rest whole goes_on)

module _ (ls : Levels) (d : DesignTree) (n : Net) (adds : LinesAddUp ls d n) where
  pub has_whole_lines : HasWhole (AreLines ls d n) ls (design_fields d)
  has_whole_lines bytes gained part =
      let whole = labelled_trace ls d (read_lines ls d bytes).stream in
      let shown : AreLines ls d n (read_lines ls d bytes).stream whole = adds.all bytes in
      let (rest, goes_on) = adds.part bytes (gained ++ part.rest) part.lines part.more (trace_as whole (read_lines ls d bytes).fault) part.stream part.shown
      (adds.whole bytes whole shown) in
      (whole, shown, prefix_on gained part.rest rest whole goes_on)
