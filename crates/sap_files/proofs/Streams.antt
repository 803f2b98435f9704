-- A level by its name, and streams of a design: what reading them comes to, and the names of inputs.
use Rattle.sap_lemmas.proofs.Common.{◌≡◌, ◌<◌, ℕ, List, length, sym, ◌∙◌, ap, subst, inl, inr, Option, Some, None, some_unique}
use Rattle.sap_lattice.specs.Levels.{Levels, order_by, order_of}
use Rattle.sap_latfile.specs.LatticeFile.{IsLatticeOfFile}
use Rattle.sap_latfile.specs.OneLattice.{AreSame}
use Rattle.sap_meaning.specs.Prelude.{Tagged, StreamFits}
use Rattle.sap_tree.specs.Syntax.{DesignTree}
use Rattle.sap_stim.specs.Fits.{StreamFits as LinesFit}
use Rattle.sap_stim.specs.declared.fault.StimFault.{StimFault}
use Rattle.sap_stim.specs.declared.stimulus.Parsed.{Parsed}
use Rattle.sap_stim.proofs.Fitting.{fits}
use Rattle.sap_stream.specs.Apart.{AreOfOneLength}
use Rattle.sap_sim.proofs.Fits.{counts}
use Rattle.sap_sim.specs.Prelude.{design_fields, read_for}
use Rattle.sap_sim.specs.Simulated.{read_for as read_for_module}
use Rattle.sap_net.specs.Net.{Net}
use Rattle.sap_sim.proofs.labelled.Designs.{fit_stream}
use Rattle.sap_interface.specs.Prelude.{named_of, world}
use Rattle.sap_files.specs.Prelude.{Ending, stimulus_refused, IsLawful, stream_by, stream_file, module_stream_file, Refuses}
use Rattle.sap_files.proofs.Alike.{read_in}

-- a stimulus file

fault_stream : (o : Option StimFault) (fault : StimFault) → o ≡ None → o ≡ Some fault → ⊥
fault_stream o fault none some = cc

lawful_by : (place : ℕ) (read : List ℕ → Parsed) → IsLawful (stream_by place read)
lawful_by place read = record {
  one_value = λ bytes v w is was. ap (λ (p : Parsed). p.stream) (sym is ∙ was);
  one_reason = λ bytes why other (fault, is, stands) (fault', was, stands').
      is ∙ ap (stimulus_refused place) (some_unique (read bytes).fault fault fault' stands stands') ∙ sym was;
  not_both = λ bytes v why is refusal. fault_stream (read bytes).fault refusal.0 (ap (λ (p : Parsed). p.fault) is) refusal.2;
}

pub stream_lawful : (place : ℕ) (ls : Levels) (d : DesignTree) → IsLawful (stream_file place ls d)
stream_lawful place ls d = lawful_by place (read_for ls d)

pub module_stream_lawful : (ls : Levels) (net : Net) → IsLawful (module_stream_file ls net)
module_stream_lawful ls net = lawful_by 1 (read_for_module ls net)

module _ (l m : Levels) (same : AreSame l m) (place : ℕ) (d : DesignTree) (bytes : List ℕ) where
  pub stream_in : (stream : List (List Tagged)) → (stream_file place l d).Stands bytes stream → (stream_file place m d).Stands bytes stream
  stream_in stream is = sym (read_in l m same d bytes) ∙ is

  pub stream_refused_in : (e : Ending) → Refuses (stream_file place l d) bytes e → Refuses (stream_file place m d) bytes e
  stream_refused_in e (inl is) = inl is
  stream_refused_in e (inr (why, is, (fault, was, stands))) =
      inr (why, is, (fault, was, ap (λ (p : Parsed). p.fault) (sym (read_in l m same d bytes)) ∙ stands))

-- its lines fit the design

bottom_level : (bytes : List ℕ) (ls : Levels) → IsLatticeOfFile bytes ls → (order_of ls).bottom < (order_of ls).count
unfolding order_of order_by
bottom_level bytes ls (names, pairs, file, is) = subst (λ (ns : List (List ℕ)). (order_of ls).bottom < length ns) (sym is.same_names) is.bottom.level

module _ (lattice : List ℕ) (ls : Levels) (is : IsLatticeOfFile lattice ls) (d : DesignTree) where
  lines_fit : (place : ℕ) (bytes : List ℕ) (stream : List (List Tagged)) → (stream_file place ls d).Stands bytes stream → LinesFit ls (design_fields d) stream
  lines_fit place bytes stream stands =
      subst (λ (p : Parsed). LinesFit ls (design_fields d) p.stream) stands (fits ls (design_fields d) bytes (bottom_level lattice ls is))

  pub stream_fits : (place : ℕ) (bytes : List ℕ) (stream : List (List Tagged)) → (stream_file place ls d).Stands bytes stream → StreamFits (world (named_of ls d)) stream
  stream_fits place bytes stream stands = fit_stream ls d stream (lines_fit place bytes stream stands)

  pub one_length : (bytes more : List ℕ) (one other : List (List Tagged)) → (stream_file 1 ls d).Stands bytes one → (stream_file 2 ls d).Stands more other
      → AreOfOneLength one other
  one_length bytes more one other stands also = (
    length (design_fields d),
    counts ls (design_fields d) one (lines_fit 1 bytes one stands),
    counts ls (design_fields d) other (lines_fit 2 more other also),
  )
