-- What comparing two streams of a design comes to: the line of those that agree, or why they are refused.
use Rattle.std.proofs.Common.{◌≡◌, ℕ, List, length, sym, subst, inl, inr, Err}
use Rattle.std.specs.Prelude.{Option, Some}
use Rattle.sap_lattice.specs.Prelude.{Levels, order_of, Order}
use Rattle.sap_latfile.specs.LatticeFile.{IsLatticeOfFile}
use Rattle.sap_meaning.specs.Prelude.{StreamsAgree, StreamFits, Tagged}
use Rattle.sap_tree.specs.Syntax.{DesignTree}
use Rattle.sap_stream.specs.Apart.{IsApart}
use Rattle.sap_stream.specs.declared.apart.Apart.{Apart}
use Rattle.sap_net.specs.Net.{Net}
use Rattle.sap_interface.specs.Prelude.{named_of, world}
use Rattle.sap_compile.specs.Compiles.{IsModuleFor}
use Rattle.sap_files.specs.Prelude.{Ending, no_memory, stream_file, Asks, with_the, Ends, Moment, ending}
use Rattle.sap_commands.specs.Twin.{Finds, IsVerdict, agreement_line, difference, compared, IsAgreement}
use Rattle.sap_files.specs.declared.failure.Failure.{Failure}
use Rattle.sap_files.proofs.Ended.{chosen, quiet_self, starved, stopped_by}
use Rattle.sap_files.proofs.Streams.{stream_fits}

module _ (lattice : List ℕ) (ls : Levels) (is : IsLatticeOfFile lattice ls) (d : DesignTree) where
  -- the streams agree: so do the runs of each module for the design
  pub agreement : (l : ℕ) (bytes more level text : List ℕ) (one other : List (List Tagged)) (net : Net) (written : List ℕ)
      → (stream_file 1 ls d).Stands bytes one → (stream_file 2 ls d).Stands more other → StreamsAgree (order_of ls) l one other
      → text ≡ agreement_line level (length one) → IsModuleFor ls d net written → IsAgreement ls d l one other level text
  agreement l bytes more level text one other net written stands also agree is_line some = record {
    is_line = is_line;
    some_module = (net, written, some);
    every_module = λ n w module_is. record {
      run = module_is.has_one_run one fits;
      other_run = module_is.has_one_run other other_fits;
      agree = module_is.agrees l one other fits other_fits agree;
      look_alike = module_is.looks_alike l one other fits other_fits agree;
    };
  }
    where
      fits : StreamFits (world (named_of ls d)) one
      fits = stream_fits lattice ls is d 1 bytes one stands

      other_fits : StreamFits (world (named_of ls d)) other
      other_fits = stream_fits lattice ls is d 2 more other also

-- what comparing two streams comes to

pub verdict_ends : (k ls : Levels) → order_of k ≡ order_of ls → (d : DesignTree) (l : ℕ) (one other : List (List Tagged)) (word : List ℕ) (failure : Failure) (m : Moment)
    → Finds k d l one other word (Err failure) → Ends (with_the (Option Apart) (IsVerdict (order_of ls) l one other) (compared ls d l word one other)) (ending failure) m m
verdict_ends k ls same d l one other word failure m found =
    let a : Asks = with_the (Option Apart) (IsVerdict (order_of ls) l one other) (compared ls d l word one other) in
    let starved_so : ending failure ≡ no_memory → Ends a (ending failure) m m = λ is. subst (λ (e : Ending). Ends a e m m) (sym is) (starved a (quiet_self m)) in
    elim found [
      | inl is ↦ starved_so is
      | inr (apart, stands, told) ↦ elim told [
        | inl is ↦ starved_so is
        | inr is ↦
            chosen (Some apart) (subst (λ (o : Order). IsApart o l one other apart) same stands) (stopped_by (difference d apart) (ending failure) is (quiet_self m))
      ]
    ]
