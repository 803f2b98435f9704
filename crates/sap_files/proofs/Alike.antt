-- Two lattices that are the same give a design the same run.
use Rattle.sap_lemmas.proofs.Common.{◌≡◌, ℕ, ◌+◌, List, [], ◌∷◌, ◌++◌, refl, ◌∙◌, ap, map}
use Rattle.sap_lattice.specs.Prelude.{Levels, order_of, code_of, Order}
use Rattle.sap_latfile.specs.OneLattice.{AreSame}
use Rattle.sap_tree.specs.Syntax.{DesignTree}
use Rattle.sap_names.specs.Entities.{entities_of}
use Rattle.sap_meaning.specs.Prelude.{Tagged, Entity, Program, After, Store, labelled_run}
use Rattle.sap_resolved.specs.Fill.{program_of}
use Rattle.sap_interface.specs.Prelude.{Named, world, named_of}
use Rattle.sap_stim.specs.declared.stimulus.Parsed.{Parsed}
use Rattle.sap_sim.specs.Prelude.{Rows, design_fields, labelled_row, labelled_rows, register_shown, registers_shown, rows_of_run, IsRunOf, read_for}
use Rattle.sap_files.proofs.Programs.{program_in}
use Rattle.sap_files.proofs.Stimuli.{stimulus_in}

module _ (l m : Levels) (same : AreSame l m) where
  pub read_in : (d : DesignTree) (bytes : List ℕ) → read_for l d bytes ≡ read_for m d bytes
  read_in d bytes = stimulus_in l m same (design_fields d) bytes

  -- rows, of one program

  register_in : (d : Named) (s : Store) (x : ℕ) → register_shown l d s x ≡ register_shown m d s x
  register_in d s x = rw same.names refl

  registers_in : (d : Named) (s : Store) (x : ℕ) (es : List Entity) → registers_shown l d s x es ≡ registers_shown m d s x es
  registers_in d s x [] = refl
  registers_in d s x (e ∷ es) = rw (register_in d s x, registers_in d s (x + 1) es) refl

  row_in : (d : Named) (n : ℕ) (s : Store) → labelled_row l d n s ≡ labelled_row m d n s
  row_in d n s = rw (registers_in d s 0 (world d).entities) refl

  rows_of_run_in : (d : Named) (n : ℕ) (rest : List After) → rows_of_run l d n rest ≡ rows_of_run m d n rest
  rows_of_run_in d n [] = refl
  rows_of_run_in d n (a ∷ rest) =
      ap (λ (text : List ℕ). text ++ rows_of_run l d (n + 1) rest) (row_in d n a.store)
      ∙ ap (λ (text : List ℕ). labelled_row m d n a.store ++ text) (rows_of_run_in d (n + 1) rest)

  pub named_in : (d : DesignTree) → named_of l d ≡ named_of m d
  named_in d =
      ap (λ (p : Program). record { program = p; names = map (λ e. e.name.name) (entities_of d); code = code_of (order_of l) }) (program_in l m same d)
      ∙ ap (λ (o : Order). record { program = program_of m d; names = map (λ e. e.name.name) (entities_of d); code = code_of o }) same.order

  labelled_in : (d : DesignTree) (stream : List (List Tagged)) → labelled_rows l d stream ≡ labelled_rows m d stream
  labelled_in d stream =
      ap (λ (n : Named). rows_of_run l n 1 (labelled_run (program_of l d) stream)) (named_in d)
      ∙ ap (λ (p : Program). rows_of_run l (named_of m d) 1 (labelled_run p stream)) (program_in l m same d)
      ∙ rows_of_run_in (named_of m d) 1 (labelled_run (program_of m d) stream)

  pub run_in : (d : DesignTree) (bytes : List ℕ) (rows : Rows) → IsRunOf l d bytes rows → IsRunOf m d bytes rows
  run_in d bytes rows is = record {
    fault = is.fault ∙ ap (λ (p : Parsed). p.fault) (read_in d bytes);
    text =
        is.text
        ∙ ap (λ (p : Parsed). labelled_rows l d p.stream) (read_in d bytes)
        ∙ labelled_in d (read_for m d bytes).stream;
  }
