-- Two lattices that are the same read a stimulus alike.
use Rattle.std.proofs.Common.{◌≡◌, ℕ, ◌+◌, Bool, true, false, List, [], ◌∷◌, refl}
use Rattle.sap_lattice.specs.Levels.{Levels}
use Rattle.sap_latfile.specs.OneLattice.{AreSame}
use Rattle.sap_stim.specs.declared.field.Field.{Field}
use Rattle.sap_stim.specs.declared.field.Field.TheVariants.{Tagged, Plain}
use Rattle.sap_text.specs.Lines.{split_at}
use Rattle.sap_stim.specs.Line.{field_of, fields_of, inputs_of, line_of}
use Rattle.sap_stim.specs.Stimulus.{read_pieces, stimulus_of}

module _ (l m : Levels) (same : AreSame l m) where
  field_in : (f : Field) (text : List ℕ) → field_of l f text ≡ field_of m f text
  field_in (Tagged width) text = rw same.names refl
  field_in (Plain width) text = rw same.order refl

  inputs_in : (fs : List Field) (texts : List (List ℕ)) → inputs_of l fs texts ≡ inputs_of m fs texts
  inputs_in [] [] = refl
  inputs_in [] (text ∷ texts) = refl
  inputs_in (f ∷ fs) [] = refl
  inputs_in (f ∷ fs) (text ∷ texts) = rw (field_in f text, inputs_in fs texts) refl

  line_in : (fs : List Field) (ended : Bool) (text : List ℕ) → line_of l fs ended text ≡ line_of m fs ended text
  line_in fs ended text = rw (inputs_in fs (fields_of text)) refl

  pieces_in : (fs : List Field) (line : ℕ) (texts : List (List ℕ)) → read_pieces l fs line texts ≡ read_pieces m fs line texts
  pieces_in fs line [] = refl
  pieces_in fs line (text ∷ []) = rw (line_in fs false text) refl
  pieces_in fs line (text ∷ (next ∷ rest)) = rw (line_in fs true text, pieces_in fs (line + 1) (next ∷ rest)) refl

  pub stimulus_in : (fs : List Field) (bytes : List ℕ) → stimulus_of l fs bytes ≡ stimulus_of m fs bytes
  stimulus_in fs bytes = pieces_in fs 1 (split_at 10 bytes)
