-- From a file's bytes and what they give to what reading the file as one of a kind gives.
use Rattle.sap_lemmas.proofs.Common.{◌≡◌, ℕ, List, sym, subst, inl, inr, Ok, Err, Result, Some}
use Rattle.sap_desk.specs.Whole.{IsFront}
use Rattle.sap_lattice.specs.Levels.{Levels}
use Rattle.sap_latfile.specs.OneLattice.{AreSame}
use Rattle.sap_parse.specs.Limits.{most_bytes}
use Rattle.sap_check.specs.declared.checked.Checked.{Checked}
use Rattle.sap_tree.specs.Designs.{design_of}
use Rattle.sap_tree.specs.declared.design.Design.{Design}
use Rattle.sap_files.specs.Prelude.{Ending, Kind, design_file, design_text_file, EndsReading, Gets, GetsChecked, GetsDesign, Gives, IsChecked, Moment, Reads, ReadsDesign, Stops, design_ending, ending}
use Rattle.sap_files.specs.Steps.{ReadDesign}
use Rattle.sap_files.specs.declared.failure.Failure.{Failure}
use Rattle.sap_files.specs.declared.failure.DesignFailure.{DesignFailure}
use Rattle.sap_files.proofs.Designs.{design_refuses, refuses_in}
use Rattle.sap_files.proofs.Fronts.{checked_whole, refused_design, refused_text, text_whole}

pub gets : {name bytes : List ℕ} {a b : Moment} (k : Kind) {T : Type 0} (value : T → k.Value) (r : Result T Failure) → Reads name bytes a b → Gives k value bytes r
    → Gets name k value r a b
gets {bytes = bytes} k value (Ok x) reads given = (bytes, reads, given)
gets {bytes = bytes} k value (Err e) reads given = inr (bytes, reads, given)

-- design files, of which no more is read than shows that they are too long

pub text_gets : {name front : List ℕ} {a b : Moment} (r : Result Design Failure) → (bytes : List ℕ) × Reads name bytes a b × IsFront most_bytes bytes front
    → Gives design_text_file design_of front r → Gets name design_text_file design_of r a b
text_gets (Ok d) (bytes, reads, part) given = (bytes, reads, text_whole part given)
text_gets (Err e) (bytes, reads, part) given = inr (bytes, reads, refused_text part given)

pub design_gets : {name front : List ℕ} {a b : Moment} (ls : Levels) (r : Result Checked DesignFailure) → (bytes : List ℕ) × Reads name bytes a b × IsFront most_bytes bytes front
    → IsChecked ls front r → GetsDesign ls name r a b
design_gets ls (Ok c) (bytes, reads, part) given = (bytes, reads, checked_whole part given.0, given.1)
design_gets {name = name} {front = front} ls (Err e) (bytes, reads, part) given = inr (bytes, reads, refused_design ls part (design_refuses ls name front e given))

-- the same of a failure that ends a command alike

pub checked_fails : {name : List ℕ} {a b : Moment} (ls : Levels) (why : DesignFailure) (e : Failure) → ending e ≡ design_ending name why → GetsDesign ls name (Err why) a b
    → GetsChecked ls name (Err e) a b
checked_fails {name = name} {a = a} {b = b} ls why e same ends = subst (λ (f : Ending). EndsReading name (design_file ls) f a b) (sym same) ends

pub front_fails : {name : List ℕ} {a b : Moment} (why : DesignFailure) (e : Failure) → ending e ≡ design_ending name why → ReadsDesign name (Err why) a b
    → ReadDesign name (Err e) a b
front_fails {name = name} {a = a} {b = b} why e same stops = subst (λ (f : Ending). Stops (Some most_bytes) name f a b) (sym same) stops

-- two lattices that are the same end a command alike at a design file
pub reading_in : {name : List ℕ} {e : Ending} {a b : Moment} (l m : Levels) → AreSame l m → EndsReading name (design_file l) e a b → EndsReading name (design_file m) e a b
reading_in l m same (inl stops) = inl stops
reading_in {e = e} l m same (inr (bytes, reads, refuted)) = inr (bytes, reads, refuses_in l m bytes e same refuted)
