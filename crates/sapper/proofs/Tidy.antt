-- The clause on needless wires and size follows from what a `compile` and a `link` ask.
use Rattle.sap_lemmas.proofs.Common.{◌≡◌, ◌⊎◌, ℕ, List, [], ◌∷◌, sym, ◌∙◌, ap, subst, inl, inr, Option, Some, None, AllZip}
use Rattle.sap_desk.specs.Desk.{Told}
use Rattle.sap_desk.specs.Whole.{Between}
use Rattle.sap_desk.proofs.Steps.{at_name-same}
use Rattle.sap_lattice.specs.Levels.{Levels}
use Rattle.sap_tree.specs.Syntax.{DesignTree}
use Rattle.sap_net.specs.Net.{Net}
use Rattle.sap_trim.specs.Names.{port_names}
use Rattle.sap_size.specs.Items.{most_items}
use Rattle.sap_system.specs.Listing.{Listing}
use Rattle.sap_system.specs.declared.file.Part.{Part}
use Rattle.sap_system.specs.declared.file.WireText.{WireText}
use Rattle.sap_linked.specs.Designs.{NamedDesign}
use Rattle.sap_words.specs.Words.{Words, command_of, compile, link}
use Rattle.sap_files.specs.Prelude.{Has, IsLatticeFile, IsLawful, IsWellFormedText, Kind, lattice_file, design_file, Asks, Cause, Ending, done, file, Files, IsFree, Leaves, writes, Written}
use Rattle.sap_files.proofs.Designs.{design_lawful}
use Rattle.sap_files.proofs.Lattices.{lattice_lawful}
use Rattle.sap_files.proofs.Lawful.{one_value}
use Rattle.sap_commands.specs.Link.{IsLinkedText, asks_parts, asks_wired}
use Rattle.sap_files.specs.Kinds.{part_file, system_file}
use Rattle.sap_files.proofs.Systems.{part_lawful, system_lawful}
use Rattle.sap_commands.specs.Commands.{IsModuleText, asks, asks_for, asks_if}
use Rattle.sap_explain.specs.Explained.{IsExplained}
use Rattle.sap_explain.specs.Explanation.{explanation, system_explanation}
use Rattle.sapper.specs.Answers.{Answers}
use Rattle.sapper.specs.Explains.{Explains}
use Rattle.sapper.specs.Links.{AreForLink, HasDesign}
use Rattle.sapper.specs.Tidy.{IsWellMade, IsWellMadeSystem, WritesWellMade}
use Rattle.sapper.proofs.Headline.{done_alone}
use Rattle.sapper.proofs.Links.{as_part, behind_part, no_fault, renamed}

of_design : (ls : Levels) (d : DesignTree) (text : List ℕ) → IsModuleText ls d text → IsWellMade port_names (most_items ls d) text
of_design ls d text (net, is, explained) = record { net = net; is_module = is.is_module; tidy = is.tidy; small = is.small }

of_system : (ls : Levels) (designs : List NamedDesign) (wires : List WireText) (text : List ℕ) → IsLinkedText ls designs wires text → IsWellMadeSystem ls designs wires text
of_system ls designs wires text (net, is, linked, small, explained) = record {
  wires = linked.wires;
  of_texts = linked.of_texts;
  made = record { net = net; is_module = is; tidy = linked.is_module.tidy; small = small };
}

module _ (t : Told) (files : Files) where
  -- what is written behind a file that stands for a value
  past_written : (name : List ℕ) (k : Kind) (rest : k.Value → Asks) → IsLawful k → (v : k.Value) → Has t name k.Stands v → Written (file name k rest) t files → Written (rest v) t files
  past_written name k rest law v has (w, had, more) =
      let P : k.Value → Type 0 = λ x. Written (rest x) t files in
      subst P (one_value k law t name w v had has) more

  -- and behind the files of parts that have designs
  past_parts : (ls : Levels) (parts : List Part) (designs : List NamedDesign) (rest : List NamedDesign → Asks) → AllZip (HasDesign ls t) parts designs
      → Written (asks_parts ls parts rest) t files → Written (rest designs) t files
  past_parts ls [] [] rest have more = more
  past_parts ls [] (d ∷ ds) rest have more = absurd have
  past_parts ls (p ∷ ps) [] rest have more = absurd have
  past_parts ls (p ∷ ps) (d ∷ ds) rest have more =
      renamed t ls (λ (x : NamedDesign). Written (rest (x ∷ ds)) t files) p d have.0.name
      (past_parts ls ps ds (λ designs. rest (record { name = p.name; design = d.design } ∷ designs)) have.1
      (past_written p.file (part_file ls p.name) (behind_part ls p ps rest) (part_lawful ls p.name) d.design (as_part t ls p d have.0) more))

module _ (words : List (List ℕ)) (lost now answer : ℕ) (t n : Told) (a : Answers words lost now answer t n) (zero : answer ≡ 0) (c : Words) (is : command_of words ≡ Some c) where
  ended : a.ending ≡ done
  ended = done_alone a.ending (sym zero ∙ a.status)

  caused : Cause (asks c) t done
  caused = of_two (subst (λ (e : Ending). IsFree e ⊎ Cause (asks_for words) t e) ended a.cause)
    where
      of_two : IsFree done ⊎ Cause (asks_for words) t done → Cause (asks c) t done
      of_two (inl free) = absurd free
      of_two (inr cause) = subst (λ (o : Option Words). Cause (asks_if o) t done) is cause

  written : Written (asks c) t n.files
  written =
      let left : Leaves (asks_for words) t n.files done = subst (λ (e : Ending). Leaves (asks_for words) t n.files e) ended a.leaves in
      subst (λ (o : Option Words). Written (asks_if o) t n.files) is left

module _ (lattice design out : List ℕ) (t n : Told) (ls : Levels) (d : DesignTree) (has : Has t lattice IsLatticeFile ls) (is : Has t design (IsWellFormedText ls) d) where
  compiled : Written (asks (compile lattice design out)) t n.files → (text : List ℕ) × (n.files out ≡ Some text) × IsModuleText ls d text
  compiled more =
      let behind = past_written t n.files lattice lattice_file (λ l. file design (design_file l) (λ x. writes out (IsModuleText l x))) lattice_lawful ls has more in
      let (text, module_for, files) = past_written t n.files design (design_file ls) (λ x. writes out (IsModuleText ls x)) (design_lawful ls) d is behind in
      (text, ap (λ (fs : Files). fs out) files ∙ at_name-same out (Some text) t.files, module_for)

  well_made : Written (asks (compile lattice design out)) t n.files → (text : List ℕ) × (n.files out ≡ Some text) × IsWellMade port_names (most_items ls d) text
  well_made more = let (text, left, module_for) = compiled more in (text, left, of_design ls d text module_for)

  explained : Written (asks (compile lattice design out)) t n.files
      → (text : List ℕ) × (n.files out ≡ Some text) × ((net : Net) × IsExplained (explanation ls d) text net)
  explained more = let (text, left, module_for) = compiled more in (text, left, (module_for.0, module_for.2))

module _ (lattice system out : List ℕ) (answer : ℕ) (t n : Told) (ls : Levels) (s : Listing) (designs : List NamedDesign) (are : AreForLink lattice system t ls s designs) where
  abbrev Made : (List ℕ → Type 0) → Type 0
  Made P = (text : List ℕ) × (n.files out ≡ Some text) × P text

  wired : Cause (asks (link lattice system out)) t done → Written (asks_wired ls s.wires out designs) t n.files → Made (IsLinkedText ls designs s.wires)
  wired cause (Some fault, first, same) = absurd (no_fault lattice system out answer t n ls s designs fault are first cause)
  wired cause (None, keeps, (text, linked, files)) = (text, ap (λ (fs : Files). fs out) files ∙ at_name-same out (Some text) t.files, linked)

  linked : Cause (asks (link lattice system out)) t done → Written (asks (link lattice system out)) t n.files → Made (IsLinkedText ls designs s.wires)
  linked cause more =
      let behind = past_written t n.files lattice lattice_file (λ l. file system system_file (λ x. asks_parts l x.parts (asks_wired l x.wires out))) lattice_lawful ls are.levels more in
      let further = past_written t n.files system system_file (λ x. asks_parts ls x.parts (asks_wired ls x.wires out)) system_lawful s are.lists behind in
      wired cause (past_parts t n.files ls s.parts designs (asks_wired ls s.wires out) are.parts further)

  well_made_system : Cause (asks (link lattice system out)) t done → Written (asks (link lattice system out)) t n.files → Made (IsWellMadeSystem ls designs s.wires)
  well_made_system cause more = let (text, left, is) = linked cause more in (text, left, of_system ls designs s.wires text is)

  explained_system : Cause (asks (link lattice system out)) t done → Written (asks (link lattice system out)) t n.files
      → Made (λ text. (net : Net) × IsExplained (system_explanation ls designs) text net)
  explained_system cause more =
      let (text, left, is) = linked cause more in
      let (net, is_module, of_wires, small, explained) = is in
      (text, left, (net, explained))

tidy : (words : List (List ℕ)) (lost now answer : ℕ) (t n : Told) → Answers words lost now answer t n → WritesWellMade words answer t n
tidy words lost now answer t n a = record {
  compiles = λ lattice design out is zero ls d has formed.
      well_made lattice design out t n ls d has formed (written words lost now answer t n a zero (compile lattice design out) is);
  links = λ lattice system out is zero ls s designs are.
      well_made_system lattice system out answer t n ls s designs are (caused words lost now answer t n a zero (link lattice system out) is)
      (written words lost now answer t n a zero (link lattice system out) is);
}

explains : (words : List (List ℕ)) (lost now answer : ℕ) (t n : Told) → Answers words lost now answer t n → Explains words answer t n
explains words lost now answer t n a = record {
  compiles = λ lattice design out is zero ls d has formed.
      explained lattice design out t n ls d has formed (written words lost now answer t n a zero (compile lattice design out) is);
  links = λ lattice system out is zero ls s designs are.
      explained_system lattice system out answer t n ls s designs are (caused words lost now answer t n a zero (link lattice system out) is)
      (written words lost now answer t n a zero (link lattice system out) is);
}

-- ---- between what a desk tells before and after

pub tidy_told : (words : List (List ℕ)) (lost now answer : ℕ) (old new : Option Told) → Between old new (Answers words lost now answer) → Between old new (WritesWellMade words answer)
tidy_told words lost now answer None new a = tt
tidy_told words lost now answer (Some t) None a = absurd a
tidy_told words lost now answer (Some t) (Some n) a = tidy words lost now answer t n a

pub explains_told : (words : List (List ℕ)) (lost now answer : ℕ) (old new : Option Told) → Between old new (Answers words lost now answer) → Between old new (Explains words answer)
explains_told words lost now answer None new a = tt
explains_told words lost now answer (Some t) None a = absurd a
explains_told words lost now answer (Some t) (Some n) a = explains words lost now answer t n a
