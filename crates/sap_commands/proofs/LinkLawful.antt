-- What `link` asks is lawful.
use Rattle.sap_lemmas.proofs.Common.{◌≡◌, ℕ, List, [], ◌∷◌, refl, ap, Option, Some, None}
use Rattle.sap_lattice.specs.Levels.{Levels}
use Rattle.sap_system.specs.Wires.{Surroundings}
use Rattle.sap_system.specs.declared.file.Part.{Part}
use Rattle.sap_system.specs.declared.file.WireText.{WireText}
use Rattle.sap_system.specs.declared.link_fault.LinkFault.{LinkFault}
use Rattle.sap_system.proofs.LinkAnswered.{one_link_fault, none_where_kept}
use Rattle.sap_linked.specs.Designs.{NamedDesign}
use Rattle.sap_linker.specs.Given.{surroundings}
use Rattle.sap_files.specs.Asks.{Asks, AreLawful}
use Rattle.sap_files.proofs.Lattices.{lattice_lawful}
use Rattle.sap_commands.specs.Link.{FirstBroken, asks_link, asks_parts, asks_wired, linked_or_refused}
use Rattle.sap_files.proofs.Systems.{part_lawful, system_lawful}

one_first_broken : (u : Surroundings) (texts : List WireText) (v w : Option LinkFault) → FirstBroken u texts v → FirstBroken u texts w → v ≡ w
one_first_broken u texts None None a b = refl
one_first_broken u texts None (Some fault) a b = absurd (none_where_kept u texts fault a b)
one_first_broken u texts (Some fault) None a b = absurd (none_where_kept u texts fault b a)
one_first_broken u texts (Some fault) (Some other) a b = ap (λ (f : LinkFault). Some f) (one_link_fault u texts fault other a b)

lawful_linked : (ls : Levels) (ds : List NamedDesign) (texts : List WireText) (out : List ℕ) (broken : Option LinkFault) → AreLawful (linked_or_refused ls ds texts out broken)
lawful_linked ls ds texts out None = tt
lawful_linked ls ds texts out (Some fault) = tt

lawful_wired : (ls : Levels) (texts : List WireText) (out : List ℕ) (ds : List NamedDesign) → AreLawful (asks_wired ls texts out ds)
lawful_wired ls texts out ds = (one_first_broken (surroundings ls ds) texts, λ broken is. lawful_linked ls ds texts out broken)

-- reading the files of parts is, where all is that is asked of their designs
pub lawful_parts : (ls : Levels) (ps : List Part) (rest : List NamedDesign → Asks) → ((ds : List NamedDesign) → AreLawful (rest ds)) → AreLawful (asks_parts ls ps rest)
lawful_parts ls [] rest law = law []
lawful_parts ls (p ∷ ps) rest law =
    (part_lawful ls p.name, λ source d is. lawful_parts ls ps _ (λ ds. law (record { name = p.name; design = d } ∷ ds)))

pub lawful_link : (lattice system out : List ℕ) → AreLawful (asks_link lattice system out)
lawful_link lattice system out =
    (lattice_lawful, λ bytes ls a. (system_lawful, λ text s b. lawful_parts ls s.parts (asks_wired ls s.wires out) (lawful_wired ls s.wires out)))
