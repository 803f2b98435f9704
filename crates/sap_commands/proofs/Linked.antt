-- What linking parts gives, and how the command ends behind it.
use Rattle.sap_lemmas.proofs.Common.{◌≡◌, ◌≢◌, ◌⊎◌, ℕ, List, [], ◌∷◌, refl, sym, ap₂, subst, inl, inr, Option, Some, None, Ok, Err, AllZip}
use Rattle.sap_desk.specs.Desk.{Told}
use Rattle.sap_lattice.specs.Levels.{Levels}
use Rattle.sap_system.specs.Rules.{part_names}
use Rattle.sap_system.specs.Wires.{FirstLinkFault, Surroundings}
use Rattle.sap_system.specs.declared.file.Part.{Part}
use Rattle.sap_system.specs.declared.file.WireText.{WireText}
use Rattle.sap_system.specs.declared.link_fault.LinkFault.{LinkFault}
use Rattle.sap_system.specs.declared.link_fault.LinkFault.TheVariants as link_fault
use Rattle.sap_linked.specs.Designs.{NamedDesign}
use Rattle.sap_linker.specs.Given.{design_names}
use Rattle.sap_files.specs.Prelude.{Ending, refused, no_memory, wires_refused, writes, Ends, Moment, ending}
use Rattle.sap_files.specs.declared.failure.Failure.{Failure}
use Rattle.sap_files.proofs.Ended.{chosen, quiet_self, starved, stopped_by, wrote}
use Rattle.sap_commands.specs.Link.{asks_wired, HasPart, Links, wires_failure}

-- why wires give no module
abbrev Unlinked : Surroundings → List WireText → Ending → Type 0
Unlinked u texts e = (e ≡ no_memory) ⊎ ((fault : LinkFault) × FirstLinkFault u texts fault × (e ≡ refused (wires_refused fault)))

unlinked_by : (u : Surroundings) (texts : List WireText) (fault : LinkFault) → (fault ≢ link_fault.Memory → FirstLinkFault u texts fault)
    → Unlinked u texts (ending (wires_failure fault))
unlinked_by u texts link_fault.Memory first = inl refl
unlinked_by u texts (link_fault.Rule code n) first = inr (link_fault.Rule code n, first (λ e. cc), refl)

pub unlinked : (u : Surroundings) (texts : List WireText) (fault : LinkFault) (failure : Failure) → failure ≡ wires_failure fault
    → (fault ≢ link_fault.Memory → FirstLinkFault u texts fault) → Unlinked u texts (ending failure)
unlinked u texts fault failure is first = subst (λ (f : Failure). Unlinked u texts (ending f)) (sym is) (unlinked_by u texts fault first)

module _ (ls : Levels) (ds : List NamedDesign) (texts : List WireText) (out : List ℕ) where
  -- so the command ends there
  pub unlinked_ended : (e : Failure) (m : Moment) → Links ls ds texts (Err e) → Ends (asks_wired ls texts out ds) (ending e) m m
  unlinked_ended e m (inl is) =
      subst (λ (f : Ending). Ends (asks_wired ls texts out ds) f m m) (sym is) (starved (asks_wired ls texts out ds) (quiet_self m))
  unlinked_ended e m (inr (fault, first, is)) = chosen (Some fault) first (stopped_by (wires_refused fault) (ending e) is (quiet_self m))

  -- or it writes the text
  pub linked_ended : {e : Ending} {a b : Moment} (text : List ℕ) → Links ls ds texts (Ok text) → Ends (writes out (λ written. written ≡ text)) e a b
      → Ends (asks_wired ls texts out ds) e a b
  linked_ended text (keeps, is) ended = chosen None keeps (wrote text is ended)

-- designs have the names of their parts
pub names_same : (ls : Levels) (told : Option Told) (ps : List Part) (ds : List NamedDesign) → AllZip (HasPart ls told) ps ds → design_names ds ≡ part_names ps
names_same ls told [] [] have = refl
names_same ls told [] (d ∷ ds) have = absurd have
names_same ls told (p ∷ ps) [] have = absurd have
names_same ls told (p ∷ ps) (d ∷ ds) (has, have) = ap₂ (λ (name : List ℕ) (names : List (List ℕ)). name ∷ names) has.name (names_same ls told ps ds have)
