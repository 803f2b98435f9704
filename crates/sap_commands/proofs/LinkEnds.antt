-- From the steps of `link` to how the whole ends.
use Rattle.sap_lemmas.proofs.Common.{◌≡◌, ℕ, List, sym, subst, Some, Ok, Err, slice_get}
use Rattle.sap_lattice.specs.Levels.{Levels}
use Rattle.sap_latfile.specs.OneLattice.{AreSame}
use Rattle.sap_system.specs.Listing.{Listing}
use Rattle.sap_system.specs.declared.file.Part.{Part}
use Rattle.sap_linked.specs.Designs.{NamedDesign}
use Rattle.sap_files.specs.Prelude.{Ending, IsLatticeFile, Asks, writes, Ends, EndsReading, Moment, Reads, ending, whole}
use Rattle.sap_files.specs.declared.failure.Failure.{Failure}
use Rattle.sap_files.proofs.Ended.{got, past, reading_ended}
use Rattle.sap_files.proofs.Lattices.{whole_same}
use Rattle.sap_commands.specs.Link.{asks_link, asks_parts, asks_wired, EndsAtPart, Links, ReadsParts, stop_of}
use Rattle.sap_files.specs.Kinds.{system_file}
use Rattle.sap_files.specs.declared.failure.DesignFailure.{DesignFailure}
use Rattle.sap_commands.proofs.SystemsAlike.{ends_in, links_in, reads_in}
use Rattle.sap_commands.proofs.PartsAsked.{part_stopped, parts_read}
use Rattle.sap_commands.proofs.Linked.{linked_ended, unlinked_ended}

module _ (lattice system out : List ℕ) {bytes : List ℕ} {a b : Moment} (k : Levels) (reads : Reads lattice bytes a b) (stands : IsLatticeFile bytes (whole k)) where
  same : AreSame k (whole k)
  same = whole_same bytes k stands

  -- SYSTEM is no system
  pub not_listed : {c : Moment} {e : Ending} → EndsReading system system_file e b c → Ends (asks_link lattice system out) e a c
  not_listed ends = past (whole k) reads stands (reading_ended ends)

  module _ {c : Moment} (s : Listing) (listed : (text : List ℕ) × Reads system text b c × system_file.Stands text s) (ps : List Part) (is : ps ≡ s.parts) where
    abbrev asked_of : Asks
    asked_of = asks_parts (whole k) s.parts (asks_wired (whole k) s.wires out)

    behind : {e : Ending} {d : Moment} → Ends asked_of e c d → Ends (asks_link lattice system out) e a d
    behind ended = past (whole k) reads stands (got s listed ended)

    read_in : {d : Moment} (ds : List NamedDesign) → ReadsParts k ps ds c d → ReadsParts (whole k) s.parts ds c d
    read_in {d = d} ds parts = subst (λ (qs : List Part). ReadsParts (whole k) qs ds c d) is (reads_in k (whole k) same parts)

    -- a part is not loaded
    pub stopped : {d : Moment} (place : ℕ) (why : DesignFailure) (failure : Failure) → EndsAtPart k ps place why c d
        → ((p : Part) → slice_get s.parts place ≡ Some p → ending failure ≡ stop_of p why) → Ends (asks_link lattice system out) (ending failure) a d
    stopped {d = d} place why failure at told =
        let there : EndsAtPart (whole k) s.parts place why c d =
        subst (λ (qs : List Part). EndsAtPart (whole k) qs place why c d) is (ends_in k (whole k) same at) in
        behind
        (subst (λ (e : Ending). Ends asked_of e c d) (sym (told there.part there.is_part)) (part_stopped (asks_wired (whole k) s.wires out) s.parts place why there))

    -- the wires give no module
    pub not_linked : {d : Moment} (ds : List NamedDesign) (failure : Failure) → ReadsParts k ps ds c d → Links k ds s.wires (Err failure)
        → Ends (asks_link lattice system out) (ending failure) a d
    not_linked {d = d} ds failure parts links =
        behind
        (parts_read (asks_wired (whole k) s.wires out) s.parts ds (read_in ds parts)
        (unlinked_ended (whole k) ds s.wires out failure d (links_in k (whole k) same ds s.wires (Err failure) links)))

    -- they give one
    pub linked : {d f : Moment} {e : Ending} (ds : List NamedDesign) (text : List ℕ) → ReadsParts k ps ds c d → Links k ds s.wires (Ok text)
        → Ends (writes out (λ written. written ≡ text)) e d f → Ends (asks_link lattice system out) e a f
    linked ds text parts links ended =
        behind
        (parts_read (asks_wired (whole k) s.wires out) s.parts ds (read_in ds parts)
        (linked_ended (whole k) ds s.wires out text (links_in k (whole k) same ds s.wires (Ok text) links) ended))
