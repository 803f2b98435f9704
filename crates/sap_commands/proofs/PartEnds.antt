-- What reading the file of a part comes to, by what reading it as a design file does.
use Rattle.sap_lemmas.proofs.Common.{◌≡◌, ℕ, List, refl, sym, subst, inl, inr, Some, Ok, Err}
use Rattle.sap_lattice.specs.Levels.{Levels}
use Rattle.sap_parse.specs.Limits.{most_bytes}
use Rattle.sap_tree.specs.Syntax.{DesignTree}
use Rattle.sap_check.specs.Checked.{levels_in, tree_in}
use Rattle.sap_check.specs.declared.checked.Checked.{Checked}
use Rattle.sap_size.specs.Items.{IsSmall}
use Rattle.sap_share.specs.Copying.{CopiesPorts}
use Rattle.sap_system.specs.declared.file.Part.{Part}
use Rattle.sap_linked.specs.Designs.{IsNetOfDesign}
use Rattle.sap_files.specs.Prelude.{part_refused, IsDesignFault, IsWellFormedText, design_ending, design_file, GetsDesign, Moment, Reads, Refuses, Stops}
use Rattle.sap_files.specs.declared.failure.DesignFailure.{DesignFailure}
use Rattle.sap_files.specs.declared.failure.DesignFailure.TheVariants.{Refused, Failed, Memory}
use Rattle.sap_files.specs.Kinds.{part_file}
use Rattle.sap_commands.specs.Link.{GetsPart, stop_of}
use Rattle.sap_commands.specs.declared.link.LoadedPart.{LoadedPart}

-- the bytes are refused
refused_so : (ls : Levels) (p : Part) (bytes : List ℕ) (why : DesignFailure) → Refuses (design_file ls) bytes (design_ending p.file why)
    → Refuses (part_file ls p.name) bytes (stop_of p why)
refused_so ls p bytes (Refused fault) (inl is) = cc
refused_so ls p bytes (Refused fault) (inr (reason, is, (other, was, first))) =
    let same : other ≡ fault = cc in inr (part_refused p.name fault, refl, (fault, refl, subst (IsDesignFault ls bytes) same first))
refused_so ls p bytes Failed (inl is) = cc
refused_so ls p bytes Failed (inr (reason, is, refusal)) = cc
refused_so ls p bytes Memory refuses = inl refl

-- it can't be read
stopped_so : (p : Part) (why : DesignFailure) {a b : Moment} → Stops (Some most_bytes) p.file (design_ending p.file why) a b → Stops (Some most_bytes) p.file (stop_of p why) a b
stopped_so p (Refused fault) s = absurd s.free
stopped_so p Failed s = s
stopped_so p Memory s = s

part_ends : (ls : Levels) (p : Part) (why : DesignFailure) {a b : Moment} → GetsDesign ls p.file (Err why) a b → GetsPart ls p (Err why) a b
part_ends ls p why (inl stops) = inl (stopped_so p why stops)
part_ends ls p why (inr (bytes, reads, refuted)) = inr (bytes, reads, refused_so ls p bytes why refuted)

module _ (ls : Levels) (p : Part) (a b : Moment) where
  -- so it is where the file of this name is the part's
  pub ends_there : (name : List ℕ) (why : DesignFailure) → name ≡ p.file → GetsDesign ls name (Err why) a b → GetsPart ls p (Err why) a b
  ends_there name why same ends = part_ends ls p why (subst (λ (n : List ℕ). GetsDesign ls n (Err why) a b) same ends)

  -- it was read, and there was no memory behind it
  pub starved_there : (bytes : List ℕ) → Reads p.file bytes a b → GetsPart ls p (Err Memory) a b
  starved_there bytes reads = inr (bytes, reads, inl refl)

module _ (ls : Levels) (p : Part) (a b : Moment) (name : List ℕ) (same : name ≡ p.file) (checked : Checked) (got : GetsDesign ls name (Ok checked) a b) where
  here : Reads p.file got.0 a b
  here = subst (λ (n : List ℕ). Reads n got.0 a b) same got.1

  -- the same of its name
  pub starved_behind : GetsPart ls p (Err Memory) a b
  starved_behind = starved_there ls p a b got.0 here

  -- it has a design, and the design has a netlist
  pub got_part : (one : LoadedPart) → one.name ≡ p.name → tree_in one.checked ≡ tree_in checked → IsNetOfDesign (levels_in checked) (tree_in checked) one.netlist
      → IsSmall (levels_in checked) (tree_in checked) one.netlist → CopiesPorts one.netlist → GetsPart ls p (Ok one) a b
  got_part one named tree net small copies =
      let stands : IsWellFormedText ls got.0 (tree_in one.checked) = subst (λ (d : DesignTree). IsWellFormedText ls got.0 d) (sym tree) got.2 in
      let over : IsNetOfDesign ls (tree_in checked) one.netlist = subst (λ (l : Levels). IsNetOfDesign l (tree_in checked) one.netlist) got.3 net in
      let few : IsSmall ls (tree_in checked) one.netlist = subst (λ (l : Levels). IsSmall l (tree_in checked) one.netlist) got.3 small in (
        record { name = named; bytes = got.0; reads = here; stands = stands },
        record {
          formed = stands.well_formed;
          net = subst (λ (d : DesignTree). IsNetOfDesign ls d one.netlist) (sym tree) over;
          small = subst (λ (d : DesignTree). IsSmall ls d one.netlist) (sym tree) few;
          copies = copies;
        },
      )
