-- From how the parts of a system are read, and what is asked behind them ends, to how the whole ends.
use Rattle.sap_lemmas.proofs.Common.{◌≡◌, ℕ, zero, suc, List, [], ◌∷◌, take, sym, subst, Some, slice_get, AllZip, none-some, same_Some}
use Rattle.sap_lattice.specs.Levels.{Levels}
use Rattle.sap_system.specs.declared.file.Part.{Part}
use Rattle.sap_linked.specs.Designs.{NamedDesign}
use Rattle.sap_files.specs.Prelude.{Ending, Asks, Ends, EndsReading, Moment, Reads}
use Rattle.sap_files.proofs.Ended.{past, quiet_self, reading_ended}
use Rattle.sap_commands.specs.Link.{asks_parts, EndsAtPart, HasPart, ReadsParts, stop_of}
use Rattle.sap_files.specs.Kinds.{part_file}
use Rattle.sap_files.specs.declared.failure.DesignFailure.{DesignFailure}
use Rattle.sap_commands.proofs.Later.{ends_later}

abbrev called : List ℕ → NamedDesign → NamedDesign
called name d = record { name = name; design = d.design }

module _ (ls : Levels) (e : Ending) (a b : Moment) where
  -- the file of a part has a design, and what is asked behind it ends so
  past_part : (p : Part) (d : NamedDesign) (ps : List Part) (rest : List NamedDesign → Asks) → HasPart ls a.told p d
      → Ends (asks_parts ls ps (λ designs. rest (called p.name d ∷ designs))) e a b → Ends (asks_parts ls (p ∷ ps) rest) e a b
  past_part p d ps rest has ended =
      let reads : Reads p.file has.bytes a a = record { quiet = quiet_self a; file = has.file } in
      past d.design reads has.stands ended

  past_parts : (ps : List Part) (ds : List NamedDesign) (rest : List NamedDesign → Asks) → AllZip (HasPart ls a.told) ps ds → Ends (rest ds) e a b
      → Ends (asks_parts ls ps rest) e a b
  past_parts [] [] rest have ended = ended
  past_parts [] (d ∷ ds) rest have ended = absurd have
  past_parts (p ∷ ps) [] rest have ended = absurd have
  past_parts (p ∷ ps) (d ∷ ds) rest have ended =
      past_part p d ps rest have.0
      (past_parts ps ds (λ designs. rest (called p.name d ∷ designs)) have.1
      (subst (λ (name : List ℕ). Ends (rest (called name d ∷ ds)) e a b) have.0.name ended))

  at_part : (ps : List Part) (place : ℕ) (p : Part) (ds : List NamedDesign) (rest : List NamedDesign → Asks) → slice_get ps place ≡ Some p
      → AllZip (HasPart ls a.told) (take place ps) ds → EndsReading p.file (part_file ls p.name) e a b → Ends (asks_parts ls ps rest) e a b
  at_part [] place p ds rest is have ends = absurd (none-some p is)
  at_part (q ∷ ps) zero p ds rest is have ends =
      reading_ended (subst (λ (x : Part). EndsReading x.file (part_file ls x.name) e a b) (sym (same_Some q p is)) ends)
  at_part (q ∷ ps) (suc place) p [] rest is have ends = absurd have
  at_part (q ∷ ps) (suc place) p (d ∷ ds) rest is have ends =
      past_part q d ps rest have.0 (at_part ps place p ds (λ designs. rest (called q.name d ∷ designs)) is have.1 ends)

-- all were read, and what is asked behind them ends so
pub parts_read : {ls : Levels} {e : Ending} {a b c : Moment} (rest : List NamedDesign → Asks) (parts : List Part) (designs : List NamedDesign)
    → ReadsParts ls parts designs a b → Ends (rest designs) e b c → Ends (asks_parts ls parts rest) e a c
parts_read {ls = ls} {e = e} {a = a} {c = c} rest parts designs reads ended = past_parts ls e a c parts designs rest reads.have (ends_later reads.quiet ended)

-- or the command ends at one of them
pub part_stopped : {ls : Levels} {a b : Moment} (rest : List NamedDesign → Asks) (parts : List Part) (place : ℕ) (why : DesignFailure) (at : EndsAtPart ls parts place why a b)
    → Ends (asks_parts ls parts rest) (stop_of at.part why) a b
part_stopped {ls = ls} {a = a} {b = b} rest parts place why at =
    at_part ls (stop_of at.part why) a b parts place at.part at.designs rest at.is_part at.have at.ends
