-- How the streams of `twin` end, step by step, behind its design.
use Rattle.std.proofs.Common.{◌≡◌, ℕ, List, subst, inl, inr}
use Rattle.std.specs.Prelude.{None, Ok, Err}
use Rattle.sap_lattice.specs.Prelude.{Levels, order_of, Order}
use Rattle.sap_latfile.specs.OneLattice.{AreSame}
use Rattle.sap_meaning.specs.Prelude.{StreamsAgree, Tagged}
use Rattle.sap_tree.specs.Syntax.{DesignTree}
use Rattle.sap_net.specs.Net.{Net}
use Rattle.sap_compile.specs.Compiles.{IsNetlistFor}
use Rattle.sap_files.specs.Prelude.{Ending, IsLatticeFile, stream_file, gives, Ends, EndsReading, Moment, Reads, ending}
use Rattle.sap_commands.specs.Twin.{Finds, asks_streams}
use Rattle.sap_files.specs.declared.failure.Failure.{Failure}
use Rattle.sap_files.proofs.Ended.{chosen, gave, past, reading_ended}
use Rattle.sap_files.proofs.Streams.{stream_in, stream_refused_in}
use Rattle.sap_commands.proofs.Agreements.{agreement, verdict_ends}
use Rattle.sap_commands.proofs.ModulesAlike.{module_in}

-- the stream of a file that was read, over the levels of a lattice
abbrev pub HasStream : (place : ℕ) → Levels → DesignTree → (name : List ℕ) (stream : List (List Tagged)) (a b : Moment) → Type 0
HasStream place ls d name stream a b = (bytes : List ℕ) × Reads name bytes a b × (stream_file place ls d).Stands bytes stream

-- `k` are the levels of the design as it was checked, `ls` those of the file
module _ (lattice : List ℕ) (ls k : Levels) (d : DesignTree) (is : IsLatticeFile lattice ls) (same : AreSame k ls)
    (first second word : List ℕ) (l : ℕ) (a : Moment) where
  stream_over : (place : ℕ) (name : List ℕ) (stream : List (List Tagged)) (m n : Moment) → HasStream place k d name stream m n → HasStream place ls d name stream m n
  stream_over place name stream m n (bytes, reads, stands) = (bytes, reads, stream_in k ls same place d bytes stream stands)

  ended_over : (place : ℕ) (name : List ℕ) (e : Ending) (m n : Moment) → EndsReading name (stream_file place k d) e m n → EndsReading name (stream_file place ls d) e m n
  ended_over place name e m n (inl stops) = inl stops
  ended_over place name e m n (inr (bytes, reads, refuted)) = inr (bytes, reads, stream_refused_in k ls same place d bytes e refuted)

  pub no_first : (e : Ending) (b : Moment) → EndsReading first (stream_file 1 k d) e a b → Ends (asks_streams ls d first second word l) e a b
  no_first e b ends = reading_ended (ended_over 1 first e a b ends)

  module _ (one : List (List Tagged)) (b : Moment) (first_is : HasStream 1 k d first one a b) where
    one_is : HasStream 1 ls d first one a b
    one_is = stream_over 1 first one a b first_is

    pub no_second : (e : Ending) (c : Moment) → EndsReading second (stream_file 2 k d) e b c → Ends (asks_streams ls d first second word l) e a c
    no_second e c ends = past one one_is.1 one_is.2 (reading_ended (ended_over 2 second e b c ends))

    module _ (other : List (List Tagged)) (c : Moment) (second_is : HasStream 2 k d second other b c) where
      other_is : HasStream 2 ls d second other b c
      other_is = stream_over 2 second other b c second_is

      pub no_verdict : (failure : Failure) → Finds k d l one other word (Err failure) → Ends (asks_streams ls d first second word l) (ending failure) a c
      no_verdict failure found =
          past one one_is.1 one_is.2 (past other other_is.1 other_is.2 (verdict_ends k ls same.order d l one other word failure c found))

      agree_over : StreamsAgree (order_of k) l one other → StreamsAgree (order_of ls) l one other
      agree_over agree = subst (λ (o : Order). StreamsAgree o l one other) same.order agree

      pub told : (net : Net) (text : List ℕ) (e : Ending) (n : Moment) → IsNetlistFor k d net → Finds k d l one other word (Ok text)
          → Ends (gives (λ given. given ≡ text)) e c n → Ends (asks_streams ls d first second word l) e a n
      told net text e n (written, some) found put =
          let agree : StreamsAgree (order_of ls) l one other = agree_over found.0 in
          past one one_is.1 one_is.2
          (past other other_is.1 other_is.2
          (chosen None agree
          (gave text
          (agreement lattice ls is.lattice d l one_is.0 other_is.0 word text one other net written one_is.2 other_is.2 agree found.1
          (module_in k ls same d net written some))
          put)))
