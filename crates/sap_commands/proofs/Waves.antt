-- Writing a dump whole, and that two lattices that are the same ask for the same dump.
use Rattle.sap_lemmas.proofs.Common.{◌∙◌, ◌≡◌, List, [], ℕ, refl, sym, subst, inr, append-nil}
use Rattle.sap_desk.specs.Desk.{Told}
use Rattle.sap_desk.specs.Whole.{Between, Wrote}
use Rattle.sap_lattice.specs.Levels.{Levels}
use Rattle.sap_latfile.specs.OneLattice.{AreSame}
use Rattle.sap_meaning.specs.Cycle.{Tagged as Given}
use Rattle.sap_net.specs.Net.{Net}
use Rattle.sap_stim.specs.declared.stimulus.Parsed.{Parsed}
use Rattle.sap_sim.specs.Numbers.{numbers_of}
use Rattle.sap_sim.specs.Simulated.{read_for}
use Rattle.sap_wave_run.specs.Dumped.{IsDumpOn}
use Rattle.sap_files.specs.Prelude.{Ending, done, stream_by, Asks, file, writes, Ends, EndsReading, FaultRose, Left, Moment}
use Rattle.sap_files.proofs.Ended.{between_map}
use Rattle.sap_files.proofs.NetsAlike.{line_numbers_in, read_net_in}

-- writing a text whole

wrote_left : (name text : List ℕ) (F : Type 0) (t n : Told) → (F → ⊥) → Wrote name text t n → Left (writes name (λ x. x ≡ text)) done F t n
wrote_left name text F t n never w = record {
  leaves = (text, refl, w.files);
  gained = [];
  output = w.channels.output ∙ sym (append-nil (t.written 1));
  shows = (refl, refl);
  blames = w.blame;
  stands = w.uses;
  same = record { lines = w.channels.lines; lines_use = w.channels.lines_use; others = λ k other. w.channels.open_written k; room = w.channels.room };
  cause = inr refl;
  outside = λ rose. absurd (never rose);
}

pub written_whole : (name text : List ℕ) (before after : Moment) → Between before.told after.told (Wrote name text) → after.faults ≡ before.faults → after.lost ≡ before.lost
    → (before.sure → after.sure) → Ends (writes name (λ x. x ≡ text)) done before after
written_whole name text before after wrote faults lost sure = record {
  told =
      let F : Type 0 = FaultRose before after in
      between_map (Wrote name text) (Left (writes name (λ x. x ≡ text)) done F) before.told after.told
      (λ t n w. wrote_left name text F t n (λ (changed, sure). changed faults) w) wrote;
  faults = faults;
  lost = lost;
  sure = sure;
  may = inr refl;
}

-- bytes that are read alike, and one netlist for another

pub reading_as : {name : List ℕ} {e : Ending} {a b : Moment} (place : ℕ) (one other : List ℕ → Parsed) → one ≡ other → EndsReading name (stream_by place one) e a b
    → EndsReading name (stream_by place other) e a b
reading_as {name} {e} {a} {b} place one other same h = subst (λ (read : List ℕ → Parsed). EndsReading name (stream_by place read) e a b) same h

pub dumped_as : {out : List ℕ} {e : Ending} {a b : Moment} (ls : Levels) (stream : List (List Given)) (n m : Net) → n ≡ m
    → Ends (writes out (IsDumpOn n (numbers_of ls n) stream)) e a b → Ends (writes out (IsDumpOn m (numbers_of ls m) stream)) e a b
dumped_as {out} {e} {a} {b} ls stream n m same h = subst (λ (k : Net). Ends (writes out (IsDumpOn k (numbers_of ls k) stream)) e a b) same h

-- two lattices that are the same

abbrev asks_run : (stimulus out : List ℕ) → Net → (read : List ℕ → Parsed) → (numbers : List Given → List ℕ) → Asks
asks_run stimulus out n read numbers = file stimulus (stream_by 1 read) (λ stream. writes out (IsDumpOn n numbers stream))

pub run_asked_in : (l m : Levels) → AreSame l m → (stimulus out : List ℕ) (n : Net) (e : Ending) (a b : Moment)
    → Ends (file stimulus (stream_by 1 (read_for l n)) (λ stream. writes out (IsDumpOn n (numbers_of l n) stream))) e a b
    → Ends (file stimulus (stream_by 1 (read_for m n)) (λ stream. writes out (IsDumpOn n (numbers_of m n) stream))) e a b
run_asked_in l m same stimulus out n e a b ended =
    let read : read_for l n ≡ read_for m n = λ i bytes. read_net_in l m same n bytes i in
    subst (λ (numbers : List Given → List ℕ). Ends (asks_run stimulus out n (read_for m n) numbers) e a b) (line_numbers_in l m same n)
    (subst (λ (r : List ℕ → Parsed). Ends (asks_run stimulus out n r (numbers_of l n)) e a b) read ended)
