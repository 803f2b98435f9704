-- Where nothing changed before, a command ends as it does from there.
use Rattle.sap_lemmas.proofs.Common.{◌≡◌, ℕ, List, ◌∙◌, subst, inl, inr, Option, Some, IfSome}
use Rattle.sap_desk.specs.Desk.{Told}
use Rattle.sap_desk.specs.Whole.{Between}
use Rattle.sap_files.specs.Prelude.{Ending, Kind, Asks, Counted, Ends, EndsReading, FaultRose, Left, Moment, NotRead, Quiet, Reads, Stops}
use Rattle.sap_files.proofs.Ended.{between_map, quiet_then}

from : (P : Told → Told → Type 0) (old mid new : Option Told) → mid ≡ old → Between mid new P → Between old new P
from P old mid new is b = subst (λ (o : Option Told). Between o new P) is b

module _ {a b : Moment} (q : Quiet a b) where
  rose : (c : Moment) → FaultRose a c → FaultRose b c
  rose c (changed, sure) = ((λ same. changed (same ∙ q.faults)), q.sure sure)

  counted : (c : Moment) (e : Ending) → Counted b.faults c.faults e → Counted a.faults c.faults e
  counted c e h = subst (λ (k : ℕ). Counted k c.faults e) q.faults h

  pub ends_later : {c : Moment} {x : Asks} {e : Ending} → Ends x e b c → Ends x e a c
  ends_later {c = c} {x = x} {e = e} ended = record {
    told =
        between_map (Left x e (FaultRose b c)) (Left x e (FaultRose a c)) a.told c.told
        (λ t n l. record {
          leaves = l.leaves;
          gained = l.gained;
          output = l.output;
          shows = l.shows;
          blames = l.blames;
          stands = l.stands;
          same = l.same;
          cause = l.cause;
          outside = λ changed. l.outside (rose c changed);
        }) (from (Left x e (FaultRose b c)) a.told b.told c.told q.told ended.told);
    faults = counted c e ended.faults;
    lost = ended.lost ∙ q.lost;
    sure = λ sure. ended.sure (q.sure sure);
    may = ended.may;
  }

  stops_later : {c : Moment} {most : Option ℕ} {name : List ℕ} {e : Ending} → Stops most name e b c → Stops most name e a c
  stops_later {c = c} {most = most} {name = name} {e = e} s = record {
    free = s.free;
    told =
        between_map (NotRead most name e (FaultRose b c)) (NotRead most name e (FaultRose a c)) a.told c.told
        (λ t n r. record {
          files = r.files;
          output = r.output;
          same = r.same;
          blames = r.blames;
          opens = r.opens;
          outside = λ changed. r.outside (rose c changed);
        }) (from (NotRead most name e (FaultRose b c)) a.told b.told c.told q.told s.told);
    faults = counted c e s.faults;
    lost = s.lost ∙ q.lost;
    sure = λ sure. s.sure (q.sure sure);
  }

  pub reads_later : {c : Moment} {name bytes : List ℕ} → Reads name bytes b c → Reads name bytes a c
  reads_later {name = name} {bytes = bytes} r = record {
    quiet = quiet_then q r.quiet;
    file = subst (λ (o : Option Told). IfSome o (λ t. t.files name ≡ Some bytes)) q.told r.file;
  }

  pub reading_ends_later : {c : Moment} {name : List ℕ} (k : Kind) {e : Ending} → EndsReading name k e b c → EndsReading name k e a c
  reading_ends_later k (inl stops) = inl (stops_later stops)
  reading_ends_later k (inr (bytes, reads, refuted)) = inr (bytes, reads_later reads, refuted)
