-- A text was written on channel 1, whole or cut off.
use Rattle.sap_lemmas.proofs.Common.{◌≡◌, ◌≢◌, ◌≤◌, ℕ, Bool, false, cond, eqb, List, ◌++◌, length, take, refl, sym, ap, subst, inl, inr, Option, Some, None, IfSome, codes, option_map, arith, nat_tests}
use Rattle.sap_desk.specs.Desk.{Told, IsWriting, added, blamed}
use Rattle.sap_desk.specs.Cause.{FillsRoom, counted}
use Rattle.sap_desk.specs.Whole.{Between, CutOutput}
use Rattle.sap_files.specs.Prelude.{gives, done, failed, Ends, FaultRose, Left, Moment}

-- a piece on channel 1 is on no other
other_added : (piece : List ℕ) (t : Told) (k : ℕ) → k ≢ 1 → (added 1 piece t).written k ≡ t.written k
other_added piece t k other =
    let no : eqb k 1 ≡ false = grind (arith, nat_tests) in
    ap (λ (b : Bool). cond b (t.written 1 ++ piece) (t.written k)) no

module _ (text : List ℕ) where
  whole_left : (F : Type 0) (t : Told) → (F → ⊥) → Left (gives (λ x. x ≡ text)) done F t (added 1 text t)
  whole_left F t never = record {
    leaves = refl;
    gained = text;
    output = refl;
    shows = (refl, refl);
    blames = refl;
    stands = refl;
    same = record { lines = refl; lines_use = refl; others = λ k other open_now. other_added text t k other; room = refl };
    cause = inr refl;
    outside = λ rose. absurd (never rose);
  }

  whole_between : (F : Type 0) (old new : Option Told) → new ≡ option_map (added 1 text) old → (F → ⊥) → Between old new (Left (gives (λ x. x ≡ text)) done F)
  whole_between F None new is never = tt
  whole_between F (Some t) new is never = subst (λ (o : Option Told). Between (Some t) o (Left (gives (λ x. x ≡ text)) done F)) (sym is) (whole_left F t never)

  pub given_whole : (a b : Moment) → b.told ≡ option_map (added 1 text) a.told → b.faults ≡ a.faults → b.lost ≡ a.lost → (a.sure → b.sure)
      → Ends (gives (λ x. x ≡ text)) done a b
  given_whole a b told faults lost sure = record {
    told = whole_between (FaultRose a b) a.told b.told told (λ (changed, s). changed faults);
    faults = faults;
    lost = lost;
    sure = sure;
    may = inr refl;
  }

  -- the contents where a write failed behind so many bytes
  abbrev cut_at : (count : ℕ) → Told → Told
  cut_at count t = blamed (codes "output") (added 1 (take count text) t)

  cut_left : (F : Type 0) (count : ℕ) (t : Told) → count ≤ length text → (F → IsWriting (t.uses 1) → FillsRoom 1 text t (Some (cut_at count t)))
      → Left (gives (λ x. x ≡ text)) (failed (codes "output")) F t (cut_at count t)
  cut_left F count t within full = record {
    leaves = inl refl;
    gained = take count text;
    output = refl;
    shows = inr (text, (done, (refl, refl)), (count, within, refl));
    blames = refl;
    stands = (refl, refl);
    same = record { lines = refl; lines_use = refl; others = λ k other open_now. other_added (take count text) t k other; room = refl };
    cause = inl tt;
    outside = λ rose is. (full rose (subst IsWriting (sym is) tt)).full;
  }

  cut_between : (F : Type 0) (count : ℕ) (old new : Option Told) → count ≤ length text → new ≡ option_map (cut_at count) old
      → (F → IfSome old (λ t. IsWriting (t.uses 1) → FillsRoom 1 text t new)) → Between old new (Left (gives (λ x. x ≡ text)) (failed (codes "output")) F)
  cut_between F count None new within is full = tt
  cut_between F count (Some t) new within is full =
      subst (λ (o : Option Told). Between (Some t) o (Left (gives (λ x. x ≡ text)) (failed (codes "output")) F)) (sym is)
      (cut_left F count t within (λ rose writing. subst (FillsRoom 1 text t) is (full rose writing)))

  pub given_cut : (a b : Moment) → CutOutput text a.told b.told → b.faults ≡ counted a.faults → b.lost ≡ a.lost → (a.sure → b.sure)
      → (a.sure → IfSome a.told (λ t. IsWriting (t.uses 1) → FillsRoom 1 text t b.told)) → Ends (gives (λ x. x ≡ text)) (failed (codes "output")) a b
  given_cut a b cut faults lost sure full = record {
    told = cut_between (FaultRose a b) cut.count a.told b.told cut.within cut.told (λ rose. full rose.1);
    faults = faults;
    lost = lost;
    sure = sure;
    may = inl tt;
  }
