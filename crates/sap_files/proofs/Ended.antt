-- The steps of a command joined, once for all of them: from how what it asks next ends to how the whole ends.
use Rattle.sap_lemmas.proofs.Common.{◌≡◌, ◌≢◌, ℕ, List, [], length, take, refl, sym, ◌∙◌, ap, subst, inl, inr, arith, length-take, Option, Some, None, IfSome, Bool, cond, unwrap_or, append-nil, bytes_eq_same}
use Rattle.sap_desk.specs.Desk.{Told, Use}
use Rattle.sap_desk.specs.Cause.{counted}
use Rattle.sap_desk.specs.Whole.{Between, FailedWriting, FillsFile}
use Rattle.sap_files.specs.Prelude.{Ending, Refusal, done, refused, failed, no_memory, IsFree, Kind, Has, IsRefused, Asks, file, with_the, gives, writes, stops, Files, IsCut, Leaves, Output, FullFile, Stands, Counted, Ends, EndsReading, FaultRose, Left, Moment, NotRead, OpensUnread, Quiet, Reads, Refuses, Same, Stops}

pub between_map : (P Q : Told → Told → Type 0) (old new : Option Told) → ((t n : Told) → P t n → Q t n) → Between old new P → Between old new Q
between_map P Q None new h b = tt
between_map P Q (Some t) None h b = b
between_map P Q (Some t) (Some n) h b = h t n b

-- with what is known of the contents before
between_with : (K : Told → Type 0) (P Q : Told → Told → Type 0) (old new : Option Told) → ((t n : Told) → K t → P t n → Q t n)
    → IfSome old K → Between old new P → Between old new Q
between_with K P Q None new h known b = tt
between_with K P Q (Some t) None h known b = b
between_with K P Q (Some t) (Some n) h known b = h t n known b

between_from : (P : Told → Told → Type 0) (old mid new : Option Told) → mid ≡ old → Between mid new P → Between old new P
between_from P old mid new is b = subst (λ (o : Option Told). Between o new P) is b

same_self : (t : Told) → Same t t
same_self t = record { lines = refl; lines_use = refl; others = λ k other open_now. refl; room = refl }

between_self : (P : Told → Told → Type 0) (old new : Option Told) → ((t : Told) → P t t) → new ≡ old → Between old new P
between_self P None new h is = tt
between_self P (Some t) new h is = subst (λ (o : Option Told). Between (Some t) o P) (sym is) (h t)

known_between : (K : Told → Type 0) (P : Told → Told → Type 0) (old new : Option Told) → ((t : Told) → K t → P t t) → new ≡ old → IfSome old K → Between old new P
known_between K P None new h is known = tt
known_between K P (Some t) new h is known = subst (λ (o : Option Told). Between (Some t) o P) (sym is) (h t known)

-- moments

pub quiet_self : (m : Moment) → Quiet m m
quiet_self m = record { told = refl; faults = refl; lost = refl; sure = λ s. s }

pub quiet_then : {a b c : Moment} → Quiet a b → Quiet b c → Quiet a c
quiet_then p q = record { told = q.told ∙ p.told; faults = q.faults ∙ p.faults; lost = q.lost ∙ p.lost; sure = λ s. q.sure (p.sure s) }

-- a file stands for a value, and what is asked behind it is done

module _ (name : List ℕ) (k : Kind) (rest : k.Value → Asks) (v : k.Value) (t : Told) (has : Has t name k.Stands v) where
  cut_past : (gained : List ℕ) → IsCut (rest v) t gained → IsCut (file name k rest) t gained
  cut_past gained (inl none) = inl none
  cut_past gained (inr (text, (e, shows), prefix)) = inr (text, (e, inr (v, has, shows)), prefix)

  stands_past : (e : Ending) (gained : List ℕ) (before after : ℕ → Use) → Stands (rest v) t e gained before after → Stands (file name k rest) t e gained before after
  stands_past done gained before after h = h
  stands_past (refused why) gained before after h = h
  stands_past (failed blamed) gained before after h = inr (v, has, h)
  stands_past no_memory gained before after h = h

  leaves_past : (e : Ending) (files : Files) → Leaves (rest v) t files e → Leaves (file name k rest) t files e
  leaves_past done files h = (v, has, h)
  leaves_past (refused why) files h = h
  leaves_past (failed blamed) files h = elim h [ inl same ↦ inl same | inr part ↦ inr (v, has, part) ]
  leaves_past no_memory files h = h

  shows_past : (e : Ending) (gained : List ℕ) → Output (rest v) t gained e → Output (file name k rest) t gained e
  shows_past done gained h = inr (v, has, h)
  shows_past (refused why) gained h = inr (v, has, h)
  shows_past (failed blamed) gained h = cut_past gained h
  shows_past no_memory gained h = h

  left_past : (e : Ending) (F G : Type 0) (n : Told) → (F → G) → Left (rest v) e G t n → Left (file name k rest) e F t n
  left_past e F G n onward l = record {
    leaves = leaves_past e n.files l.leaves;
    gained = l.gained;
    output = l.output;
    shows = shows_past e l.gained l.shows;
    blames = l.blames;
    stands = stands_past e l.gained t.uses n.uses l.stands;
    same = l.same;
    cause = elim l.cause [ inl free ↦ inl free | inr cause ↦ inr (inr (v, has, cause)) ];
    outside = λ changed. inr (v, has, l.outside (onward changed));
  }

-- the counts
counted_later : {a b : Moment} (e : Ending) (now : ℕ) → Quiet a b → Counted b.faults now e → Counted a.faults now e
counted_later {a = a} {b = b} e now q h = subst (λ (k : ℕ). Counted k now e) q.faults h

-- the file stands for a value: so the whole ends as what is asked behind it
pub past : {name bytes : List ℕ} {k : Kind} {rest : k.Value → Asks} {e : Ending} {a b c : Moment} (v : k.Value)
    → Reads name bytes a b → k.Stands bytes v → Ends (rest v) e b c → Ends (file name k rest) e a c
past {name = name} {bytes = bytes} {k = k} {rest = rest} {e = e} {a = a} {b = b} {c = c} v reads stands ended = record {
  told =
      let F : Type 0 = (c.faults ≢ a.faults) × a.sure in
      let G : Type 0 = (c.faults ≢ b.faults) × b.sure in
      let onward : F → G = λ (changed, sure). ((λ same. changed (same ∙ reads.quiet.faults)), reads.quiet.sure sure) in
      between_with (λ t. t.files name ≡ Some bytes) (Left (rest v) e G) (Left (file name k rest) e F) a.told c.told
      (λ t n there l. left_past name k rest v t (record { bytes = bytes; file = there; stands = stands }) e F G n onward l)
      reads.file (between_from (Left (rest v) e G) a.told b.told c.told reads.quiet.told ended.told);
  faults = counted_later {a = a} {b = b} e c.faults reads.quiet ended.faults;
  lost = ended.lost ∙ reads.quiet.lost;
  sure = λ sure. ended.sure (reads.quiet.sure sure);
  may = elim ended.may [ inl free ↦ inl free | inr may ↦ inr (inr (bytes, v, stands, may)) ];
}

-- it goes on with what holds

module _ (V : Type 0) (Holds : V → Type 0) (rest : V → Asks) (v : V) (t : Told) (holds : Holds v) where
  cut_chosen : (gained : List ℕ) → IsCut (rest v) t gained → IsCut (with_the V Holds rest) t gained
  cut_chosen gained (inl none) = inl none
  cut_chosen gained (inr (text, (e, shows), prefix)) = inr (text, (e, (v, holds, shows)), prefix)

  stands_chosen : (e : Ending) (gained : List ℕ) (before after : ℕ → Use) → Stands (rest v) t e gained before after → Stands (with_the V Holds rest) t e gained before after
  stands_chosen done gained before after h = h
  stands_chosen (refused why) gained before after h = h
  stands_chosen (failed blamed) gained before after h = (v, holds, h)
  stands_chosen no_memory gained before after h = h

  leaves_chosen : (e : Ending) (files : Files) → Leaves (rest v) t files e → Leaves (with_the V Holds rest) t files e
  leaves_chosen done files h = (v, holds, h)
  leaves_chosen (refused why) files h = h
  leaves_chosen (failed blamed) files h = elim h [ inl same ↦ inl same | inr part ↦ inr (v, holds, part) ]
  leaves_chosen no_memory files h = h

  shows_chosen : (e : Ending) (gained : List ℕ) → Output (rest v) t gained e → Output (with_the V Holds rest) t gained e
  shows_chosen done gained h = (v, holds, h)
  shows_chosen (refused why) gained h = (v, holds, h)
  shows_chosen (failed blamed) gained h = cut_chosen gained h
  shows_chosen no_memory gained h = h

  left_chosen : (e : Ending) (F : Type 0) (n : Told) → Left (rest v) e F t n → Left (with_the V Holds rest) e F t n
  left_chosen e F n l = record {
    leaves = leaves_chosen e n.files l.leaves;
    gained = l.gained;
    output = l.output;
    shows = shows_chosen e l.gained l.shows;
    blames = l.blames;
    stands = stands_chosen e l.gained t.uses n.uses l.stands;
    same = l.same;
    cause = elim l.cause [ inl free ↦ inl free | inr cause ↦ inr (v, holds, cause) ];
    outside = λ changed. (v, holds, l.outside changed);
  }

pub chosen : {V : Type 0} {Holds : V → Type 0} {rest : V → Asks} {e : Ending} {a b : Moment} (v : V) → Holds v → Ends (rest v) e a b → Ends (with_the V Holds rest) e a b
chosen {V = V} {Holds = Holds} {rest = rest} {e = e} {a = a} {b = b} v holds ended = record {
  told =
      let F : Type 0 = FaultRose a b in
      between_map (Left (rest v) e F) (Left (with_the V Holds rest) e F) a.told b.told (λ t n l. left_chosen V Holds rest v t holds e F n l) ended.told;
  faults = ended.faults;
  lost = ended.lost;
  sure = ended.sure;
  may = elim ended.may [ inl free ↦ inl free | inr may ↦ inr (v, holds, may) ];
}

-- the file could not be read

free_leaves : (a : Asks) (t : Told) (files : Files) (e : Ending) → IsFree e → files ≡ t.files → Leaves a t files e
free_leaves a t files done free is = absurd free
free_leaves a t files (refused why) free is = absurd free
free_leaves a t files (failed name) free is = inl is
free_leaves a t files no_memory free is = is

free_shows : (a : Asks) (t : Told) (e : Ending) → IsFree e → Output a t [] e
free_shows a t done free = absurd free
free_shows a t (refused why) free = absurd free
free_shows a t (failed name) free = inl refl
free_shows a t no_memory free = refl

unread_stands : (name : List ℕ) (k : Kind) (rest : k.Value → Asks) (t : Told) (e : Ending) (before after : ℕ → Use) → OpensUnread k.most name e t before after
    → Stands (file name k rest) t e [] before after
unread_stands name k rest t done before after h = h
unread_stands name k rest t (refused why) before after h = h
unread_stands name k rest t (failed blamed) before after h = inl (h.0, refl, h.1)
unread_stands name k rest t no_memory before after h = h

not_read : (name : List ℕ) (k : Kind) (rest : k.Value → Asks) (e : Ending) (F : Type 0) (t n : Told) → IsFree e → NotRead k.most name e F t n
    → Left (file name k rest) e F t n
not_read name k rest e F t n free s = record {
  leaves = free_leaves (file name k rest) t n.files e free s.files;
  gained = [];
  output = s.output ∙ sym (append-nil (t.written 1));
  shows = free_shows (file name k rest) t e free;
  blames = s.blames;
  stands = unread_stands name k rest t e t.uses n.uses s.opens;
  same = s.same;
  cause = inl free;
  outside = λ changed. inl (s.outside changed);
}

pub stopped : {name : List ℕ} {k : Kind} {rest : k.Value → Asks} {e : Ending} {a b : Moment} → Stops k.most name e a b → Ends (file name k rest) e a b
stopped {name = name} {k = k} {rest = rest} {e = e} {a = a} {b = b} s = record {
  told =
      let F : Type 0 = (b.faults ≢ a.faults) × a.sure in
      between_map (NotRead k.most name e F) (Left (file name k rest) e F) a.told b.told (λ t n s'. not_read name k rest e F t n s.free s') s.told;
  faults = s.faults;
  lost = s.lost;
  sure = s.sure;
  may = inl s.free;
}

-- want of memory, nothing being changed

pub starved_left : (a : Asks) (F : Type 0) (t : Told) → (F → ⊥) → Left a no_memory F t t
starved_left a F t never = record {
  leaves = refl;
  gained = [];
  output = sym (append-nil (t.written 1));
  shows = refl;
  blames = refl;
  stands = refl;
  same = same_self t;
  cause = inl tt;
  outside = λ changed. absurd (never changed);
}

pub starved : (a : Asks) {before after : Moment} → Quiet before after → Ends a no_memory before after
starved a {before = before} {after = after} q = record {
  told =
      let F : Type 0 = (after.faults ≢ before.faults) × before.sure in
      between_self (Left a no_memory F) before.told after.told (λ t. starved_left a F t (λ (changed, sure). changed q.faults)) q.told;
  faults = q.faults;
  lost = q.lost;
  sure = q.sure;
  may = inl tt;
}

-- a refusal behind all files, nothing being changed

stopped_left : (why : Refusal) (F : Type 0) (t : Told) → (F → ⊥) → Left (stops why) (refused why) F t t
stopped_left why F t never = record {
  leaves = refl;
  gained = [];
  output = sym (append-nil (t.written 1));
  shows = (refl, refl);
  blames = refl;
  stands = refl;
  same = same_self t;
  cause = inr refl;
  outside = λ changed. absurd (never changed);
}

pub stopped_here : (why : Refusal) {before after : Moment} → Quiet before after → Ends (stops why) (refused why) before after
stopped_here why {before = before} {after = after} q = record {
  told =
      let F : Type 0 = FaultRose before after in
      between_self (Left (stops why) (refused why) F) before.told after.told (λ t. stopped_left why F t (λ (changed, sure). changed q.faults)) q.told;
  faults = q.faults;
  lost = q.lost;
  sure = q.sure;
  may = inr refl;
}

pub stopped_by : (why : Refusal) (e : Ending) {before after : Moment} → e ≡ refused why → Quiet before after → Ends (stops why) e before after
stopped_by why e {before = before} {after = after} is q = subst (λ (f : Ending). Ends (stops why) f before after) (sym is) (stopped_here why q)

-- the file is refused

refused_left : (name bytes : List ℕ) (k : Kind) (rest : k.Value → Asks) (why : Refusal) (F : Type 0) (t : Told) → (F → ⊥) → k.Refused bytes why
    → t.files name ≡ Some bytes → Left (file name k rest) (refused why) F t t
refused_left name bytes k rest why F t never is there =
    let at : IsRefused t name k why = record { bytes = bytes; file = there; refused = is } in
    record {
      leaves = refl;
      gained = [];
      output = sym (append-nil (t.written 1));
      shows = inl ((why, refl, at), refl);
      blames = refl;
      stands = refl;
      same = same_self t;
      cause = inr (inl (why, refl, at));
      outside = λ changed. absurd (never changed);
    }

pub refuses : {name : List ℕ} {k : Kind} {rest : k.Value → Asks} {a b : Moment} (bytes : List ℕ) (why : Refusal)
    → Reads name bytes a b → k.Refused bytes why → Ends (file name k rest) (refused why) a b
refuses {name = name} {k = k} {rest = rest} {a = a} {b = b} bytes why reads is = record {
  told =
      let F : Type 0 = (b.faults ≢ a.faults) × a.sure in
      known_between (λ t. t.files name ≡ Some bytes) (Left (file name k rest) (refused why) F) a.told b.told
      (λ t there. refused_left name bytes k rest why F t (λ (changed, sure). changed reads.quiet.faults) is there) reads.quiet.told reads.file;
  faults = reads.quiet.faults;
  lost = reads.quiet.lost;
  sure = reads.quiet.sure;
  may = inr (inl (bytes, why, refl, is));
}

-- the bytes of a file give no value
pub not_given : {name bytes : List ℕ} {k : Kind} {rest : k.Value → Asks} {a b : Moment} (e : Ending)
    → Reads name bytes a b → Refuses k bytes e → Ends (file name k rest) e a b
not_given {name = name} {bytes = bytes} {k = k} {rest = rest} {a = a} {b = b} e reads (inl is) =
    subst (λ (f : Ending). Ends (file name k rest) f a b) (sym is) (starved (file name k rest) reads.quiet)
not_given {name = name} {bytes = bytes} {k = k} {rest = rest} {a = a} {b = b} e reads (inr (why, is, refuted)) =
    subst (λ (f : Ending). Ends (file name k rest) f a b) (sym is) (refuses {rest = rest} bytes why reads refuted)

-- a file read as one of a kind

pub got : {name : List ℕ} {k : Kind} {rest : k.Value → Asks} {e : Ending} {a b c : Moment} (v : k.Value)
    → (bytes : List ℕ) × Reads name bytes a b × k.Stands bytes v → Ends (rest v) e b c → Ends (file name k rest) e a c
got v h ended = past v h.1 h.2 ended

pub reading_ended : {name : List ℕ} {k : Kind} {rest : k.Value → Asks} {e : Ending} {a b : Moment} → EndsReading name k e a b → Ends (file name k rest) e a b
reading_ended (inl unread) = stopped unread
reading_ended {e = e} (inr (bytes, reads, refuted)) = not_given e reads refuted

-- a file was cut off in writing

fills : (name text : List ℕ) (t n : Told) → FillsFile name text t n → n.room ≡ t.room → FullFile name t n
fills name text t n full room =
    let there : n.files name ≡ Some (take t.room text) =
    ap (λ (files : Files). files name) full.full ∙ ap (λ (b : Bool). cond b (Some (take t.room text)) (t.files name)) (bytes_eq_same name) in
    let short : length (take t.room text) ≡ t.room = simp length-take (omega (arith, full.beyond)) in
    ap (λ (o : Option (List ℕ)). length (unwrap_or o [])) there ∙ short ∙ sym room

cut_left : (name text : List ℕ) (F : Type 0) (t n : Told) → FailedWriting name text t n → (F → FillsFile name text t n)
    → Left (writes name (λ x. x ≡ text)) (failed name) F t n
cut_left name text F t n cut full = record {
  leaves = elim cut.left [
    | inl before ↦ inl before.0
    | inr (part, open_now) ↦ inr (refl, (text, take part.count text, refl, (part.count, part.within, refl), part.files))
  ];
  gained = [];
  output = cut.channels.output ∙ sym (append-nil (t.written 1));
  shows = inl refl;
  blames = cut.blame;
  stands = (refl, refl, elim cut.left [ inl before ↦ inl before.1 | inr now ↦ inr now.1 ]);
  same = record { lines = cut.channels.lines; lines_use = cut.channels.lines_use; others = λ k other. cut.channels.open_written k; room = cut.channels.room };
  cause = inl tt;
  outside = λ rose. fills name text t n (full rose) cut.channels.room;
}

cut_between : (name text : List ℕ) (F : Type 0) (old new : Option Told) → Between old new (FailedWriting name text) → (F → Between old new (FillsFile name text))
    → Between old new (Left (writes name (λ x. x ≡ text)) (failed name) F)
cut_between name text F None new cut full = tt
cut_between name text F (Some t) None cut full = cut
cut_between name text F (Some t) (Some n) cut full = cut_left name text F t n cut full

pub cut_off : (name text : List ℕ) (before after : Moment) → Between before.told after.told (FailedWriting name text) → after.faults ≡ counted before.faults
    → after.lost ≡ before.lost → (before.sure → after.sure) → (before.sure → Between before.told after.told (FillsFile name text))
    → Ends (writes name (λ x. x ≡ text)) (failed name) before after
cut_off name text before after cut faults lost sure full = record {
  told = cut_between name text (FaultRose before after) before.told after.told cut (λ rose. full rose.1);
  faults = faults;
  lost = lost;
  sure = sure;
  may = inl tt;
}

-- the text, or the file, was written that is asked for

module _ (P : List ℕ → Type 0) (text : List ℕ) (holds : P text) where
  held : (x : List ℕ) → x ≡ text → P x
  held x is = subst P (sym is) holds

  shows_given : (t : Told) (e : Ending) (gained : List ℕ) → Output (gives (λ x. x ≡ text)) t gained e → Output (gives P) t gained e
  shows_given t done gained (is, it) = (is, held gained it)
  shows_given t (refused why) gained (is, it) = (is, held gained it)
  shows_given t (failed name) gained (inl none) = inl none
  shows_given t (failed name) gained (inr (whole, (e, (is, it)), prefix)) = inr (whole, (e, (is, held whole it)), prefix)
  shows_given t no_memory gained h = h

  leaves_given : (t : Told) (files : Files) (e : Ending) → Leaves (gives (λ x. x ≡ text)) t files e → Leaves (gives P) t files e
  leaves_given t files done h = h
  leaves_given t files (refused why) h = h
  leaves_given t files (failed name) h = h
  leaves_given t files no_memory h = h

  stands_given : (t : Told) (e : Ending) (gained : List ℕ) (before after : ℕ → Use) → Stands (gives (λ x. x ≡ text)) t e gained before after
      → Stands (gives P) t e gained before after
  stands_given t done gained before after h = h
  stands_given t (refused why) gained before after h = h
  stands_given t (failed blamed) gained before after h = h
  stands_given t no_memory gained before after h = h

  left_given : (e : Ending) (F : Type 0) (t n : Told) → Left (gives (λ x. x ≡ text)) e F t n → Left (gives P) e F t n
  left_given e F t n l = record {
    leaves = leaves_given t n.files e l.leaves;
    gained = l.gained;
    output = l.output;
    shows = shows_given t e l.gained l.shows;
    blames = l.blames;
    stands = stands_given t e l.gained t.uses n.uses l.stands;
    same = l.same;
    cause = l.cause;
    outside = l.outside;
  }

  shows_written : (name : List ℕ) (t : Told) (e : Ending) (gained : List ℕ) → Output (writes name (λ x. x ≡ text)) t gained e → Output (writes name P) t gained e
  shows_written name t done gained h = h
  shows_written name t (refused why) gained h = h
  shows_written name t (failed blamed) gained h = h
  shows_written name t no_memory gained h = h

  leaves_written : (name : List ℕ) (t : Told) (files : Files) (e : Ending) → Leaves (writes name (λ x. x ≡ text)) t files e → Leaves (writes name P) t files e
  leaves_written name t files done (whole, it, is) = (whole, held whole it, is)
  leaves_written name t files (refused why) h = h
  leaves_written name t files (failed blamed) (inl same) = inl same
  leaves_written name t files (failed blamed) (inr (at, (whole, part, it, prefix, is))) = inr (at, (whole, part, held whole it, prefix, is))
  leaves_written name t files no_memory h = h

  stands_written : (name : List ℕ) (t : Told) (e : Ending) (gained : List ℕ) (before after : ℕ → Use) → Stands (writes name (λ x. x ≡ text)) t e gained before after
      → Stands (writes name P) t e gained before after
  stands_written name t done gained before after h = h
  stands_written name t (refused why) gained before after h = h
  stands_written name t (failed blamed) gained before after h = h
  stands_written name t no_memory gained before after h = h

  left_written : (name : List ℕ) (e : Ending) (F : Type 0) (t n : Told) → Left (writes name (λ x. x ≡ text)) e F t n → Left (writes name P) e F t n
  left_written name e F t n l = record {
    leaves = leaves_written name t n.files e l.leaves;
    gained = l.gained;
    output = l.output;
    shows = shows_written name t e l.gained l.shows;
    blames = l.blames;
    stands = stands_written name t e l.gained t.uses n.uses l.stands;
    same = l.same;
    cause = l.cause;
    outside = l.outside;
  }

pub gave : {P : List ℕ → Type 0} {e : Ending} {a b : Moment} (text : List ℕ) → P text → Ends (gives (λ x. x ≡ text)) e a b → Ends (gives P) e a b
gave {P = P} {e = e} {a = a} {b = b} text holds ended = record {
  told =
      let F : Type 0 = FaultRose a b in
      between_map (Left (gives (λ x. x ≡ text)) e F) (Left (gives P) e F) a.told b.told (λ t n l. left_given P text holds e F t n l) ended.told;
  faults = ended.faults;
  lost = ended.lost;
  sure = ended.sure;
  may = ended.may;
}

pub wrote : {name : List ℕ} {P : List ℕ → Type 0} {e : Ending} {a b : Moment} (text : List ℕ) → P text
    → Ends (writes name (λ x. x ≡ text)) e a b → Ends (writes name P) e a b
wrote {name = name} {P = P} {e = e} {a = a} {b = b} text holds ended = record {
  told =
      let F : Type 0 = FaultRose a b in
      between_map (Left (writes name (λ x. x ≡ text)) e F) (Left (writes name P) e F) a.told b.told
      (λ t n l. left_written P text holds name e F t n l) ended.told;
  faults = ended.faults;
  lost = ended.lost;
  sure = ended.sure;
  may = ended.may;
}
