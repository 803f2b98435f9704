-- What an answer says, once the next line was told.
use Rattle.sap_lemmas.proofs.Common.{◌≡◌, ℕ, ◌+◌, ◌-◌, ◌<◌, Bool, false, List, [], ◌++◌, length, length-append, take, drop, append_assoc, refl, sym, ap, ◌∙◌, subst, inl, inr, arith, ◌⊎◌, ◌^◌, IsTrue, Option, Some, None, IfSome, take_all}
use Rattle.sap_desk.specs.Desk.{Told, name_if_reading, read_on, rest_of}
use Rattle.sap_desk.specs.Cause.{counted}
use Rattle.sap_desk.specs.Whole.{Between}
use Rattle.sap_desk.proofs.Steps.{option_map-same, rest-read_on}
use Rattle.sap_lattice.specs.Levels.{Levels}
use Rattle.sap_stream.specs.Spans.{Span}
use Rattle.sap_stim.specs.declared.field.Field.{Field}
use Rattle.sap_stim.specs.declared.stimulus.Parsed.{Parsed}
use Rattle.sap_stim.specs.Stimulus.{read_from}
use Rattle.sap_lines.specs.declared.next.Next.{Next}
use Rattle.sap_lines.specs.declared.next.Next.TheVariants.{Line, End, Fault, Failed}
use Rattle.sap_lines.specs.Answers.{is_failed, is_line, count_after, BeginsWith, Tells, TellsBy, ReadOn, blamed_by}
use Rattle.sap_lines.specs.Reader.{Reader, to_come}
use Rattle.sap_lines.specs.Fetched.{IsDecided, EndsOrDecided, More, MoreAndFailed}
use Rattle.sap_lines.proofs.Reading.{failed_named, read_count, reads_least}

-- the count of lines is that of the next
tells_after : (next : Next) (count : ℕ) (p q : Parsed) (of : ℕ → Parsed) (line : Span) → count < 2 ^ 32 → Tells next p line (of (count + 2))
    → Tells next p line (of (count_after next count + 1))
tells_after Line count p q of line small h = let e : count + 2 ≡ counted count + 1 = omega arith in subst (λ (n : ℕ). Tells Line p line (of n)) e h
tells_after End count p q of line small h = h
tells_after (Fault fault) count p q of line small h = h
tells_after Failed count p q of line small h = h

pub told_lines : (ls : Levels) (fs : List Field) (channel count : ℕ) (held now later : List ℕ) (line : Span) (next : Next) (told told_now : Option Told) (g h : ℕ → ℕ)
    → More channel held now told told_now g h → IfSome told_now (EndsOrDecided channel now)
    → ((rest : List ℕ) → IsDecided now ⊎ (rest ≡ []) → count < 2 ^ 32 → Tells next (read_from ls fs (count + 1) (now ++ rest)) line (read_from ls fs (count + 2) (later ++ rest)))
    → count < 2 ^ 32
    → Between told told_now (λ t n. Tells next (read_from ls fs (count + 1) (held ++ rest_of t channel)) line
    (read_from ls fs (count_after next count + 1) (later ++ rest_of n channel)))
told_lines ls fs channel count held now later line next None told_now g h m decided tells small = tt
told_lines ls fs channel count held now later line next (Some t) None g h m decided tells small =
    absurd (let e : None ≡ Some (read_on channel m.asked m.count t) = m.told in let f : ⊥ = cc in f)
told_lines ls fs channel count held now later line next (Some t) (Some n) g h m decided tells small =
    let moved_on : n ≡ read_on channel m.asked m.count t = (let e : Some n ≡ Some (read_on channel m.asked m.count t) = m.told in cc) in
    let left : rest_of n channel ≡ drop m.count (rest_of t channel) = ap (λ (x : Told). rest_of x channel) moved_on ∙ rest-read_on channel m.asked m.count t in
    let same : now ++ rest_of n channel ≡ held ++ rest_of t channel = ap (λ (r : List ℕ). now ++ r) left ∙ m.bytes in
    let here : Tells next (read_from ls fs (count + 1) (now ++ rest_of n channel)) line (read_from ls fs (count + 2) (later ++ rest_of n channel)) =
    tells (rest_of n channel) decided small in
    let moved_here : Tells next (read_from ls fs (count + 1) (held ++ rest_of t channel)) line (read_from ls fs (count + 2) (later ++ rest_of n channel))
    = subst (λ (s : List ℕ). Tells next (read_from ls fs (count + 1) s) line (read_from ls fs (count + 2) (later ++ rest_of n channel))) same here in
    tells_after next count (read_from ls fs (count + 1) (held ++ rest_of t channel))
    (read_from ls fs (count + 1) (held ++ rest_of t channel)) (λ k. read_from ls fs k (later ++ rest_of n channel)) line small moved_here

-- an answer over a told desk, as the reader is seen
pub next_told : (ls : Levels) (fs fields : List Field) (channel count count_now : ℕ) (held now later : List ℕ) (line line_now : Span)
    (live live_now : Bool) (next : Next) (told told_now : Option Told)
    (g h : ℕ → ℕ) (r : Reader) → record { fields = fields; live = live; line = line; count = count; pending = held } ≡ r → fs ≡ fields → count_now ≡ count_after next count
    → More channel held now told told_now g h → IfSome told_now (EndsOrDecided channel now)
    → ((rest : List ℕ) → IsDecided now ⊎ (rest ≡ []) → count < 2 ^ 32
    → Tells next (read_from ls fs (count + 1) (now ++ rest)) line_now (read_from ls fs (count + 2) (later ++ rest)))
    → r.count < 2 ^ 32
    → Between told told_now (λ t n. Tells next (to_come ls r (rest_of t channel)) line_now
    (to_come ls (record { fields = fields; live = live_now; line = line_now; count = count_now; pending = later }) (rest_of n channel)))
next_told ls fs fields channel count count_now held now later line line_now live live_now next told told_now g h r seen same counts m decided tells =
    subst (λ (q : Reader). q.count < 2 ^ 32 → Between told told_now
    (λ t n. Tells next (to_come ls q (rest_of t channel)) line_now (read_from ls fields (count_now + 1) (later ++ rest_of n channel)))) seen
    (λ small.
    subst (λ (k : ℕ). Between told told_now (λ t n. Tells next (read_from ls fields (count + 1) (held ++ rest_of t channel)) line_now
    (read_from ls fields (k + 1) (later ++ rest_of n channel)))) (sym counts)
    (subst (λ (list : List Field). Between told told_now
    (λ t n. Tells next (read_from ls list (count + 1) (held ++ rest_of t channel)) line_now (read_from ls list (count_after next count + 1) (later ++ rest_of n channel)))) same
    (told_lines ls fs channel count held now later line_now next told told_now g h m decided tells small)))

-- what an answer tells of bytes that stand as they were
pub still_tells : (ls : Levels) (fs : List Field) (count : ℕ) (held now later : List ℕ) (line : Span) (next : Next) → now ≡ held
    → ((rest : List ℕ) → IsDecided now ⊎ (rest ≡ []) → count < 2 ^ 32
    → Tells next (read_from ls fs (count + 1) (now ++ rest)) line (read_from ls fs (count + 2) (later ++ rest)))
    → (rest : List ℕ) → IsDecided held ⊎ (rest ≡ []) → count < 2 ^ 32
    → Tells next (read_from ls fs (count + 1) (held ++ rest)) line (read_from ls fs (count + 2) (later ++ rest))
still_tells ls fs count held now later line next same =
    subst (λ (s : List ℕ). (rest : List ℕ) → IsDecided s ⊎ (rest ≡ []) → count < 2 ^ 32
    → Tells next (read_from ls fs (count + 1) (s ++ rest)) line (read_from ls fs (count + 2) (later ++ rest))) same

pub still_decided : (held now : List ℕ) (next : Next) → now ≡ held → (IsTrue (is_line next) → IsDecided now) → IsTrue (is_line next) → IsDecided held
still_decided held now next same = subst (λ (s : List ℕ). IsTrue (is_line next) → IsDecided s) same

pub still_takes : (ls : Levels) (fs : List Field) (held now later : List ℕ) (line : Span) (next : Next) → now ≡ held
    → (IsTrue (is_line next) → BeginsWith ls fs now line later) → IsTrue (is_line next) → BeginsWith ls fs held line later
still_takes ls fs held now later line next same = subst (λ (s : List ℕ). IsTrue (is_line next) → BeginsWith ls fs s line later) same

-- the line that is taken, of what was held and what was read behind it

module _ (ls : Levels) (fs : List Field) (held now later : List ℕ) (line : Span) (r : Reader) (same : fs ≡ r.fields) (pending : held ≡ r.pending)
    (begins : BeginsWith ls fs now line later) where
  pub takes_line : (more : List ℕ) → now ≡ held ++ more → BeginsWith ls r.fields (r.pending ++ more) line later
  takes_line more is =
      let bytes : now ≡ r.pending ++ more = is ∙ ap (λ (xs : List ℕ). xs ++ more) pending in
      subst (λ (list : List Field). BeginsWith ls list (r.pending ++ more) line later) same (subst (λ (s : List ℕ). BeginsWith ls fs s line later) bytes begins)

  pub takes_read : (channel read : ℕ) (told : Option Told) → IfSome told (λ t. now ≡ held ++ take read (rest_of t channel))
      → IfSome told (λ t. BeginsWith ls r.fields (r.pending ++ take read (rest_of t channel)) line later)
  takes_read channel read None is = tt
  takes_read channel read (Some t) is = takes_line (take read (rest_of t channel)) is

  pub takes_some : (channel : ℕ) (told told_now : Option Told) (g h : ℕ → ℕ) → More channel held now told told_now g h → (piece : List ℕ) → now ≡ held ++ piece
      → (more : List ℕ) × (length more ≡ h channel - g channel) × BeginsWith ls r.fields (r.pending ++ more) line later
  takes_some channel told told_now g h m piece is =
      let read : h channel - g channel ≡ m.count = read_count channel m.count g h m.given in
      let sum : length now ≡ length held + length piece = ap length is ∙ length-append held piece in
      (piece, omega (arith, m.size, sum, read), takes_line piece is)

-- on every desk

module _ (ls : Levels) (fs : List Field) (count : ℕ) (held piece now later : List ℕ) (line : Span) (next : Next) (is : now ≡ held ++ piece)
    (decided : IsTrue (is_line next) → IsDecided now)
    (tells : (rest : List ℕ) → IsDecided now ⊎ (rest ≡ []) → count < 2 ^ 32
    → Tells next (read_from ls fs (count + 1) (now ++ rest)) line (read_from ls fs (count + 2) (later ++ rest)))
    (small : count < 2 ^ 32) where
  told_by : (rest : List ℕ) → IsTrue (is_line next) ⊎ (rest ≡ []) → IsDecided now ⊎ (rest ≡ [])
  told_by rest (inl given) = inl (decided given)
  told_by rest (inr none) = inr none

  lines_by : (rest : List ℕ) → IsTrue (is_line next) ⊎ (rest ≡ [])
      → Tells next (read_from ls fs (count + 1) (held ++ (piece ++ rest))) line (read_from ls fs (count_after next count + 1) (later ++ rest))
  lines_by rest h =
      let all : now ++ rest ≡ held ++ (piece ++ rest) = ap (λ (xs : List ℕ). xs ++ rest) is ∙ append_assoc held piece rest in
      let p : Parsed = read_from ls fs (count + 1) (held ++ (piece ++ rest)) in
      tells_after next count p p (λ k. read_from ls fs k (later ++ rest)) line small
      (subst (λ (s : List ℕ). Tells next (read_from ls fs (count + 1) s) line (read_from ls fs (count + 2) (later ++ rest))) all (tells rest (told_by rest h) small))

pub next_by : (ls : Levels) (fs fields : List Field) (count count_now : ℕ) (held piece now later : List ℕ) (line line_now : Span) (live live_now : Bool) (next : Next) (r : Reader)
    → record { fields = fields; live = live; line = line; count = count; pending = held } ≡ r → fs ≡ fields → count_now ≡ count_after next count
    → now ≡ held ++ piece → (IsTrue (is_line next) → IsDecided now)
    → ((rest : List ℕ) → IsDecided now ⊎ (rest ≡ []) → count < 2 ^ 32
    → Tells next (read_from ls fs (count + 1) (now ++ rest)) line_now (read_from ls fs (count + 2) (later ++ rest)))
    → r.count < 2 ^ 32
    → TellsBy ls next r (record { fields = fields; live = live_now; line = line_now; count = count_now; pending = later }) piece
next_by ls fs fields count count_now held piece now later line line_now live live_now next r seen same counts is decided tells =
    subst (λ (q : Reader). q.count < 2 ^ 32 → TellsBy ls next q (record { fields = fields; live = live_now; line = line_now; count = count_now; pending = later }) piece) seen
    (λ small.
    subst (λ (k : ℕ). TellsBy ls next (record { fields = fields; live = live; line = line; count = count; pending = held })
    (record { fields = fields; live = live_now; line = line_now; count = k; pending = later }) piece) (sym counts)
    (subst (λ (list : List Field). TellsBy ls next (record { fields = list; live = live; line = line; count = count; pending = held })
    (record { fields = list; live = live_now; line = line_now; count = count_after next count; pending = later }) piece) same
    (lines_by ls fs count held piece now later line_now next is decided tells small)))

-- by what was read, where the desk tells it
pub next_read : (ls : Levels) (fs fields : List Field) (channel read count count_now : ℕ) (held now later : List ℕ) (line line_now : Span)
    (live live_now : Bool) (next : Next) (r : Reader) (told : Option Told)
    → record { fields = fields; live = live; line = line; count = count; pending = held } ≡ r → fs ≡ fields → count_now ≡ count_after next count
    → IfSome told (λ t. now ≡ held ++ take read (rest_of t channel)) → (IsTrue (is_line next) → IsDecided now)
    → ((rest : List ℕ) → IsDecided now ⊎ (rest ≡ []) → count < 2 ^ 32
    → Tells next (read_from ls fs (count + 1) (now ++ rest)) line_now (read_from ls fs (count + 2) (later ++ rest)))
    → r.count < 2 ^ 32
    → IfSome told (λ t. TellsBy ls next r (record { fields = fields; live = live_now; line = line_now; count = count_now; pending = later }) (take read (rest_of t channel)))
next_read ls fs fields channel read count count_now held now later line line_now live live_now next r None seen same counts is decided tells small = tt
next_read ls fs fields channel read count count_now held now later line line_now live live_now next r (Some t) seen same counts is decided tells small =
    next_by ls fs fields count count_now held (take read (rest_of t channel)) now later line line_now live live_now next r seen same counts is decided tells small

-- what holds of every desk that tells its contents
pub if_told : (told : Option Told) (P : Told → Type 0) → ((t : Told) → P t) → IfSome told P
if_told None P all = tt
if_told (Some t) P all = all t

blames_none : (next : Next) (channel : ℕ) (name : List ℕ) (t : Told) → is_failed next ≡ false → t ≡ blamed_by next channel name t
blames_none Line channel name t fine = refl
blames_none End channel name t fine = refl
blames_none (Fault fault) channel name t fine = refl
blames_none Failed channel name t fine = absurd (let f : ⊥ = cc in f)

pub answered_on : (next : Next) (channel : ℕ) (held now : List ℕ) (told told_now : Option Told) (g h : ℕ → ℕ) → is_failed next ≡ false
    → More channel held now told told_now g h → ReadOn next channel held told told_now g h
answered_on next channel held now told told_now g h fine m = record {
  asked = m.asked;
  count = m.count;
  least = reads_least channel m.count held now m.asked told m.size m.bytes m.least;
  told = m.told ∙ option_map-same _ _ told (λ t. blames_none next channel (name_if_reading (t.uses channel)) (read_on channel m.asked m.count t) fine);
  given = m.given;
}

-- a read failed, which was asked for behind bytes that don't tell the line
pub failed_on : (channel : ℕ) (held now : List ℕ) (told told_now : Option Told) (g h : ℕ → ℕ) → MoreAndFailed channel held now told told_now g h → (IsDecided now → ⊥)
    → ReadOn Failed channel held told told_now g h
failed_on channel held now told told_now g h m undecided = record {
  asked = Some m.count;
  count = m.count;
  least = reads_least channel m.count held now (Some m.count) told m.size m.bytes (
    omega (arith, m.size),
    omega (arith, m.size),
    λ decided. undecided (subst IsDecided (take_all (length held + m.count) now (omega (arith, m.size))) decided),
  );
  told = m.told ∙ option_map-same _ _ told (failed_named channel m.count);
  given = m.given;
}
