-- What is true of the labelled run of the machine, said of any program.
use Rattle.std.specs.Prelude.{◌≡◌, ℕ, ◌+◌, ◌*◌, ◌<◌, ◌≤◌, ◌&&◌, ◌⊎◌, List, [], ◌∷◌, ◌++◌, length, codes, get_or, nat_lt, if◌then◌else◌}
use Rattle.std.specs.List.{AllZip}
use Rattle.sap_lattice.specs.Order.{Order}
use Rattle.sap_meaning.specs.Program.{Program, World}
use Rattle.sap_meaning.specs.Cycle.{Tagged, given}
use Rattle.sap_meaning.specs.Store.{Store, own, start, number, Refusal, After, stay}
use Rattle.sap_meaning.specs.State.{first, labelled_run, StreamFits}
use Rattle.sap_meaning.specs.Agree.{High, SlotsAlike, StreamsAgree}
use Rattle.sap_machine.specs.declared.user.User.{User}
use Rattle.sap_machine.specs.declared.user.User.TheVariants.{A, B}
use Rattle.sap_machine.specs.Machine.{entity, part}
use Rattle.sap_machine.specs.Table.{UserState, begun}
use Rattle.sap_machine.specs.Slices.{after_slices, holder, other, sliced}

-- What an input gets in the cycle behind i cycles.
abbrev pub given_behind : World → List (List Tagged) → (input i : ℕ) → Tagged
given_behind w stream x i = given w (get_or stream i []) x

-- The word i of a user is that of cycle i + 1, for i below 16, if its level is at or below the user's; else 0.
unfoldable pub word : World → User → List (List Tagged) → (i : ℕ) → ℕ
word w u stream i =
    let t = given_behind w stream (part u).input i in
    if nat_lt i 16 && w.order.le t.level (part u).level then t.number else 0

-- The first state, and what each cycle of a run leads to.
abbrev pub states : Program → List (List Tagged) → List After
states p stream = stay (first p.world) ∷ labelled_run p stream

-- What a run has come to behind so many cycles.
abbrev pub after_cycles : Program → (cycles : ℕ) → List (List Tagged) → After
after_cycles p c stream = get_or (states p stream) c (stay (first p.world))

-- What the machine has of a user, in the registers in which the kernel keeps it and in the memory of its cells.
pub record Keeps (u : User) (state : UserState) (s : Store) : Type 0 where
  pub pc : number (own (part u).pc) s ≡ state.pc
  pub acc : number (own (part u).acc) s ≡ state.acc
  pub cell : (k : ℕ) → k < 16 → number (start (part u).cells k) s ≡ state.cell k

-- After cycle 17 + 6n both users are kept as the table has them after n slices.
abbrev pub RunsTheTable : Program → Type 0
RunsTheTable p = (stream : List (List Tagged)) → StreamFits p.world stream → (n : ℕ) → 17 + 6 * n ≤ length stream
    → (u : User) → Keeps u (after_slices u (word p.world u stream) n) (after_cycles p (17 + 6 * n) stream).store

-- A word that isn't at or below its user's level is refused, at that level.
abbrev pub refused_word : Order → User → Tagged → List Refusal
refused_word o u t = if o.le t.level (part u).level then []
    else record { site = (part u).site; level = (part u).level } ∷ []

-- What is refused behind c cycles: in the first sixteen cycles these words of both users, and nothing else ever.
abbrev pub refused_words : World → List (List Tagged) → (c : ℕ) → List Refusal
refused_words w stream c =
    if nat_lt c 16 then refused_word w.order A (given_behind w stream (part A).input c)
    ++ refused_word w.order B (given_behind w stream (part B).input c) else []

-- Each cycle refuses exactly these words.
abbrev pub RefusesTheWords : Program → Type 0
RefusesTheWords p = (stream : List (List Tagged)) → StreamFits p.world stream → (c : ℕ) → c < length stream
    → (after_cycles p (c + 1) stream).refused ≡ refused_words p.world stream c

-- Two streams have the same words for a user, at whatever levels these come.
abbrev pub SameWords : World → User → (s t : List (List Tagged)) → Type 0
SameWords w u s t = (i : ℕ) → i < 16 → word w u s i ≡ word w u t i

-- The same is kept of a user.
pub record KeptAlike (u : User) (s t : Store) : Type 0 where
  pub pc : number (own (part u).pc) s ≡ number (own (part u).pc) t
  pub acc : number (own (part u).acc) s ≡ number (own (part u).acc) t
  pub cell : (k : ℕ) → k < 16 → number (start (part u).cells k) s ≡ number (start (part u).cells k) t

-- A user's words alone decide what is kept of it after each slice.
abbrev pub WordsDecide : Program → Type 0
WordsDecide p = (s t : List (List Tagged)) → StreamFits p.world s → StreamFits p.world t → (u : User)
    → SameWords p.world u s t
    → (n : ℕ) → 17 + 6 * n ≤ length s → 17 + 6 * n ≤ length t
    → KeptAlike u (after_cycles p (17 + 6 * n) s).store (after_cycles p (17 + 6 * n) t).store

-- A user's part is the same: what is kept of it, its words, and what of the pipeline is at or below its level.
pub record SamePart (w : World) (u : User) (s t : Store) : Type 0 where
  pub kept : KeptAlike u s t
  pub word : (k : ℕ) → k < 16 → number (start (part u).words k) s ≡ number (start (part u).words k) t
  pub pc : SlotsAlike w (part u).level (own (entity (codes "pc"))) s t
  pub acc : SlotsAlike w (part u).level (own (entity (codes "acc"))) s t
  pub ir : SlotsAlike w (part u).level (own (entity (codes "ir"))) s t

-- Of two streams that agree at a user's level the user's part is the same behind every cycle.
abbrev pub OthersDontCount : Program → Type 0
OthersDontCount p = (s t : List (List Tagged)) → StreamFits p.world s → StreamFits p.world t
    → (u : User) → StreamsAgree p.world.order (part u).level s t
    → (c : ℕ) → c ≤ length s → SamePart p.world u (after_cycles p c s).store (after_cycles p c t).store

-- A user gets the same at the same level; and so does the other, or neither of its words is at or below this user's
-- level.
pub record OthersWordDiffers (w : World) (u : User) (inputs others : List Tagged) : Type 0 where
  pub own : given w inputs (part u).input ≡ given w others (part u).input
  pub hidden : (given w inputs (part (other u)).input ≡ given w others (part (other u)).input)
      ⊎ (High w.order (part u).level (given w inputs (part (other u)).input).level
      × High w.order (part u).level (given w others (part (other u)).input).level)

-- So a user's part is the same behind every cycle of streams that differ in words of the other alone.
abbrev pub OthersWordsDontCount : Program → Type 0
OthersWordsDontCount p = (s t : List (List Tagged)) → StreamFits p.world s → StreamFits p.world t
    → (u : User) → AllZip (OthersWordDiffers p.world u) s t
    → (c : ℕ) → c ≤ length s → SamePart p.world u (after_cycles p c s).store (after_cycles p c t).store

-- The users' states slice by slice: they begin with their words, and a slice is three instructions of its holder.
abbrev pub SlicesInTurn : Type 0
SlicesInTurn = (u : User) (word : ℕ → ℕ)
    → (after_slices u word 0 ≡ begun word) × ((n : ℕ)
    → after_slices u word (n + 1) ≡ sliced (holder n) u (after_slices u word n))
