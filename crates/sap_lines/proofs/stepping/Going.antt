-- What reading a channel and writing on channel 1 make of a desk, one after another.
use Rattle.sap_lemmas.proofs.Common.{◌≡◌, ◌≢◌, ℕ, ◌+◌, ◌<◌, true, false, List, [], ◌∷◌, ◌++◌, length, append_assoc, refl, sym, ◌∙◌, ap, arith, eqb, Option, Some, None, unwrap_or, cond, Bool, drop, nat_tests, append-nil}
use Rattle.sap_desk.specs.Desk.{Told, Use, reads, writes, closed, stream, IsReading, added, at_number, blamed, read_on, read_on_use, rest_of, rest_of_use}
use Rattle.sap_desk.proofs.Steps.{at_number-keeps, at_number-same, last_asked, other_number, read_on-none, read_on-twice}
use Rattle.sap_lines.specs.Fetched.{ReadsLeast}
use Rattle.sap_lines.specs.Stepping.Followed.{Going}

pub going_none : (channel : ℕ) (t : Told) → Going channel None 0 [] t t
going_none channel t = record {
  uses = ap (λ (x : Told). x.uses) (sym (read_on-none channel t));
  files = refl;
  output = sym (append-nil (t.written 1));
  others = λ k other. refl;
  room = refl;
  none = λ is. refl;
}

-- where no piece was asked for, no byte was read
pub least_none : (channel : ℕ) (pending : List ℕ) (asked : Option ℕ) (k : ℕ) (m : Told) → ReadsLeast channel pending asked k m → asked ≡ None → k ≡ 0
least_none channel pending None k m least is = least
least_none channel pending (Some few) k m least is = cc

-- a text on channel 1 is on no other
others_added : (piece : List ℕ) (t m : Told) → ((k : ℕ) → k ≢ 1 → m.written k ≡ t.written k) → (k : ℕ) → k ≢ 1 → (added 1 piece m).written k ≡ t.written k
others_added piece t m others k other =
    let no : eqb k 1 ≡ false = grind (arith, nat_tests) in
    ap (λ (b : Bool). cond b (m.written 1 ++ piece) (m.written k)) no ∙ others k other

module _ (channel : ℕ) (first : Option ℕ) (count : ℕ) (gained : List ℕ) (t m : Told) (going : Going channel first count gained t m) where
  uses_more : (asked : Option ℕ) (k : ℕ) → (read_on channel asked k m).uses ≡ at_number channel (read_on_use (last_asked first count asked) (count + k) (t.uses channel)) t.uses
  uses_more asked k =
      ap (λ (u : ℕ → Use). at_number channel (read_on_use asked k (u channel)) u) going.uses
      ∙ ap (λ (x : Told). x.uses) (read_on-twice channel first asked count k t)

  none_more : (asked : Option ℕ) (k : ℕ) → (asked ≡ None → k ≡ 0) → last_asked first count asked ≡ None → count + k ≡ 0
  none_more None k none is = omega (arith, going.none is, none refl)
  none_more (Some few) k none is = cc

  pub going_read : (asked : Option ℕ) (k : ℕ) → (asked ≡ None → k ≡ 0) → Going channel (last_asked first count asked) (count + k) gained t (read_on channel asked k m)
  going_read asked k none = record {
    uses = uses_more asked k;
    files = going.files;
    output = going.output;
    others = going.others;
    room = going.room;
    none = none_more asked k none;
  }

  pub going_more : (asked : Option ℕ) (k : ℕ) → (asked ≡ None → k ≡ 0) → (piece : List ℕ)
      → Going channel (last_asked first count asked) (count + k) (gained ++ piece) t (added 1 piece (read_on channel asked k m))
  going_more asked k none piece = record {
    uses = uses_more asked k;
    files = going.files;
    output = ap (λ (l : List ℕ). l ++ piece) going.output ∙ append_assoc (t.written 1) gained piece;
    others = others_added piece t m going.others;
    room = going.room;
    none = none_more asked k none;
  }

  pub going_added : (piece : List ℕ) → Going channel first count (gained ++ piece) t (added 1 piece m)
  going_added piece = record {
    uses = going.uses;
    files = going.files;
    output = ap (λ (l : List ℕ). l ++ piece) going.output ∙ append_assoc (t.written 1) gained piece;
    others = others_added piece t m going.others;
    room = going.room;
    none = going.none;
  }

  pub use_now : m.uses channel ≡ read_on_use first count (t.uses channel)
  use_now = ap (λ (u : ℕ → Use). u channel) going.uses ∙ at_number-same channel (read_on_use first count (t.uses channel)) t.uses

  pub output_use : 2 < channel → m.uses 1 ≡ t.uses 1
  output_use above =
      let other = other_number 1 channel (omega arith) in
      ap (λ (u : ℕ → Use). u 1) going.uses ∙ ap (λ (b : Bool). cond b (read_on_use first count (t.uses channel)) (t.uses 1)) other

pub going_blamed : (channel : ℕ) (asked : Option ℕ) (count : ℕ) (gained name : List ℕ) (t m : Told) → Going channel asked count gained t m
    → Going channel asked count gained t (blamed name m)
going_blamed channel asked count gained name t m g = record { uses = g.uses; files = g.files; output = g.output; others = g.others; room = g.room; none = g.none }

pub reading_on : (asked : Option ℕ) (n : ℕ) (u : Use) → IsReading u → IsReading (read_on_use asked n u)
reading_on None n (reads name q p) h = tt
reading_on (Some few) n (reads name q p) h = tt
reading_on asked n (writes name) h = absurd h
reading_on asked n closed h = absurd h
reading_on asked n stream h = absurd h

rest_same : (m n : Told) (u : Use) → m.files ≡ n.files → rest_of_use m u ≡ rest_of_use n u
rest_same m n (reads name q p) is = ap (λ (files : List ℕ → Option (List ℕ)). drop p (unwrap_or (files name) [])) is
rest_same m n (writes name) is = refl
rest_same m n closed is = refl
rest_same m n stream is = refl

-- what is left to read
pub rest_now : (channel : ℕ) (asked : Option ℕ) (count : ℕ) (gained : List ℕ) (t m : Told) → Going channel asked count gained t m
    → rest_of m channel ≡ rest_of (read_on channel asked count t) channel
rest_now channel asked count gained t m g =
    ap (λ (u : ℕ → Use). rest_of_use m (u channel)) g.uses
    ∙ rest_same m (read_on channel asked count t) (at_number channel (read_on_use asked count (t.uses channel)) t.uses channel) g.files

-- no byte is written

empty_list : (text : List ℕ) → length text ≡ 0 → text ≡ []
empty_list [] none = refl
empty_list (x ∷ text) none = absurd (omega (arith, none))

pub no_bytes : (text : List ℕ) (b : Bool) → b ≡ eqb (length text) 0 → b ≡ true → text ≡ []
no_bytes text b is true_now =
    let none : eqb (length text) 0 ≡ true = sym is ∙ true_now in
    empty_list text (grind (arith, nat_tests))

pub added_none : (text : List ℕ) (t : Told) → text ≡ [] → added 1 text t ≡ t
added_none text t none =
    let same : t.written 1 ≡ t.written 1 ++ text = sym (append-nil (t.written 1)) ∙ ap (λ (l : List ℕ). t.written 1 ++ l) (sym none) in
    let kept = at_number-keeps 1 (t.written 1 ++ text) t.written same in
    λ i. record t { written = kept i }
