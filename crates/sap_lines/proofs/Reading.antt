-- Pieces read of a channel, one after another.
use Rattle.sap_lemmas.proofs.Common.{◌≡◌, ℕ, ◌+◌, ◌<◌, ◌≤◌, List, ◌++◌, length, take, drop, append_assoc, refl, sym, ap, ap₂, ◌∙◌, subst, inl, inr, length-append, length-drop, length-take, arith, ◌-◌, Bool, true, false, cond, eqb, codes, Option, Some, None, option_map, IfSome, drop-drop, take_all, take-append-drop, take-append-le, take-append-add, take_front}
use Rattle.sap_desk.specs.Desk.{Told, Use, IsReading, at_number, closed, moved, moved_use, read_on, read_on_use, reads, rest_of, name_if_reading, blame_at, blamed, stream, writes}
use Rattle.sap_desk.proofs.DeskLemmas.{name_read_on}
use Rattle.sap_desk.specs.Cause.{Gave, FailsToRead}
use Rattle.sap_desk.proofs.Steps.{option_map-twice, option_map-id, option_map-same, at_number-same, at_number-twice, at_number-keeps, moved-behind, read_on-none, rest-moved, rest-read_on, told_more, number-at}
use Rattle.sap_lines.specs.Fetched.{IsDecided, EndsOrDecided, HoldsLeast, ReadsLeast, More, MoreAndFailed, read_failed}

none_read : (channel : ℕ) (held : List ℕ) (told : Option Told) → IfSome told (λ t. held ++ drop 0 (rest_of t channel) ≡ held ++ rest_of t channel)
none_read channel held None = tt
none_read channel held (Some t) = refl

-- before the first piece
pub no_more : (channel : ℕ) (held : List ℕ) (told : Option Told) (given : ℕ → ℕ) → More channel held held told told given given
no_more channel held told given = record {
  asked = None;
  least = refl;
  count = 0;
  size = omega arith;
  told = option_map-id (read_on channel None 0) told (read_on-none channel);
  bytes = none_read channel held told;
  given = sym (at_number-keeps channel (given channel + 0) given (omega arith));
}

bytes_more : (channel : ℕ) (asked : Option ℕ) (len count : ℕ) (held now before after : List ℕ) (told mid : Option Told)
    → mid ≡ option_map (read_on channel asked len) told
    → IfSome told (λ t. now ++ drop len (rest_of t channel) ≡ held ++ rest_of t channel)
    → IfSome mid (λ t. Gave t channel count before after)
    → IfSome told (λ t. (now ++ take count after) ++ drop (len + count) (rest_of t channel) ≡ held ++ rest_of t channel)
bytes_more channel asked len count held now before after None mid is so_far gave = tt
bytes_more channel asked len count held now before after (Some t) mid is so_far gave =
    let P : Option Told → Type 0 = λ o. IfSome o (λ t. Gave t channel count before after) in
    let g : Gave (read_on channel asked len t) channel count before after = subst P is gave in
    let piece : take count after ≡ take count (drop len (rest_of t channel)) = g.piece ∙ ap (take count) (rest-read_on channel asked len t) in
    rw (piece, ← drop-drop count len (rest_of t channel), append_assoc now _ _, take-append-drop count (drop len (rest_of t channel))) so_far

given_more : (channel len count : ℕ) (g h k : ℕ → ℕ) → h ≡ at_number channel (g channel + len) g
    → k ≡ at_number channel (h channel + count) h → k ≡ at_number channel (g channel + (len + count)) g
given_more channel len count g h k first then =
    let here : h channel ≡ g channel + len = number-at channel (g channel + len) g h first in
    let sum : h channel + count ≡ g channel + (len + count) = omega (arith, here) in
    then
    ∙ ap (λ (n : ℕ). at_number channel n h) sum
    ∙ ap (at_number channel (g channel + (len + count))) first
    ∙ at_number-twice channel (g channel + len) (g channel + (len + count)) g

-- one piece more
pub piece_more : (channel count : ℕ) (held now next before after : List ℕ) (told mid new : Option Told) (g h k : ℕ → ℕ)
    → More channel held now told mid g h → (IsDecided now → ⊥) → count ≤ length after → count ≤ 4096
    → new ≡ option_map (moved channel count) mid → IfSome mid (λ t. Gave t channel count before after) → k ≡ at_number channel (h channel + count) h
    → next ≡ now ++ take count after → More channel held next told new g k
piece_more channel count held now next before after told mid new g h k m undecided within few is gave given items =
    let P : List ℕ → Type 0 = λ l. IfSome told (λ t. l ++ drop (m.count + count) (rest_of t channel) ≡ held ++ rest_of t channel) in
    let size = m.size in
    let grown : length next ≡ length now + count = ap length items ∙ length-append now (take count after) ∙ omega (arith, length-take count after) in
    let front : take (length held + m.count) next ≡ now = ap₂ (λ (n : ℕ) (l : List ℕ). take n l) (sym size) items ∙ take_front now (take count after) in
    record {
      asked = Some m.count;
      least = (omega (arith, size, grown), omega (arith, size, grown, few), λ decided. undecided (subst IsDecided front decided));
      count = m.count + count;
      size = omega (arith, size, grown);
      told = told_more channel m.asked m.count count told mid new m.told is;
      bytes = subst P (sym items) (bytes_more channel m.asked m.count count held now before after told mid m.told m.bytes gave);
      given = given_more channel m.count count g h k m.given given;
    }

pub behind_more : (held now next piece : List ℕ) → (more : List ℕ) × (now ≡ held ++ more) → next ≡ now ++ piece → (more : List ℕ) × (next ≡ held ++ more)
behind_more held now next piece (more, is) items = (more ++ piece, items ∙ ap (λ (xs : List ℕ). xs ++ piece) is ∙ append_assoc held more piece)

-- none more
pub same_more : (channel count : ℕ) (held now : List ℕ) (told mid new : Option Told) (g h k : ℕ → ℕ)
    → More channel held now told mid g h → (IsDecided now → ⊥) → count ≡ 0 → new ≡ option_map (moved channel count) mid → k ≡ at_number channel (h channel + count) h
    → More channel held now told new g k
same_more channel count held now told mid new g h k m undecided none is given = record {
  asked = Some m.count;
  least = (
    omega (arith, m.size),
    omega (arith, m.size),
    λ decided. undecided (subst IsDecided (take_all (length held + m.count) now (omega (arith, m.size))) decided),
  );
  count = m.count;
  size = m.size;
  told =
      let sum : m.count + count ≡ m.count = omega (arith, none) in
      told_more channel m.asked m.count count told mid new m.told is
      ∙ ap (λ (n : ℕ). option_map (read_on channel (Some m.count) n) told) sum;
  bytes = m.bytes;
  given = given ∙ at_number-keeps channel (h channel + count) h (omega arith) ∙ m.given;
}

-- a failed read was asked for behind all bytes

name_behind : (channel : ℕ) (asked : Option ℕ) (count : ℕ) (t : Told) → name_if_reading ((read_on channel asked count t).uses channel) ≡ name_if_reading (t.uses channel)
name_behind channel asked count t =
    ap name_if_reading (at_number-same channel (read_on_use asked count (t.uses channel)) t.uses) ∙ name_read_on asked count (t.uses channel)

-- what a failed read makes of a desk
abbrev pub asked_in_vain : (channel : ℕ) → Told → Told
asked_in_vain channel t = blame_at channel (name_if_reading (t.uses channel)) (moved channel 0 t)

failed_behind : (channel : ℕ) (asked : Option ℕ) (count : ℕ) (t : Told) → asked_in_vain channel (read_on channel asked count t) ≡ read_failed channel (read_on channel (Some count) count t)
failed_behind channel asked count t =
    let name : name_if_reading ((read_on channel asked count t).uses channel) ≡ name_if_reading ((read_on channel (Some count) count t).uses channel)
    = name_behind channel asked count t ∙ sym (name_behind channel (Some count) count t) in
    let sum : count + 0 ≡ count = omega arith in
    ap₂ (blame_at channel) name (moved-behind channel asked count 0 t ∙ ap (λ (n : ℕ). read_on channel (Some count) n t) sum)

-- so told by the name of the file that the channel read before
pub failed_named : (channel count : ℕ) (t : Told) → read_failed channel (read_on channel (Some count) count t)
    ≡ blame_at channel (name_if_reading (t.uses channel)) (read_on channel (Some count) count t)
failed_named channel count t = ap (λ (name : List ℕ). blame_at channel name (read_on channel (Some count) count t)) (name_behind channel (Some count) count t)

pub failed_more : (channel : ℕ) (held now : List ℕ) (told mid new : Option Told) (g h k : ℕ → ℕ)
    → More channel held now told mid g h → new ≡ option_map (asked_in_vain channel) mid → k ≡ h → MoreAndFailed channel held now told new g k
failed_more channel held now told mid new g h k m is given = record {
  count = m.count;
  size = m.size;
  told =
      is ∙ ap (option_map (asked_in_vain channel)) m.told ∙ option_map-twice (asked_in_vain channel) (read_on channel m.asked m.count) told
      ∙ option_map-same _ _ told (failed_behind channel m.asked m.count);
  bytes = m.bytes;
  given = given ∙ m.given;
}

-- a read of nothing is the end
pub end_read : (channel count : ℕ) (held before after : List ℕ) (mid new : Option Told) → count ≡ 0 → new ≡ option_map (moved channel count) mid
    → IfSome mid (λ t. Gave t channel count before after) → 0 < length before → IfSome new (EndsOrDecided channel held)
end_read channel count held before after None new none is gave some = let P : Option Told → Type 0 = λ o. IfSome o (EndsOrDecided channel held) in subst P (sym is) tt
end_read channel count held before after (Some t) new none is gave some =
    let P : Option Told → Type 0 = λ o. IfSome o (EndsOrDecided channel held) in
    subst P (sym is) (elim (gave.end none) [
      | inl short ↦ absurd (omega arith)
      | inr done ↦ inr (rest-moved channel count t ∙ ap (λ (n : ℕ). drop n (rest_of t channel)) none ∙ done)
    ])

blame_fails : (b : Bool) (channel given size : ℕ) (name : List ℕ) (t : Told) → FailsToRead channel given size t → FailsToRead channel given size (cond b t (blamed name t))
blame_fails true channel given size name t f = f
blame_fails false channel given size name t f = record { why = f.why }

-- a channel that was asked in vain fails as before

still_shut : (u : Use) → (IsReading u → ⊥) → IsReading (moved_use 0 u) → ⊥
still_shut (reads name asked position) shut h = shut tt
still_shut (writes name) shut h = h
still_shut closed shut h = h
still_shut stream shut h = h

vain_fails : (channel given size : ℕ) (t : Told) → FailsToRead channel given size t → FailsToRead channel given size (moved channel 0 t)
vain_fails channel given size t f = elim f.why [
  | inl shut ↦ record { why = inl (λ reading. still_shut (t.uses channel) shut (subst IsReading (at_number-same channel (moved_use 0 (t.uses channel)) t.uses) reading)) }
  | inr full ↦ record { why = inr (let left : length (rest_of (moved channel 0 t) channel) ≡ length (rest_of t channel) = ap length (rest-moved channel 0 t) in omega (arith, left, full)) }
]

-- why a read failed, of the desk after it
pub fails_now : (channel size piece : ℕ) (mid new : Option Told) (g h : ℕ → ℕ) → size ≡ piece → new ≡ option_map (asked_in_vain channel) mid → h ≡ g
    → IfSome mid (FailsToRead channel (g channel) size) → IfSome new (FailsToRead channel (h channel) piece)
fails_now channel size piece None new g h same is stands fails =
    let P : Option Told → Type 0 = λ o. IfSome o (FailsToRead channel (h channel) piece) in subst P (sym is) tt
fails_now channel size piece (Some t) new g h same is stands fails =
    let P : Option Told → Type 0 = λ o. IfSome o (FailsToRead channel (h channel) piece) in
    let sized : FailsToRead channel (g channel) piece t = subst (λ (n : ℕ). FailsToRead channel (g channel) n t) same fails in
    let here : FailsToRead channel (h channel) piece t = subst (λ (f : ℕ → ℕ). FailsToRead channel (f channel) piece t) (sym stands) sized in
    subst P (sym is) (blame_fails (eqb channel 2) channel (h channel) piece (cond (eqb channel 1) (codes "output") (name_if_reading (t.uses channel))) (moved channel 0 t) (vain_fails channel (h channel) piece t here))

-- what is read at least

take_same : (held now rest : List ℕ) (count k : ℕ) → now ++ drop count rest ≡ held ++ rest → length held ≤ k → k ≤ length now → take k now ≡ held ++ take (k - length held) rest
take_same held now rest count k same behind within =
    let sum : k ≡ length held + (k - length held) = omega arith in
    sym (take-append-le k now (drop count rest) within)
    ∙ ap (take k) same
    ∙ ap (λ (n : ℕ). take n (held ++ rest)) sum
    ∙ take-append-add held rest (k - length held)

-- what was read there was
read_within : (channel count : ℕ) (held now : List ℕ) (t : Told) → length now ≡ length held + count → now ++ drop count (rest_of t channel) ≡ held ++ rest_of t channel
    → count ≤ length (rest_of t channel)
read_within channel count held now t size same =
    omega (arith, size, ap length same, length-append now (drop count (rest_of t channel)), length-append held (rest_of t channel), length-drop count (rest_of t channel))

-- what is held is what was held, and what was read
held_read : (channel count : ℕ) (held now : List ℕ) (t : Told) → length now ≡ length held + count → now ++ drop count (rest_of t channel) ≡ held ++ rest_of t channel
    → now ≡ held ++ take count (rest_of t channel)
held_read channel count held now t size same =
    let left : length now - length held ≡ count = omega (arith, size) in
    sym (take_all (length now) now (omega arith))
    ∙ take_same held now (rest_of t channel) count (length now) same (omega (arith, size)) (omega arith)
    ∙ ap (λ (n : ℕ). held ++ take n (rest_of t channel)) left

pub held_so : (channel count : ℕ) (held now : List ℕ) (told : Option Told) → length now ≡ length held + count
    → IfSome told (λ t. now ++ drop count (rest_of t channel) ≡ held ++ rest_of t channel) → IfSome told (λ t. now ≡ held ++ take count (rest_of t channel))
held_so channel count held now None size same = tt
held_so channel count held now (Some t) size same = held_read channel count held now t size same

pub read_count : (channel count : ℕ) (g h : ℕ → ℕ) → h ≡ at_number channel (g channel + count) g → h channel - g channel ≡ count
read_count channel count g h given = let here : h channel ≡ g channel + count = number-at channel (g channel + count) g h given in omega arith

-- so many bytes as the desk gave more
pub held_read_so : (channel : ℕ) (held now : List ℕ) (told told_now : Option Told) (g h : ℕ → ℕ) → More channel held now told told_now g h
    → IfSome told (λ t. now ≡ held ++ take (h channel - g channel) (rest_of t channel))
held_read_so channel held now told told_now g h m =
    subst (λ (n : ℕ). IfSome told (λ t. now ≡ held ++ take n (rest_of t channel))) (sym (read_count channel m.count g h m.given))
    (held_so channel m.count held now told m.size m.bytes)

-- where that doesn't tell the line
pub wanted_so : (channel count : ℕ) (held now : List ℕ) (told : Option Told) → length now ≡ length held + count
    → IfSome told (λ t. now ++ drop count (rest_of t channel) ≡ held ++ rest_of t channel) → (IsDecided now → ⊥)
    → IfSome told (λ t. IsDecided (held ++ take count (rest_of t channel)) → ⊥)
wanted_so channel count held now None size same wants = tt
wanted_so channel count held now (Some t) size same wants = λ decided. wants (subst IsDecided (sym (held_read channel count held now t size same)) decided)

least_told : (channel count : ℕ) (held now : List ℕ) (t : Told) (asked : Option ℕ) → length now ≡ length held + count → now ++ drop count (rest_of t channel) ≡ held ++ rest_of t channel
    → HoldsLeast held now asked → ReadsLeast channel held asked count t
least_told channel count held now t None size same none = let l : length now ≡ length held = ap length none in omega (arith, l, size)
least_told channel count held now t (Some few) size same (behind, most, undecided) =
    let piece : length held + few - length held ≡ few = omega arith in
    let front : take (length held + few) now ≡ held ++ take few (rest_of t channel)
    = take_same held now (rest_of t channel) count (length held + few) same (omega arith) behind ∙ ap (λ (n : ℕ). held ++ take n (rest_of t channel)) piece in (
      record { within = read_within channel count held now t size same; from = omega (arith, size, behind); piece = omega (arith, size, most); most = tt },
      λ decided. undecided (subst IsDecided (sym front) decided),
    )

-- of what is read behind the bytes that were pending
pub reads_least : (channel count : ℕ) (held now : List ℕ) (asked : Option ℕ) (told : Option Told) → length now ≡ length held + count
    → IfSome told (λ t. now ++ drop count (rest_of t channel) ≡ held ++ rest_of t channel) → HoldsLeast held now asked
    → IfSome told (ReadsLeast channel held asked count)
reads_least channel count held now asked None size bytes least = tt
reads_least channel count held now asked (Some t) size bytes least = least_told channel count held now t asked size bytes least
