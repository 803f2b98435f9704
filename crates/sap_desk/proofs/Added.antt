-- A part is added to a channel that is open for writing, and to its file.
use Rattle.sap_lemmas.proofs.Common.{◌≡◌, ℕ, ◌+◌, ◌-◌, ◌<◌, ◌≤◌, Bool, true, false, cond, List, [], ◌∷◌, ◌++◌, length, get_or, refl, sym, ◌∙◌, ap, subst, arith, inl, inr, length-append, bytes_eq, string_bytes, slice_get, vec_capacity, position, unwrap_or, option_map, ltb, is_some, IfNone, Option, Some, None, cases_Bool, nat_tests, position_or_len, bytes_eq_apart_back, bytes_eq_same}
use Rattle.std.proofs.lemmas.List.Sums.{get_or-le-sum_by}
use Rattle.sap_desk.specs.Desk.{Use, closed, reads, writes, stream, at_number, at_name, added, added_to, IsWriting}
use Rattle.sap_desk.proofs.Places.{placed_read}
use Rattle.sap_desk.specs.declared.stored.StoredFile.{StoredFile}
use Rattle.sap_desk.specs.declared.stored.Channel.{Channel}
use Rattle.sap_desk.specs.Memory.{named, use_of, use_at, uses_of, written_of, given_of, file_named, files_of, told_of, KeepsNames}
use Rattle.sap_desk.specs.MemoryCalls.{fitting_use}
use Rattle.sap_desk.specs.Room.{claim, claim_of, claims, Stands, Changed, LongerFile, LongerChannel, Puts}
use Rattle.sap_desk.proofs.Files.{Found, found, not_found, puts-set, files_put}
use Rattle.sap_desk.proofs.Channels.{read_is, told_before, told_after, told_same, claims_after, length_after, names_after}
use Rattle.sap_desk.proofs.Rooms.{stands_putting, stands_changed, ClaimsLess, room_from, written_from}

-- what is still claimed of a file by its writer
claim_at : (room : ℕ) (owner : List ℕ) (w : ℕ) → claim_of room owner (writes owner) w ≡ room - w
claim_at room owner w = rw (bytes_eq_same owner) refl

claim_elsewhere : (room : ℕ) (owner name : List ℕ) (w : ℕ) → bytes_eq name owner ≡ false → claim_of room name (writes owner) w ≡ 0
claim_elsewhere room owner name w other = rw (bytes_eq_apart_back name owner other) refl

claim_shrinks : (room : ℕ) (name : List ℕ) (u : Use) (w more : ℕ) → claim_of room name u (w + more) ≤ claim_of room name u w
claim_shrinks room name closed w more = omega arith
claim_shrinks room name (reads owner asked position) w more = omega arith
claim_shrinks room name (writes owner) w more = elim (cases_Bool (bytes_eq owner name)) [
  | inl same ↦ rw same (omega arith)
  | inr other ↦ rw other (omega arith)
]
claim_shrinks room name stream w more = omega arith

-- the channel alone
module _ (k : ℕ) (part : List ℕ) (old new : List Channel) (c : Changed k (LongerChannel part) old new) where
  pub same_uses : uses_of new ≡ uses_of old
  same_uses = told_same k old new c.before c.after c.was c.now use_at closed
      (ap (λ s. use_of s (string_bytes c.after.name)) c.by.state ∙ ap (λ n. use_of c.before.state (string_bytes n)) c.by.name)

  pub same_given : given_of new ≡ given_of old
  same_given = told_same k old new c.before c.after c.was c.now (λ c. c.given) 0 c.by.given

  pub same_names : KeepsNames old new
  same_names = names_after k old new c.before c.after c.was c.now (ap string_bytes c.by.name)

  written_was : written_of old k ≡ c.before.written.items
  written_was = told_before k old new c.before c.after c.was c.now (λ c. c.written.items) []

  pub longer : written_of new ≡ at_number k (written_of old k ++ part) (written_of old)
  longer = told_after k old new c.before c.after c.was c.now (λ c. c.written.items) [] (written_of old k ++ part)
      (c.by.written ∙ ap (λ w. w ++ part) (sym written_was))

  use_was : uses_of old k ≡ use_at c.before
  use_was = told_before k old new c.before c.after c.was c.now use_at closed

  use_is : use_at c.after ≡ use_at c.before
  use_is = ap (λ s. use_of s (string_bytes c.after.name)) c.by.state ∙ ap (λ n. use_of c.before.state (string_bytes n)) c.by.name

  size : length c.after.written.items ≡ length c.before.written.items + length part
  size = ap length c.by.written ∙ length-append c.before.written.items part

  claim_is : (room : ℕ) (name : List ℕ) → claim room name c.after ≡ claim_of room name (uses_of old k) (length (written_of old k) + length part)
  claim_is room name = ap (λ u. claim_of room name u (length c.after.written.items)) (use_is ∙ sym use_was)
      ∙ ap (claim_of room name (uses_of old k)) (size ∙ ap (λ w. length w + length part) (sym written_was))

  claim_was : (room : ℕ) (name : List ℕ) → claim room name c.before ≡ claim_of room name (uses_of old k) (length (written_of old k))
  claim_was room name = ap (λ u. claim_of room name u (length c.before.written.items)) (sym use_was)
      ∙ ap (λ w. claim_of room name (uses_of old k) (length w)) (sym written_was)

  pub claims_change : (room : ℕ) (name : List ℕ) → claims room name new + claim_of room name (uses_of old k) (length (written_of old k))
      ≡ claims room name old + claim_of room name (uses_of old k) (length (written_of old k) + length part)
  claims_change room name = omega (arith, claims_after k old new c.before c.after c.was c.now room name, claim_is room name, claim_was room name)

  claims_less : (room : ℕ) → ClaimsLess room c.before c.after
  claims_less room = record {
    claim = λ name. omega (arith, claim_is room name, claim_was room name, claim_shrinks room name (uses_of old k) (length (written_of old k)) (length part));
    writes = λ name is. sym use_is ∙ is;
    writing = λ is. subst IsWriting use_is is;
    memory = c.by.room;
  }

  pub short_after : (room : ℕ) → length (written_of old k) + length part ≤ room → length c.after.written.items ≤ room
  short_after room short = omega (arith, size, ap length written_was, short)

  pub stands_longer : (room : ℕ) (files : List StoredFile) → length (written_of old k) + length part ≤ room → Stands room files old → Stands room files new
  stands_longer room files short s = stands_changed room k old new c.before c.after c.was c.now files s (claims_less room) (short_after room short)

added_stream : (b : Bool) (files : List ℕ → Option (List ℕ)) → files ≡ cond b files files
added_stream true files = refl
added_stream false files = refl

only_stream : (u : Use) → IsWriting u → ((name : List ℕ) → u ≡ writes name → ⊥) → u ≡ stream
only_stream closed can fileless = absurd can
only_stream (reads name asked position) can fileless = absurd can
only_stream (writes name) can fileless = absurd (fileless name refl)
only_stream stream can fileless = refl

-- a channel that has no file
pub told_stream : (files : List StoredFile) (room : ℕ) (blame : List ℕ) (k : ℕ) (part : List ℕ) (old new : List Channel) → Changed k (LongerChannel part) old new
    → IsWriting (uses_of old k) → ((name : List ℕ) → uses_of old k ≡ writes name → ⊥)
    → told_of files new room blame ≡ added k part (told_of files old room blame)
told_stream files room blame k part old new c can fileless =
    let is : uses_of old k ≡ stream = only_stream (uses_of old k) can fileless in
    let same : files_of files ≡ cond (ltb 2 k) (added_to (uses_of old k) part (files_of files)) (files_of files)
    = added_stream (ltb 2 k) (files_of files) ∙ ap (λ (u : Use). cond (ltb 2 k) (added_to u part (files_of files)) (files_of files)) (sym is) in
    λ i. record (told_of files old room blame) { files = same i; uses = same_uses k part old new c i; written = longer k part old new c i }

claim_fits : (room : ℕ) (files : List StoredFile) (owner : List ℕ) (channels : List Channel) (k : ℕ) (part : List ℕ) → Stands room files channels → k < length channels
    → uses_of channels k ≡ writes owner → length (written_of channels k) + length part ≤ room
    → (g : StoredFile) → file_named files owner ≡ Some g → length g.bytes.items + length part ≤ vec_capacity g.bytes
claim_fits room files owner [] k part s there is short g is_g = absurd (omega arith)
claim_fits room files owner (first ∷ channels) k part s there is short g is_g =
    let all = first ∷ channels in
    let c : Channel = get_or all k first in
    let most : claim room owner c ≤ claims room owner all = get_or-le-sum_by (claim room owner) all k first there in
    let use_is : use_at c ≡ writes owner = sym (placed_read use_at closed all k first there) ∙ is in
    let size : length c.written.items ≡ length (written_of all k) = ap length (sym (placed_read (λ d. d.written.items) [] all k first there)) in
    let own : claim room owner c ≡ room - length (written_of all k)
    = ap (λ (u : Use). claim_of room owner u (length c.written.items)) use_is ∙ claim_at room owner (length c.written.items) ∙ ap (λ (w : ℕ). room - w) size in
    omega (arith, s.file_room owner g is_g, most, own, short)

-- what a channel may still write fits its file
pub fits_file : (room : ℕ) (files : List StoredFile) (owner part : List ℕ) (k place : ℕ) (channels : List Channel) → Stands room files channels → k < length channels
    → uses_of channels k ≡ writes owner → position (named owner) files ≡ Some place → length (written_of channels k) + length part ≤ room
    → (g : StoredFile) → slice_get files place ≡ Some g → length g.bytes.items + length part ≤ vec_capacity g.bytes
fits_file room files owner part k place channels s there is found_at short g at_place =
    let lies : Found files owner place g = found files owner place g found_at in
    let is_g : file_named files owner ≡ Some g = lies.file ∙ ap Some (read_is files place g g at_place) in
    claim_fits room files owner channels k part s there is short g is_g

-- a channel and its file
module _ (room : ℕ) (files later : List StoredFile) (owner part : List ℕ) (k place : ℕ) (old new : List Channel) (s : Stands room files old)
    (is : uses_of old k ≡ writes owner) (found_at : position (named owner) files ≡ Some place)
    (f : Changed place (LongerFile part) files later) (c : Changed k (LongerChannel part) old new) where
  lies : Found files owner place f.before
  lies = found files owner place f.before found_at

  there : get_or files place f.before ≡ f.before
  there = read_is files place f.before f.before f.was

  file_was : file_named files owner ≡ Some f.before
  file_was = lies.file ∙ ap Some there

  bears : string_bytes f.after.name ≡ owner
  bears = ap string_bytes f.by.name ∙ sym (ap (λ (g : StoredFile). string_bytes g.name) there) ∙ lies.bears

  puts : Puts f.after files later
  puts =
      let first = lies.first ∙ sym (ap (λ (n : List ℕ). position_or_len (named n) files) bears) in
      let P : List StoredFile → Type 0 = λ l. Puts f.after files l in
      subst P (sym f.now) (puts-set files place f.after f.before first lies.within (lies.bears ∙ sym bears))

  files_are : files_of later ≡ at_name owner (Some (unwrap_or (files_of files owner) [] ++ part)) (files_of files)
  files_are =
      let was : unwrap_or (files_of files owner) [] ≡ f.before.bytes.items = ap (λ (o : Option StoredFile). unwrap_or (option_map (λ g. g.bytes.items) o) []) file_was in
      files_put files later f.after owner (unwrap_or (files_of files owner) [] ++ part) puts bears (f.by.bytes ∙ ap (λ (l : List ℕ). l ++ part) (sym was))

  pub told_both : (blame : List ℕ) → told_of later new room blame ≡ added k part (told_of files old room blame)
  told_both blame =
      let high : ltb 2 k ≡ true = let h : 2 < k = s.above k owner is in grind (arith, nat_tests) in
      let writing : at_name owner (Some (unwrap_or (files_of files owner) [] ++ part)) (files_of files)
      ≡ cond (ltb 2 k) (added_to (uses_of old k) part (files_of files)) (files_of files)
      = rw (high, is) refl in
      let all = files_are ∙ writing in
      λ i. record (told_of files old room blame) { files = all i; uses = same_uses k part old new c i; written = longer k part old new c i }

  pub stands_both : length (written_of old k) + length part ≤ room → Stands room later new
  stands_both short =
      let change : (n : List ℕ) → claims room n new + claim_of room n (writes owner) (length (written_of old k)) ≡ claims room n old
      + claim_of room n (writes owner) (length (written_of old k) + length part)
      = λ n. subst (λ (u : Use). claims room n new + claim_of room n u (length (written_of old k)) ≡ claims room n old
      + claim_of room n u (length (written_of old k) + length part)) is (claims_change k part old new c room n) in
      let size : length f.after.bytes.items ≡ length f.before.bytes.items + length part = ap length f.by.bytes ∙ length-append f.before.bytes.items part in
      let at_owner : length f.after.bytes.items + claims room owner new ≤ vec_capacity f.after.bytes
      = omega (
        arith,
        s.file_room owner f.before file_was,
        f.by.room,
        change owner,
        size,
        claim_at room owner (length (written_of old k)),
        claim_at room owner (length (written_of old k) + length part),
      ) in
      let P : List ℕ → Type 0 = λ n. length f.after.bytes.items + claims room n new ≤ vec_capacity f.after.bytes in
      let named_as : (u : ℕ → Use) → (m : ℕ) (name : List ℕ) → uses_of new m ≡ writes name → uses_of old m ≡ writes name
      = λ u m name h. ap (λ (v : ℕ → Use). v m) (sym (same_uses k part old new c)) ∙ h in
      stands_putting room files later old new f.after s puts
      (omega (arith, length_after k old new c.before c.after c.was c.now))
      (subst P (sym bears) at_owner)
      (λ n other.
      let misses : bytes_eq n owner ≡ false = ap (bytes_eq n) (sym bears) ∙ other in
      omega (arith, change n, claim_elsewhere room owner n (length (written_of old k)) misses, claim_elsewhere room owner n (length (written_of old k) + length part) misses))
      (λ m name h. s.above m name (named_as (uses_of new) m name h))
      (λ m name other h. named_as (uses_of new) m name h)
      (λ m can.
      let before : IsWriting (uses_of old m) = subst IsWriting (ap (λ (v : ℕ → Use). v m) (same_uses k part old new c)) can in
      omega (arith, s.channel_room m before, room_from room k old new c.before c.after c.was c.now c.by.room m))
      (written_from room k old new c.before c.after c.was c.now (short_after k part old new c room short) s.within_room)

-- a channel that writes a file finds it
pub writer_found : (room : ℕ) (files : List StoredFile) (channels : List Channel) (k : ℕ) (owner : List ℕ) (place : Option ℕ) → Stands room files channels
    → uses_of channels k ≡ writes owner → place ≡ position (named owner) files → IfNone place ((name : List ℕ) → uses_of channels k ≡ writes name → ⊥)
writer_found room files channels k owner None s is found_at =
    λ name _. let bad : false ≡ true = sym (ap is_some (not_found files owner (sym found_at))) ∙ s.there k owner is in cc bad
writer_found room files channels k owner (Some place) s is found_at = tt

pub fitting_whole : (u : Use) (count : ℕ) → IsWriting u → fitting_use u count ≡ count
fitting_whole closed count can = absurd can
fitting_whole (reads name asked position) count can = absurd can
fitting_whole (writes name) count can = refl
fitting_whole stream count can = refl
