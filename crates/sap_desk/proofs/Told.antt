-- What a store tells after each of its steps, and that its files and channels stand.
use Rattle.sap_lemmas.proofs.Common.{◌≡◌, ℕ, ◌+◌, ◌-◌, ◌<◌, ◌≤◌, Bool, true, false, cond, List, [], ◌∷◌, ◌++◌, length, refl, sym, ◌∙◌, ap, subst, arith, inl, inr, bytes_eq, string_bytes, vec_capacity, eqb, cases_Bool, eqb-true, nat_tests, bytes_eq_apart_back, bytes_eq_same}
use Rattle.sap_desk.specs.Desk.{Use, closed, reads, writes, at_number, opened, moved, moved_use, created, finished, IsWriting}
use Rattle.sap_desk.proofs.Steps.{at_number-keeps}
use Rattle.sap_desk.proofs.Places.{placed_end}
use Rattle.sap_desk.specs.declared.stored.StoredFile.{StoredFile}
use Rattle.sap_desk.specs.declared.stored.Channel.{Channel}
use Rattle.sap_desk.specs.declared.stored.State.TheVariants.{Closed, Reading}
use Rattle.sap_desk.specs.Memory.{use_at, uses_of, written_of, given_of, names_of, told_of, KeepsNames}
use Rattle.sap_desk.specs.Room.{claim, claim_of, claims, rooms_of, Stands, Changed, Puts}
use Rattle.sap_desk.proofs.Files.{files_put}
use Rattle.sap_desk.proofs.Channels.{told_before, told_after, told_same, names_after, told_added, claims_added, length_added}
use Rattle.sap_desk.proofs.Rooms.{stands_with, stands_putting, stands_changed}

-- a channel is closed
module _ (k : ℕ) (old new : List Channel) (c : Changed k (λ c d. d ≡ record c { state = Closed }) old new) where
  pub told_closed : (files : List StoredFile) (room : ℕ) (blame : List ℕ) → told_of files new room blame ≡ finished k (told_of files old room blame)
  told_closed files room blame =
      let uses = told_after k old new c.before c.after c.was c.now use_at closed closed (ap use_at c.by) in
      let written = told_same k old new c.before c.after c.was c.now (λ c. c.written.items) [] (ap (λ (d : Channel). d.written.items) c.by) in
      λ i. record (told_of files old room blame) { uses = uses i; written = written i }

  pub given_closed : given_of new ≡ given_of old
  given_closed = told_same k old new c.before c.after c.was c.now (λ c. c.given) 0 (ap (λ (d : Channel). d.given) c.by)

  pub names_closed : KeepsNames old new
  names_closed = names_after k old new c.before c.after c.was c.now (ap (λ (d : Channel). string_bytes d.name) c.by)

  pub stands_closed : (room : ℕ) (files : List StoredFile) → Stands room files old → Stands room files new
  stands_closed room files s = stands_changed room k old new c.before c.after c.was c.now files s (record {
    claim = λ name. let none : claim room name c.after ≡ 0 = ap (claim room name) c.by in omega (arith, none);
    writes = λ name is. let bad : closed ≡ writes name = sym (ap use_at c.by) ∙ is in absurd (cc bad);
    writing = λ is. absurd (subst IsWriting (ap use_at c.by) is);
    memory = let same : vec_capacity c.after.written ≡ vec_capacity c.before.written = ap (λ (d : Channel). vec_capacity d.written) c.by in omega (arith, same);
  }) (let same : length c.after.written.items ≡ length (written_of old k)
      = ap (λ (d : Channel). length d.written.items) c.by ∙ ap length (sym (told_before k old new c.before c.after c.was c.now (λ c. c.written.items) [])) in
      omega (arith, same, s.within_room k))

-- a channel is moved on
module _ (k position count : ℕ) (old new : List Channel) (c : Changed k (λ c d. d ≡ record c { state = Reading position (position + count); given = c.given + count }) old new) where
  names_moved_at : string_bytes c.after.name ≡ string_bytes c.before.name
  names_moved_at = ap (λ (d : Channel). string_bytes d.name) c.by

  pub names_moved : KeepsNames old new
  names_moved = names_after k old new c.before c.after c.was c.now names_moved_at

  pub told_moved : (files : List StoredFile) (room : ℕ) (blame name : List ℕ) → name ≡ names_of old k → (asked : ℕ) × (uses_of old k ≡ reads name asked position)
      → told_of files new room blame ≡ moved k count (told_of files old room blame)
  told_moved files room blame name owner (asked, is) =
      let before : string_bytes c.before.name ≡ name = sym (told_before k old new c.before c.after c.was c.now (λ c. string_bytes c.name) []) ∙ sym owner in
      let now : use_at c.after ≡ moved_use count (uses_of old k) = ap use_at c.by ∙ ap (λ (n : List ℕ). reads n position (position + count)) before ∙ sym (ap (moved_use count) is) in
      let uses = told_after k old new c.before c.after c.was c.now use_at closed (moved_use count (uses_of old k)) now in
      let written = told_same k old new c.before c.after c.was c.now (λ c. c.written.items) [] (ap (λ (d : Channel). d.written.items) c.by) in
      λ i. record (told_of files old room blame) { uses = uses i; written = written i }

  pub given_moved : given_of new ≡ at_number k (given_of old k + count) (given_of old)
  given_moved = told_after k old new c.before c.after c.was c.now (λ c. c.given) 0 (given_of old k + count)
      (ap (λ (d : Channel). d.given) c.by ∙ ap (λ (n : ℕ). n + count) (sym (told_before k old new c.before c.after c.was c.now (λ c. c.given) 0)))

  pub stands_moved : (room : ℕ) (files : List StoredFile) → Stands room files old → Stands room files new
  stands_moved room files s = stands_changed room k old new c.before c.after c.was c.now files s (record {
    claim = λ name. let none : claim room name c.after ≡ 0 = ap (claim room name) c.by in omega (arith, none);
    writes = λ name is. let bad : reads (string_bytes c.before.name) position (position + count) ≡ writes name = sym (ap use_at c.by) ∙ is in absurd (cc bad);
    writing = λ is. absurd (subst IsWriting (ap use_at c.by) is);
    memory = let same : vec_capacity c.after.written ≡ vec_capacity c.before.written = ap (λ (d : Channel). vec_capacity d.written) c.by in omega (arith, same);
  }) (let same : length c.after.written.items ≡ length (written_of old k)
      = ap (λ (d : Channel). length d.written.items) c.by ∙ ap length (sym (told_before k old new c.before c.after c.was c.now (λ c. c.written.items) [])) in
      omega (arith, same, s.within_room k))

-- a channel is asked in vain
pub noted : (k position : ℕ) (old new : List Channel) → Changed k (λ c d. d ≡ record c { state = Reading position position }) old new
    → Changed k (λ c d. d ≡ record c { state = Reading position (position + 0); given = c.given + 0 }) old new
noted k position old new n =
    let same_place : position ≡ position + 0 = omega arith in
    let same_count : n.before.given ≡ n.before.given + 0 = omega arith in
    record {
      before = n.before;
      after = n.after;
      was = n.was;
      now = n.now;
      by = n.by ∙ (λ i. record n.before { state = Reading position (same_place i); given = same_count i });
    }

pub given_noted : (k position : ℕ) (old new : List Channel) → Changed k (λ c d. d ≡ record c { state = Reading position position }) old new → given_of new ≡ given_of old
given_noted k position old new n = given_moved k position 0 old new (noted k position old new n) ∙ at_number-keeps k (given_of old k + 0) (given_of old) (omega arith)

pub fresh_use : (old : List Channel) (k : ℕ) → k ≡ length old → uses_of old k ≡ closed
fresh_use old k is = ap (uses_of old) is ∙ placed_end use_at closed old

below : (k j : ℕ) → j < k → eqb j k ≡ false
below k j h = grind (arith, nat_tests)

-- a channel is added on which nothing was written or given
module _ (old new : List Channel) (c : Channel) (now : new ≡ old ++ c ∷ []) (empty : c.written.items ≡ []) (none : c.given ≡ 0) where
  pub names_more : KeepsNames old new
  names_more = record {
    names = λ j less. ap (λ (n : ℕ → List ℕ). n j) (told_added old new c now (λ c. string_bytes c.name) [] (string_bytes c.name) (length old) refl refl)
        ∙ rw (below (length old) j less) refl;
    more = omega (arith, length_added old new c now);
  }

  written_more : (k : ℕ) → k ≡ length old → written_of new ≡ at_number k [] (written_of old)
  written_more k number = told_added old new c now (λ c. c.written.items) [] [] k number empty

  pub given_more : (k : ℕ) → k ≡ length old → given_of new ≡ at_number k 0 (given_of old)
  given_more k number = told_added old new c now (λ c. c.given) 0 0 k number none

  pub given_still : (k : ℕ) → k ≡ length old → given_of new ≡ given_of old
  given_still k number = given_more k number ∙ at_number-keeps k 0 (given_of old) (ap (given_of old) number ∙ placed_end (λ c. c.given) 0 old)

  uses_more : (k : ℕ) (u : Use) → k ≡ length old → use_at c ≡ u → uses_of new ≡ at_number k u (uses_of old)
  uses_more k u number is = told_added old new c now use_at closed u k number is

  pub told_opened : (files : List StoredFile) (room : ℕ) (blame name : List ℕ) (k : ℕ) → k ≡ length old → use_at c ≡ reads name 0 0
      → told_of files new room blame ≡ opened k name (told_of files old room blame)
  told_opened files room blame name k number is =
      let written = written_more k number ∙ at_number-keeps k [] (written_of old) (ap (written_of old) number ∙ placed_end (λ c. c.written.items) [] old) in
      λ i. record (told_of files old room blame) { uses = uses_more k (reads name 0 0) number is i; written = written i }

  use_added : (k : ℕ) → eqb k (length old) ≡ true → uses_of new k ≡ use_at c
  use_added k same = ap (λ (u : ℕ → Use). u k) (uses_more (length old) (use_at c) refl refl) ∙ rw same refl

  use_old : (k : ℕ) → eqb k (length old) ≡ false → uses_of new k ≡ uses_of old k
  use_old k other = ap (λ (u : ℕ → Use). u k) (uses_more (length old) (use_at c) refl refl) ∙ rw other refl

  room_added : (k : ℕ) → eqb k (length old) ≡ true → rooms_of new k ≡ vec_capacity c.written
  room_added k same = ap (λ (r : ℕ → ℕ). r k) (told_added old new c now (λ c. vec_capacity c.written) 0 (vec_capacity c.written) (length old) refl refl) ∙ rw same refl

  room_old : (k : ℕ) → eqb k (length old) ≡ false → rooms_of new k ≡ rooms_of old k
  room_old k other = ap (λ (r : ℕ → ℕ). r k) (told_added old new c now (λ c. vec_capacity c.written) 0 (vec_capacity c.written) (length old) refl refl) ∙ rw other refl

  within_added : (room : ℕ) → ((k : ℕ) → length (written_of old k) ≤ room) → (k : ℕ) → length (written_of new k) ≤ room
  within_added room short k =
      let at_k : written_of new k ≡ at_number (length old) [] (written_of old) k = ap (λ (w : ℕ → List ℕ). w k) (written_more (length old) refl) in
      elim (cases_Bool (eqb k (length old))) [
        | inl here ↦ let is : length (written_of new k) ≡ 0 = ap length at_k ∙ rw here refl in omega (arith, is)
        | inr other ↦ let same : length (written_of new k) ≡ length (written_of old k) = ap length at_k ∙ rw other refl in omega (arith, same, short k)
      ]

  pub stands_opened : (room : ℕ) (files : List StoredFile) (name : List ℕ) → use_at c ≡ reads name 0 0 → Stands room files old → Stands room files new
  stands_opened room files name is s = stands_with room files old new s
      (omega (arith, length_added old new c now))
      (λ n. let zero_claim : claim room n c ≡ 0 = ap (λ (u : Use). claim_of room n u (length c.written.items)) is in omega (arith, claims_added old new c now room n, zero_claim))
      (λ k n writing. elim (cases_Bool (eqb k (length old))) [
        | inl here ↦ let bad : reads name 0 0 ≡ writes n = sym is ∙ sym (use_added k here) ∙ writing in absurd (cc bad)
        | inr other ↦ sym (use_old k other) ∙ writing
      ])
      (λ k writing. elim (cases_Bool (eqb k (length old))) [
        | inl here ↦ absurd (subst IsWriting (use_added k here ∙ is) writing)
        | inr other ↦ let same = room_old k other in omega (arith, same, s.channel_room k (subst IsWriting (use_old k other) writing))
      ])
      (within_added room s.within_room)

  -- a file is put at the same time, with room for all that is claimed of it
  module _ (files later : List StoredFile) (f : StoredFile) (puts : Puts f files later) (writing : use_at c ≡ writes (string_bytes f.name)) where
    pub told_created : (room : ℕ) (blame name : List ℕ) (k : ℕ) → string_bytes f.name ≡ name → f.bytes.items ≡ [] → k ≡ length old
        → told_of later new room blame ≡ created k name (told_of files old room blame)
    told_created room blame name k named no_bytes number =
        let files_are = files_put files later f name [] puts named no_bytes in
        let uses = uses_more k (writes name) number (writing ∙ ap writes named) in
        λ i. record (told_of files old room blame) { files = files_are i; uses = uses i; written = written_more k number i }

    claim_more : (room : ℕ) (n : List ℕ) → claim room n c ≡ claim_of room n (writes (string_bytes f.name)) 0
    claim_more room n = ap (λ (u : Use). claim_of room n u (length c.written.items)) writing ∙ ap (λ (w : List ℕ). claim_of room n (writes (string_bytes f.name)) (length w)) empty

    pub stands_created : (room : ℕ) → Stands room files old → f.bytes.items ≡ []
        → claims room (string_bytes f.name) old + room ≤ vec_capacity f.bytes → room ≤ vec_capacity c.written → Stands room later new
    stands_created room s no_bytes fits roomy = stands_putting room files later old new f s puts
        (omega (arith, length_added old new c now))
        (let own : claim room (string_bytes f.name) c ≡ room - 0 = claim_more room (string_bytes f.name) ∙ rw (bytes_eq_same (string_bytes f.name)) refl in
        let size : length f.bytes.items ≡ 0 = ap length no_bytes in
        omega (arith, claims_added old new c now room (string_bytes f.name), own, size, fits))
        (λ n other.
        let misses : bytes_eq (string_bytes f.name) n ≡ false = bytes_eq_apart_back n (string_bytes f.name) other in
        let own : claim room n c ≡ 0 = claim_more room n ∙ rw misses refl in
        omega (arith, claims_added old new c now room n, own))
        (λ k n is. elim (cases_Bool (eqb k (length old))) [
          | inl here ↦ omega (arith, eqb-true k (length old) here, s.standard)
          | inr other ↦ s.above k n (sym (use_old k other) ∙ is)
        ])
        (λ k n other is. elim (cases_Bool (eqb k (length old))) [
          | inl here ↦
              let owner : writes (string_bytes f.name) ≡ writes n = sym writing ∙ sym (use_added k here) ∙ is in
              let same : string_bytes f.name ≡ n = cc owner in
              let bad : true ≡ false = sym (bytes_eq_same n) ∙ ap (bytes_eq n) (sym same) ∙ other in
              absurd (cc bad)
          | inr apart ↦ sym (use_old k apart) ∙ is
        ])
        (λ k open_for. elim (cases_Bool (eqb k (length old))) [
          | inl here ↦ let same = room_added k here in omega (arith, same, roomy)
          | inr other ↦ let same = room_old k other in omega (arith, same, s.channel_room k (subst IsWriting (use_old k other) open_for))
        ])
        (within_added room s.within_room)

-- a channel for reading is added, or nothing is
pub stands_reader : (room : ℕ) (files : List StoredFile) (old new : List Channel) (c : Channel) (name : List ℕ) (b : Bool) → new ≡ cond b (old ++ c ∷ []) old
    → c.written.items ≡ [] → c.given ≡ 0 → use_at c ≡ reads name 0 0 → Stands room files old → Stands room files new
stands_reader room files old new c name true now empty none is s = stands_opened old new c now empty none room files name is s
stands_reader room files old new c name false now empty none is s = subst (Stands room files) (sym now) s
