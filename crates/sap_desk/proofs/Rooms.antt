-- The memory that files and channels keep, after each step.
use Rattle.sap_lemmas.proofs.Common.{◌≡◌, ℕ, ◌+◌, ◌<◌, ◌≤◌, true, false, List, [], length, set, refl, sym, ◌∙◌, ap, subst, arith, inl, inr, bytes_eq, string_bytes, slice_get, vec_capacity, is_some, eqb, Some, cases_Bool, eqb-true, equal_of_bytes_eq}
use Rattle.sap_desk.specs.Desk.{Use, closed, writes, at_number, IsWriting}
use Rattle.sap_desk.specs.declared.stored.StoredFile.{StoredFile}
use Rattle.sap_desk.specs.declared.stored.Channel.{Channel}
use Rattle.sap_desk.specs.Memory.{use_at, uses_of, written_of, file_named}
use Rattle.sap_desk.specs.Room.{claim, claims, rooms_of, Stands, Puts}
use Rattle.sap_desk.proofs.Channels.{told_before, told_after, claims_after, length_after}

-- the same files, and channels that claim no more
pub stands_with : (room : ℕ) (files : List StoredFile) (old new : List Channel) → Stands room files old
    → length old ≤ length new
    → ((name : List ℕ) → claims room name new ≤ claims room name old)
    → ((k : ℕ) (name : List ℕ) → uses_of new k ≡ writes name → uses_of old k ≡ writes name)
    → ((k : ℕ) → IsWriting (uses_of new k) → room ≤ rooms_of new k)
    → ((k : ℕ) → length (written_of new k) ≤ room)
    → Stands room files new
stands_with room files old new s more less from roomy short = record {
  standard = omega (arith, s.standard);
  file_room = λ name f is. omega (arith, s.file_room name f is, less name);
  above = λ k name is. s.above k name (from k name is);
  there = λ k name is. s.there k name (from k name is);
  channel_room = roomy;
  within_room = short;
}

-- another file is put, and what the channels claim in it fits
module _ (room : ℕ) (files later : List StoredFile) (old new : List Channel) (f : StoredFile) (s : Stands room files old) (puts : Puts f files later) where
  at_put : (name : List ℕ) → bytes_eq name (string_bytes f.name) ≡ true → file_named later name ≡ Some f
  at_put name same = puts name ∙ rw same refl

  elsewhere : (name : List ℕ) → bytes_eq name (string_bytes f.name) ≡ false → file_named later name ≡ file_named files name
  elsewhere name other = puts name ∙ rw other refl

  there_still : (name : List ℕ) → (bytes_eq name (string_bytes f.name) ≡ false → is_some (file_named files name) ≡ true) → is_some (file_named later name) ≡ true
  there_still name else = elim (cases_Bool (bytes_eq name (string_bytes f.name))) [
    | inl same ↦ ap is_some (at_put name same)
    | inr other ↦ ap is_some (elsewhere name other) ∙ else other
  ]

  room_still : length f.bytes.items + claims room (string_bytes f.name) new ≤ vec_capacity f.bytes
      → ((name : List ℕ) → bytes_eq name (string_bytes f.name) ≡ false → claims room name new ≤ claims room name old)
      → (name : List ℕ) (g : StoredFile) → file_named later name ≡ Some g → length g.bytes.items + claims room name new ≤ vec_capacity g.bytes
  room_still fits less name g is = elim (cases_Bool (bytes_eq name (string_bytes f.name))) [
    | inl same ↦
        let both : Some f ≡ Some g = sym (at_put name same) ∙ is in
        let file : f ≡ g = cc both in
        let named_as : string_bytes f.name ≡ name = sym (equal_of_bytes_eq name (string_bytes f.name) same) in
        let P : List ℕ → Type 0 = λ n. length f.bytes.items + claims room n new ≤ vec_capacity f.bytes in
        let Q : StoredFile → Type 0 = λ h. length h.bytes.items + claims room name new ≤ vec_capacity h.bytes in
        subst Q file (subst P named_as fits)
    | inr other ↦ omega (arith, s.file_room name g (sym (elsewhere name other) ∙ is), less name other)
  ]

  pub stands_putting : length old ≤ length new
      → length f.bytes.items + claims room (string_bytes f.name) new ≤ vec_capacity f.bytes
      → ((name : List ℕ) → bytes_eq name (string_bytes f.name) ≡ false → claims room name new ≤ claims room name old)
      → ((k : ℕ) (name : List ℕ) → uses_of new k ≡ writes name → 2 < k)
      → ((k : ℕ) (name : List ℕ) → bytes_eq name (string_bytes f.name) ≡ false → uses_of new k ≡ writes name → uses_of old k ≡ writes name)
      → ((k : ℕ) → IsWriting (uses_of new k) → room ≤ rooms_of new k)
      → ((k : ℕ) → length (written_of new k) ≤ room)
      → Stands room later new
  stands_putting more fits less above from roomy short = record {
    standard = omega (arith, s.standard);
    file_room = room_still fits less;
    above = above;
    there = λ k name is. there_still name (λ other. s.there k name (from k name other is));
    channel_room = roomy;
    within_room = short;
  }

-- a channel became one that claims no more
pub record ClaimsLess (room : ℕ) (before after : Channel) : Type 0 where
  pub claim : (name : List ℕ) → claim room name after ≤ claim room name before
  pub writes : (name : List ℕ) → use_at after ≡ writes name → use_at before ≡ writes name
  pub writing : IsWriting (use_at after) → IsWriting (use_at before)
  pub memory : vec_capacity before.written ≤ vec_capacity after.written

module _ (room k : ℕ) (old new : List Channel) (before after : Channel) (was : slice_get old k ≡ Some before) (now : new ≡ set old k after) where
  pub use_at_changed : (j : ℕ) → eqb j k ≡ true → uses_of new j ≡ use_at after
  use_at_changed j same = ap (λ (u : ℕ → Use). u j) (told_after k old new before after was now use_at closed (use_at after) refl) ∙ rw same refl

  pub use_elsewhere : (j : ℕ) → eqb j k ≡ false → uses_of new j ≡ uses_of old j
  use_elsewhere j other = ap (λ (u : ℕ → Use). u j) (told_after k old new before after was now use_at closed (use_at after) refl) ∙ rw other refl

  use_before : (j : ℕ) → eqb j k ≡ true → uses_of old j ≡ use_at before
  use_before j same = ap (uses_of old) (eqb-true j k same) ∙ told_before k old new before after was now use_at closed

  pub writes_from : ((name : List ℕ) → use_at after ≡ writes name → use_at before ≡ writes name)
      → (j : ℕ) (name : List ℕ) → uses_of new j ≡ writes name → uses_of old j ≡ writes name
  writes_from same j name is = elim (cases_Bool (eqb j k)) [
    | inl here ↦ use_before j here ∙ same name (sym (use_at_changed j here) ∙ is)
    | inr other ↦ sym (use_elsewhere j other) ∙ is
  ]

  pub writing_from : (IsWriting (use_at after) → IsWriting (use_at before)) → (j : ℕ) → IsWriting (uses_of new j) → IsWriting (uses_of old j)
  writing_from same j is = elim (cases_Bool (eqb j k)) [
    | inl here ↦
        let opens : IsWriting (use_at after) = subst IsWriting (use_at_changed j here) is in
        subst IsWriting (sym (use_before j here)) (same opens)
    | inr other ↦ subst IsWriting (use_elsewhere j other) is
  ]

  pub room_from : vec_capacity before.written ≤ vec_capacity after.written → (j : ℕ) → rooms_of old j ≤ rooms_of new j
  room_from more j =
      let rooms = told_after k old new before after was now (λ c. vec_capacity c.written) 0 (vec_capacity after.written) refl in
      let at_j : rooms_of new j ≡ at_number k (vec_capacity after.written) (rooms_of old) j = ap (λ (r : ℕ → ℕ). r j) rooms in
      elim (cases_Bool (eqb j k)) [
        | inl here ↦
            let new_is : rooms_of new j ≡ vec_capacity after.written = at_j ∙ rw here refl in
            let old_is : rooms_of old j ≡ vec_capacity before.written =
            ap (rooms_of old) (eqb-true j k here) ∙ told_before k old new before after was now (λ c. vec_capacity c.written) 0 in
            omega (arith, new_is, old_is)
        | inr other ↦ let same : rooms_of new j ≡ rooms_of old j = at_j ∙ rw other refl in omega (arith, same)
      ]

  pub written_from : length after.written.items ≤ room → ((j : ℕ) → length (written_of old j) ≤ room) → (j : ℕ) → length (written_of new j) ≤ room
  written_from short before_short j =
      let written = told_after k old new before after was now (λ c. c.written.items) [] after.written.items refl in
      let at_j : written_of new j ≡ at_number k after.written.items (written_of old) j = ap (λ (w : ℕ → List ℕ). w j) written in
      elim (cases_Bool (eqb j k)) [
        | inl here ↦ let is : length (written_of new j) ≡ length after.written.items = ap length at_j ∙ rw here refl in omega (arith, is, short)
        | inr other ↦ let same : length (written_of new j) ≡ length (written_of old j) = ap length at_j ∙ rw other refl in omega (arith, same, before_short j)
      ]

  pub stands_changed : (files : List StoredFile) → Stands room files old → ClaimsLess room before after → length after.written.items ≤ room → Stands room files new
  stands_changed files s less short = stands_with room files old new s
      (omega (arith, length_after k old new before after was now))
      (λ name. omega (arith, claims_after k old new before after was now room name, less.claim name))
      (writes_from less.writes)
      (λ j is. omega (arith, s.channel_room j (writing_from less.writing j is), room_from less.memory j))
      (written_from short s.within_room)
