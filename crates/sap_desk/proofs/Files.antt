-- Files by their names.
use Rattle.sap_lemmas.proofs.Common.{◌≡◌, ℕ, ◌<◌, ◌≤◌, Bool, true, false, cond, List, [], ◌∷◌, ◌++◌, length, set, get_or, refl, sym, ◌∙◌, ap, subst, arith, inl, inr, bytes_eq, string_bytes, position, nat_lt, slice_get, Option, Some, None, option_map, position_or_len, option_or, nat_tests, cases_Bool, slice_get-get_or, bytes_eq_apart_back, bytes_eq_same, equal_of_bytes_eq}
use Rattle.std.proofs.Common.{one-add}
use Rattle.std.proofs.lemmas.List.Folds.{find-set, find_past, find-append, find_at}
use Rattle.sap_desk.specs.Desk.{at_name}
use Rattle.sap_desk.specs.declared.stored.StoredFile.{StoredFile}
use Rattle.sap_desk.specs.Memory.{file_named, files_of, named}
use Rattle.sap_desk.specs.Room.{Puts}

first_passes : (p : StoredFile → Bool) (xs : List StoredFile) (d : StoredFile) → position_or_len p xs < length xs → p (get_or xs (position_or_len p xs) d) ≡ true
first_passes p [] d h = absurd (omega arith)
first_passes p (x ∷ xs) d h = elim (cases_Bool (p x)) [
  | inl here ↦ rw (here, here) refl
  | inr later ↦ let rest : position_or_len p xs < length xs = omega (arith, rw later at h) in rw (later, one-add) (first_passes p xs d rest)
]

-- at the first place of a name lies its file
pub record Found (files : List StoredFile) (name : List ℕ) (i : ℕ) (d : StoredFile) : Type 0 where
  pub first : i ≡ position_or_len (named name) files
  pub within : i < length files
  pub file : file_named files name ≡ Some (get_or files i d)
  pub bears : string_bytes (get_or files i d).name ≡ name

pub found : (files : List StoredFile) (name : List ℕ) (i : ℕ) (d : StoredFile) → position (named name) files ≡ Some i → Found files name i d
found files name i d h = elim (cases_Bool (nat_lt (position_or_len (named name) files) (length files))) [
  | inl less ↦
      let is : position_or_len (named name) files ≡ i = let s : Some (position_or_len (named name) files) ≡ Some i = rw less at h in cc s in
      let within : position_or_len (named name) files < length files = grind (arith, nat_tests) in
      let passes : named name (get_or files i d) ≡ true = subst (λ (j : ℕ). named name (get_or files j d) ≡ true) is (first_passes (named name) files d within) in
      record {
        first = sym is;
        within = omega arith;
        file = find_at (named name) files ∙ ap (λ (j : ℕ). slice_get files j) is ∙ slice_get-get_or files i d (omega arith);
        bears = equal_of_bytes_eq _ _ passes;
      }
  | inr past ↦ let bad : None ≡ Some i = rw past at h in absurd (cc bad)
]

past_end : (files : List StoredFile) → slice_get files (length files) ≡ None
past_end [] = refl
past_end (f ∷ files) = past_end files

first_within : (p : StoredFile → Bool) (files : List StoredFile) → position_or_len p files ≤ length files
first_within p [] = omega arith
first_within p (f ∷ files) = elim (cases_Bool (p f)) [
  | inl here ↦ rw here (omega arith)
  | inr later ↦ rw later (omega (arith, first_within p files))
]

-- a name without a place has no file
pub not_found : (files : List StoredFile) (name : List ℕ) → position (named name) files ≡ None → file_named files name ≡ None
not_found files name h = elim (cases_Bool (nat_lt (position_or_len (named name) files) (length files))) [
  | inl less ↦ let bad : Some (position_or_len (named name) files) ≡ None = rw less at h in absurd (cc bad)
  | inr past ↦
      let bound = first_within (named name) files in
      let is : position_or_len (named name) files ≡ length files = grind (arith, nat_tests) in
      find_at (named name) files ∙ ap (slice_get files) is ∙ past_end files
]

-- the first file of a name is replaced by another of that name
pub puts-set : (files : List StoredFile) (i : ℕ) (f d : StoredFile) → i ≡ position_or_len (named (string_bytes f.name)) files → i < length files
    → string_bytes (get_or files i d).name ≡ string_bytes f.name → Puts f files (set files i f)
puts-set files i f d first within was n =
    let name = string_bytes f.name in
    elim (cases_Bool (bytes_eq n name)) [
      | inl same ↦
          let is_n : n ≡ name = equal_of_bytes_eq n name same in
          let P : List ℕ → Type 0 = λ m. file_named (set files i f) m ≡ Some f in
          subst P (sym is_n) (find-set (named name) files i f first within (bytes_eq_same name)) ∙ rw same refl
      | inr other ↦
          let misses : bytes_eq name n ≡ false = bytes_eq_apart_back n name other in
          let before : named n (get_or files i d) ≡ false = rw was misses in
          find_past (named n) files i f d before misses ∙ rw other refl
    ]

or_none : (o : Option StoredFile) → option_or o None ≡ o
or_none None = refl
or_none (Some x) = refl

-- a file of a new name is added
pub puts-push : (files : List StoredFile) (f : StoredFile) → file_named files (string_bytes f.name) ≡ None → Puts f files (files ++ f ∷ [])
puts-push files f none n =
    let name = string_bytes f.name in
    elim (cases_Bool (bytes_eq n name)) [
      | inl same ↦
          let is_n : n ≡ name = equal_of_bytes_eq n name same in
          let P : List ℕ → Type 0 = λ m. file_named (files ++ f ∷ []) m ≡ Some f in
          let passes : named name f ≡ true = bytes_eq_same name in
          let here : file_named (files ++ f ∷ []) name ≡ Some f = find-append (named name) files (f ∷ []) ∙ rw (none, passes) refl in
          subst P (sym is_n) here ∙ rw same refl
      | inr other ↦
          let misses : named n f ≡ false = bytes_eq_apart_back n name other in
          find-append (named n) files (f ∷ []) ∙ rw (misses, other) (or_none (file_named files n))
    ]

files_put_at : (files later : List StoredFile) (f : StoredFile) (name bytes : List ℕ) → Puts f files later → string_bytes f.name ≡ name → f.bytes.items ≡ bytes
    → (n : List ℕ) → files_of later n ≡ at_name name (Some bytes) (files_of files) n
files_put_at files later f name bytes puts bears holds n =
    let by_name : file_named later n ≡ at_name name (Some f) (file_named files) n = puts n ∙ ap (λ (o : List ℕ). at_name o (Some f) (file_named files) n) bears in
    ap (option_map (λ (g : StoredFile). g.bytes.items)) by_name
    ∙ (elim (bytes_eq n name) as (λ b. option_map (λ (g : StoredFile). g.bytes.items) (cond b (Some f) (file_named files n)) ≡ cond b (Some bytes) (files_of files n)) [
      | true ↦ ap Some holds
      | false ↦ refl
    ])

-- what the files tell once one is put
pub files_put : (files later : List StoredFile) (f : StoredFile) (name bytes : List ℕ) → Puts f files later → string_bytes f.name ≡ name → f.bytes.items ≡ bytes
    → files_of later ≡ at_name name (Some bytes) (files_of files)
files_put files later f name bytes puts bears holds = λ i n. files_put_at files later f name bytes puts bears holds n i
