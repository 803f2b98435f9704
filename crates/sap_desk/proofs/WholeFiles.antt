-- A file that was made, written and finished.
use Rattle.sap_lemmas.proofs.Common.{◌≡◌, ℕ, ◌+◌, ◌<◌, ◌≤◌, Bool, true, false, cond, List, [], ◌++◌, length, take, refl, sym, ◌∙◌, ap, subst, arith, inl, inr, length-take, eqb, ltb, Option, Some, None, option_map, IfSome, unwrap_or, nat_tests, take_all, cases_eq}
use Rattle.sap_desk.specs.Desk.{Told, Use, closed, writes, at_name, at_number, added, added_to, created, finished, blame_at, blamed, name_if_open, name_if_writing, IsOpen, IsWriting}
use Rattle.sap_desk.specs.Cause.{Took, FailsToWrite}
use Rattle.sap_desk.specs.Whole.{Between, IsFor, OneMore, SameChannels, WritesOn, Wrote, FailedWriting, FillsFile}
use Rattle.sap_desk.proofs.Steps.{at_number-keeps, at_number-same, at_number-twice, at_name-same, at_name-twice, other_number}

-- a channel that wasn't open is none of those that were
other_channel : {A : Type 0} (channel k : ℕ) (x : A) (f : ℕ → A) (t : Told) → t.uses channel ≡ closed → IsOpen (t.uses k) → at_number channel x f k ≡ f k
other_channel channel k x f t fresh open_now = elim (cases_eq k channel) [
  | inl same ↦ absurd (let P : Use → Type 0 = IsOpen in subst P (ap t.uses same ∙ fresh) open_now)
  | inr other ↦ let no : eqb k channel ≡ false = grind (arith, nat_tests) in rw no refl
]

-- only one channel changed, which wasn't open
pub same_channels : (channel : ℕ) (u : Use) (w : List ℕ) (t n : Told) → 2 < channel → t.uses channel ≡ closed
    → n.room ≡ t.room → n.uses ≡ at_number channel u t.uses → n.written ≡ at_number channel w t.written → SameChannels t n
same_channels channel u w t n above fresh room uses written = record {
  room = room;
  output_use = ap (λ (f : ℕ → Use). f 1) uses ∙ rw (other_number 1 channel (omega arith)) refl;
  output = ap (λ (f : ℕ → List ℕ). f 1) written ∙ rw (other_number 1 channel (omega arith)) refl;
  lines_use = ap (λ (f : ℕ → Use). f 2) uses ∙ rw (other_number 2 channel above) refl;
  lines = ap (λ (f : ℕ → List ℕ). f 2) written ∙ rw (other_number 2 channel above) refl;
  open_use = λ k open_now. ap (λ (f : ℕ → Use). f k) uses ∙ other_channel channel k u t.uses t fresh open_now;
  open_written = λ k open_now. ap (λ (f : ℕ → List ℕ). f k) written ∙ other_channel channel k w t.written t fresh open_now;
}

-- it is open now for a file
pub one_more : (channel : ℕ) (name : List ℕ) (u : Use) (t : Told) → 2 < channel → t.uses channel ≡ closed → IsFor name u
    → OneMore name t.uses (at_number channel u t.uses)
one_more channel name u t above fresh is_for = record { channel = channel; above = above; fresh = fresh; use_now = u; is_for = is_for; uses = refl }

-- it is open now for writing
writes_on : (channel : ℕ) (name : List ℕ) (t : Told) → 2 < channel → t.uses channel ≡ closed
    → WritesOn name t.uses (at_number channel (writes name) t.uses)
writes_on channel name t above fresh = record { channel = channel; above = above; fresh = fresh; uses = refl }

module _ (channel : ℕ) (name : List ℕ) (t : Told) (above : 2 < channel) where
  pub made_use : (created channel name t).uses channel ≡ writes name
  made_use = at_number-same channel (writes name) t.uses

  -- a piece added to a file that was just made
  pub made_files : (piece : List ℕ) → (added channel piece (created channel name t)).files ≡ at_name name (Some piece) t.files
  made_files piece =
      let file : ltb 2 channel ≡ true = grind (arith, nat_tests) in
      ap (λ (b : Bool). cond b (added_to ((created channel name t).uses channel) piece (created channel name t).files) (created channel name t).files) file
      ∙ ap (λ (u : Use). added_to u piece (created channel name t).files) made_use
      ∙ ap (λ (o : Option (List ℕ)). at_name name (Some (unwrap_or o [] ++ piece)) (at_name name (Some []) t.files)) (at_name-same name (Some []) t.files)
      ∙ at_name-twice name (Some []) (Some piece) t.files

  pub made_written : (piece : List ℕ) → (added channel piece (created channel name t)).written channel ≡ piece
  made_written piece =
      at_number-same channel ((created channel name t).written channel ++ piece) (created channel name t).written
      ∙ ap (λ (l : List ℕ). l ++ piece) (at_number-same channel [] t.written)

  pub written_is : (piece : List ℕ) → (added channel piece (created channel name t)).written ≡ at_number channel piece t.written
  written_is piece =
      ap (λ (l : List ℕ). at_number channel (l ++ piece) (at_number channel [] t.written)) (at_number-same channel [] t.written)
      ∙ at_number-twice channel [] piece t.written

  -- neither channel 1 nor 2 is meant
  pub blame_is : (n : List ℕ) (u : Told) → blame_at channel n u ≡ blamed n u
  blame_is n u =
      let not_two : eqb channel 2 ≡ false = grind (arith, nat_tests) in
      let not_one : eqb channel 1 ≡ false = grind (arith, nat_tests) in
      rw (not_two, not_one) refl

module _ (channel : ℕ) (name bytes : List ℕ) (above : 2 < channel) where
  wrote_one : (t : Told) → t.uses channel ≡ closed → Wrote name bytes t (finished channel (added channel bytes (created channel name t)))
  wrote_one t fresh = record {
    files = made_files channel name t above bytes;
    blame = refl;
    channels = same_channels channel closed bytes t _ above fresh refl (at_number-twice channel (writes name) closed t.uses) (written_is channel name t above bytes);
    uses = at_number-twice channel (writes name) closed t.uses ∙ at_number-keeps channel closed t.uses fresh;
  }

  -- a finish failed after the whole was written
  unfinished_one : (t : Told) → t.uses channel ≡ closed
      → FailedWriting name bytes t (blamed (name_if_open ((added channel bytes (created channel name t)).uses channel)) (added channel bytes (created channel name t)))
  unfinished_one t fresh = record {
    left =
        inr (
          record {
            count = length bytes;
            within = omega arith;
            files = made_files channel name t above bytes ∙ ap (λ (l : List ℕ). at_name name (Some l) t.files) (sym (take_all (length bytes) bytes (omega arith)));
          },
          writes_on channel name t above fresh,
        );
    blame = ap name_if_open (made_use channel name t above);
    channels = same_channels channel (writes name) bytes t _ above fresh refl refl (written_is channel name t above bytes);
  }

  -- a write failed
  cut_one : (t : Told) (count : ℕ) → count ≤ length bytes → t.uses channel ≡ closed
      → FailedWriting name bytes t (blamed (name_if_writing ((created channel name t).uses channel)) (added channel (take count bytes) (created channel name t)))
  cut_one t count within fresh = record {
    left = inr (record { count = count; within = within; files = made_files channel name t above (take count bytes) }, writes_on channel name t above fresh);
    blame = ap name_if_writing (made_use channel name t above);
    channels = same_channels channel (writes name) (take count bytes) t _ above fresh refl refl (written_is channel name t above (take count bytes));
  }

  pub wrote_all : (old one two new : Option Told) → IfSome old (λ t. t.uses channel ≡ closed)
      → one ≡ option_map (created channel name) old → two ≡ option_map (added channel bytes) one → new ≡ option_map (finished channel) two
      → Between old new (Wrote name bytes)
  wrote_all None one two new fresh a b c = tt
  wrote_all (Some t) one two new fresh a b c = rw (c, b, a) (wrote_one t fresh)

  pub failed_finishing : (old one two new : Option Told) → IfSome old (λ t. t.uses channel ≡ closed)
      → one ≡ option_map (created channel name) old → two ≡ option_map (added channel bytes) one
      → new ≡ option_map (λ t. blame_at channel (name_if_open (t.uses channel)) t) two
      → Between old new (FailedWriting name bytes)
  failed_finishing None one two new fresh a b c = tt
  failed_finishing (Some t) one two new fresh a b c =
      rw (c, b, a, blame_is channel name t above) (unfinished_one t fresh)

  pub failed_writing : (old one new : Option Told) → IfSome old (λ t. t.uses channel ≡ closed)
      → one ≡ option_map (created channel name) old → Took channel bytes one new
      → Between old new (FailedWriting name bytes)
  failed_writing None one new fresh a took = tt
  failed_writing (Some t) one new fresh a took =
      rw (took.told, a, blame_is channel name t above) (cut_one t took.count took.within fresh)

  -- its channel is open then
  pub open_unfinished : (old one two new : Option Told) → IfSome old (λ t. t.uses channel ≡ closed)
      → one ≡ option_map (created channel name) old → two ≡ option_map (added channel bytes) one
      → new ≡ option_map (λ t. blame_at channel (name_if_open (t.uses channel)) t) two
      → Between old new (λ t n. WritesOn name t.uses n.uses)
  open_unfinished None one two new fresh a b c = tt
  open_unfinished (Some t) one two new fresh a b c =
      rw (c, b, a, blame_is channel name t above) (writes_on channel name t above fresh)

  pub open_unwritten : (old one new : Option Told) → IfSome old (λ t. t.uses channel ≡ closed)
      → one ≡ option_map (created channel name) old → Took channel bytes one new
      → Between old new (λ t n. WritesOn name t.uses n.uses)
  open_unwritten None one new fresh a took = tt
  open_unwritten (Some t) one new fresh a took =
      rw (took.told, a, blame_is channel name t above) (writes_on channel name t above fresh)

  -- a write of a file that was just made fails beyond the room, and then the file fills it
  fills_one : (t : Told) (new : Option Told) (count : ℕ) → count ≤ length bytes
      → new ≡ Some (blame_at channel (name_if_writing ((created channel name t).uses channel)) (added channel (take count bytes) (created channel name t)))
      → FailsToWrite channel bytes (created channel name t) new
      → Between (Some t) new (FillsFile name bytes)
  fills_one t new count within is fails = elim fails.why [
    | inl closed_now ↦ absurd (let P : Use → Type 0 = IsWriting in closed_now (subst P (sym (made_use channel name t above)) tt))
    | inr fills ↦
        let held : length ((created channel name t).written channel) ≡ 0 = ap length (at_number-same channel [] t.written) in
        let P : Option Told → Type 0 = λ o. IfSome o (λ n. length (n.written channel) ≡ t.room) in
        let Q : Told → Type 0 = λ n. length (n.written channel) ≡ t.room in
        let full = subst Q (blame_is channel name t above _ _) (subst P is fills.full) in
        let _taken : length (take count bytes) ≡ t.room = ap length (sym (made_written channel name t above (take count bytes))) ∙ full in
        let all : count ≡ t.room = omega (arith, length-take count bytes) in
        rw (is, blame_is channel name t above) (record {
          beyond = let _more : t.room < length ((created channel name t).written channel) + length bytes = fills.beyond in omega (arith, held);
          full = made_files channel name t above (take count bytes) ∙ ap (λ (n : ℕ). at_name name (Some (take n bytes)) t.files) all;
        })
  ]

  pub fills_file : (old one new : Option Told)
      → one ≡ option_map (created channel name) old → Took channel bytes one new
      → IfSome one (λ t. FailsToWrite channel bytes t new)
      → Between old new (FillsFile name bytes)
  fills_file None one new a took fails = tt
  fills_file (Some t) one new a took fails =
      let P : Option Told → Type 0 = λ o. IfSome o (λ t. FailsToWrite channel bytes t new) in
      let Q : Option Told → Type 0 = λ o. new ≡ option_map (λ t. blame_at channel (name_if_writing (t.uses channel)) (added channel (take took.count bytes) t)) o in
      fills_one t new took.count took.within (subst Q a took.told) (subst P a fails)
