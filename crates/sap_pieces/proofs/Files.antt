-- A file that was made, and written piece by piece.
use Rattle.std.proofs.Common.{◌≡◌, ℕ, ◌<◌, List, sym, ◌∙◌, ap, subst}
use Rattle.std.specs.Prelude.{Option, Some, None, IfSome, option_map}
use Rattle.sap_desk.specs.Desk.{Told, Use, IsOpen, IsWriting, added, created}
use Rattle.sap_desk.specs.Cause.{Took}
use Rattle.sap_desk.specs.Whole.{Between}
use Rattle.sap_desk.proofs.WholeFiles.{made_use}
use Rattle.sap_pieces.specs.Written.{CutOff}

module _ (channel : ℕ) (name : List ℕ) (above : 2 < channel) where
  open_now : (old one : Option Told) → one ≡ option_map (created channel name) old → IfSome one (λ t. IsWriting (t.uses channel))
  open_now None one is = subst (λ (o : Option Told). IfSome o (λ t. IsWriting (t.uses channel))) (sym is) tt
  open_now (Some t) one is =
      let P : Use → Type 0 = IsWriting in
      subst (λ (o : Option Told). IfSome o (λ t. IsWriting (t.uses channel))) (sym is) (subst P (sym (made_use channel name t above)) tt)

  none_closed : (count : ℕ) (one : Option Told) → IfSome one (λ t. IsWriting (t.uses channel)) → IfSome one (λ t. (¬ IsWriting (t.uses channel)) → count ≡ 0)
  none_closed count None writing = tt
  none_closed count (Some t) writing = λ shut. absurd (shut writing)

  -- as if it had been written in one piece
  pub took_all : (bytes : List ℕ) (old one new : Option Told) → one ≡ option_map (created channel name) old → CutOff channel bytes one new → Took channel bytes one new
  took_all bytes old one new is cut = record {
    count = cut.count;
    within = cut.within;
    told = cut.told;
    closed_takes_none = none_closed cut.count one (open_now old one is);
  }

  -- it can be finished
  pub never_unfinished : (R : Told → Told → Type 0) (bytes : List ℕ) (old one two new : Option Told) → one ≡ option_map (created channel name) old
      → two ≡ option_map (added channel bytes) one → IfSome two (λ t. ¬ IsOpen (t.uses channel)) → Between old new R
  never_unfinished R bytes None one two new is also shut = tt
  never_unfinished R bytes (Some t) one two new is also shut =
      let P : Use → Type 0 = IsOpen in
      let there : two ≡ Some (added channel bytes (created channel name t)) = also ∙ ap (option_map (added channel bytes)) is in
      let closed_now : ¬ IsOpen ((created channel name t).uses channel) = subst (λ (o : Option Told). IfSome o (λ u. ¬ IsOpen (u.uses channel))) there shut in
      absurd (closed_now (subst P (sym (made_use channel name t above)) tt))
