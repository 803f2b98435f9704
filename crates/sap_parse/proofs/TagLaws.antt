-- What the symbols of tag expressions read.
use Rattle.std.proofs.Common.{◌≡◌, ◌≢◌, List, [], ◌∷◌, Ok, Err, refl}
use Rattle.sap_parse.specs.Choices.{tag_head}
use Rattle.sap_parse.specs.Reading.{Enter, ahead, ahead_of, read_by, steps_by}
use Rattle.sap_parse.specs.Stages.{Stage}
use Rattle.sap_parse.specs.Table as s
use Rattle.sap_parse.specs.Table.{Row, next}
use Rattle.sap_parse.specs.declared.choice.TagHead.TheVariants as h
use Rattle.sap_parse.specs.declared.choice.TagHead.{TagHead}
use Rattle.sap_parse.specs.declared.cursor.Ahead.TheVariants as a
use Rattle.sap_parse.specs.declared.role.Role.TheVariants as r
use Rattle.sap_lex.specs.declared.token.Kind.TheVariants as k
use Rattle.sap_lex.specs.declared.token.Kind.{Kind}
use Rattle.sap_lex.specs.declared.token.Sign.TheVariants as j
use Rattle.sap_lex.specs.declared.token.Token.{Token}
use Rattle.sap_tree.specs.declared.word.Word.TheVariants as w
use Rattle.sap_parse.proofs.Laws.{chosen_row, same_if, sign_missing, sign_there, stops, word_then}
use Rattle.sap_walk.specs.Walk.{cannot_stand, at_token}

-- tag expressions, by what the reader chooses

abbrev texpr_row : TagHead → Kind → Row
texpr_row h.Name = next (s.any_name r.Inner)
texpr_row h.Tag = next s.tag_of
texpr_row h.Level = next s.level_at
texpr_row h.Join = next s.join
texpr_row h.Neither = λ i. cannot_stand

texpr_rows : (i : Kind) → next s.texpr i ≡ texpr_row (tag_head (ahead_of i)) i
unfolding tag_head
texpr_rows (k.Word w.Tag) = refl
texpr_rows _ = refl

module _ (enter : Enter) where
  pub join_steps : (p : Stage)
      → read_by enter s.join p ≡ steps_by enter (s.word r.Inner w.Join ∷ s.sign r.Opening j.OpenParen ∷ s.texpr ∷ s.sign r.Inner j.Comma
      ∷ s.texpr ∷ s.texprs ∷ s.sign r.Closing j.CloseParen ∷ []) p
  join_steps = word_then enter s.join r.Inner w.Join _ (λ i. refl) refl

  pub texprs_there : (p : Stage) → ahead p.left ≡ a.Sign j.Comma → read_by enter s.texprs p ≡ steps_by enter (s.sign r.Inner j.Comma ∷ s.texpr ∷ s.texprs ∷ []) p
  texprs_there = sign_there enter s.texprs r.Inner j.Comma _ (λ i. refl)

  pub texprs_missing : (p : Stage) → ahead p.left ≢ a.Sign j.Comma → read_by enter s.texprs p ≡ Ok p
  texprs_missing = sign_missing enter s.texprs r.Inner j.Comma _ (λ i. refl) refl

  chosen : (x : TagHead) (p : Stage) → tag_head (ahead p.left) ≡ x → (t : Token) (ts : List Token) → p.left ≡ t ∷ ts → next s.texpr t.kind ≡ texpr_row x t.kind
  chosen = chosen_row enter tag_head texpr_row s.texpr texpr_rows

  pub texpr_name : (p : Stage) → tag_head (ahead p.left) ≡ h.Name → read_by enter s.texpr p ≡ read_by enter (s.any_name r.Inner) p
  texpr_name p e = same_if enter s.texpr (s.any_name r.Inner) refl refl p (chosen h.Name p e)

  pub texpr_tag : (p : Stage) → tag_head (ahead p.left) ≡ h.Tag → read_by enter s.texpr p ≡ read_by enter s.tag_of p
  texpr_tag p e = same_if enter s.texpr s.tag_of refl refl p (chosen h.Tag p e)

  pub texpr_level : (p : Stage) → tag_head (ahead p.left) ≡ h.Level → read_by enter s.texpr p ≡ read_by enter s.level_at p
  texpr_level p e = same_if enter s.texpr s.level_at refl refl p (chosen h.Level p e)

  pub texpr_join : (p : Stage) → tag_head (ahead p.left) ≡ h.Join → read_by enter s.texpr p ≡ read_by enter s.join p
  texpr_join p e = same_if enter s.texpr s.join refl refl p (chosen h.Join p e)

  pub texpr_neither : (p : Stage) → tag_head (ahead p.left) ≡ h.Neither → read_by enter s.texpr p ≡ Err (at_token p)
  texpr_neither p e = stops enter s.texpr refl p (chosen h.Neither p e)
