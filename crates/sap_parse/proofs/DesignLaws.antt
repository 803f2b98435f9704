-- What the symbols of declarations and states read.
use Rattle.std.proofs.Common.{◌≡◌, ◌≢◌, ℕ, List, [], ◌∷◌, Ok, Err, refl, ap, ◌∙◌}
use Rattle.sap_parse.specs.Choices.{declaration_head}
use Rattle.sap_parse.specs.Reading.{Enter, ahead, ahead_of, read_by, steps_by}
use Rattle.sap_parse.specs.Stages.{Stage}
use Rattle.sap_parse.specs.Table as s
use Rattle.sap_parse.specs.Table.{Row, next}
use Rattle.sap_parse.specs.declared.choice.DeclarationHead.TheVariants as h
use Rattle.sap_parse.specs.declared.choice.DeclarationHead.{DeclarationHead}
use Rattle.sap_parse.specs.declared.cursor.Ahead.TheVariants as a
use Rattle.sap_parse.specs.declared.role.Role.TheVariants as r
use Rattle.sap_lex.specs.declared.token.Kind.TheVariants as k
use Rattle.sap_lex.specs.declared.token.Kind.{Kind}
use Rattle.sap_lex.specs.declared.token.Sign.TheVariants as j
use Rattle.sap_lex.specs.declared.token.Token.{Token}
use Rattle.sap_tree.specs.declared.word.Word.TheVariants as w
use Rattle.sap_parse.proofs.Fronts.{nothing_left}
use Rattle.sap_parse.proofs.Laws.{at_word, chosen_row, nothing_ahead, read_none, same_if, sign_missing, sign_there, skips, step_more, stops, stops_at, word_missing, word_then, word_there}
use Rattle.sap_parse.proofs.Single.{ahead_back, next_not_word}
use Rattle.sap_walk.specs.Rows.{push, optional, ◌or◌}
use Rattle.sap_walk.specs.Walk.{empty_here, cannot_stand, at_token}
use Rattle.sap_walk.proofs.Walking.{bind_pure}

-- declarations, by what the reader chooses

abbrev declaration_row : DeclarationHead → Kind → Row
declaration_row h.Input = next s.input
declaration_row h.Register = next s.register
declaration_row h.Memory = next s.memory
declaration_row h.Neither = λ i. cannot_stand

declaration_rows : (i : Kind) → next s.declaration i ≡ declaration_row (declaration_head (ahead_of i)) i
unfolding declaration_head
declaration_rows (k.Word w.Reg) = refl
declaration_rows _ = refl

abbrev declarations_row : DeclarationHead → Kind → Row
declarations_row h.Neither = λ i. empty_here
declarations_row _ = λ i. push (next s.declaration i) (s.declarations ∷ [])

declarations_rows : (i : Kind) → next s.declarations i ≡ declarations_row (declaration_head (ahead_of i)) i
unfolding declaration_head
declarations_rows (k.Word w.Reg) = refl
declarations_rows _ = refl

some_declaration : (x : DeclarationHead) (i : Kind) → x ≢ h.Neither → declarations_row x i ≡ push (next s.declaration i) (s.declarations ∷ [])
some_declaration h.Neither i ne = absurd (ne refl)
some_declaration _ i ne = refl

module _ (enter : Enter) where
  -- straight productions

  pub enforced_steps : (p : Stage) → read_by enter s.enforced p ≡ steps_by enter (s.word r.Plain w.Enforced ∷ s.any_name r.Plain ∷ s.authority ∷ []) p
  enforced_steps = word_then enter s.enforced r.Plain w.Enforced _ (λ i. refl) refl

  -- what may be left out

  pub authority_there : (p : Stage) → ahead p.left ≡ a.Word w.Under → read_by enter s.authority p ≡ steps_by enter (s.word r.Plain w.Under ∷ s.any_name r.Plain ∷ []) p
  authority_there = word_there enter s.authority r.Plain w.Under _ (λ i. refl)

  pub authority_missing : (p : Stage) → ahead p.left ≢ a.Word w.Under → read_by enter s.authority p ≡ Ok p
  authority_missing = word_missing enter s.authority r.Plain w.Under _ (λ i. refl) refl

  pub initial_there : (p : Stage) → ahead p.left ≡ a.Sign j.Is → read_by enter s.initial p ≡ steps_by enter (s.sign r.Plain j.Is ∷ s.number r.Plain ∷ []) p
  initial_there = sign_there enter s.initial r.Plain j.Is _ (λ i. refl)

  pub initial_missing : (p : Stage) → ahead p.left ≢ a.Sign j.Is → read_by enter s.initial p ≡ Ok p
  initial_missing = sign_missing enter s.initial r.Plain j.Is _ (λ i. refl) refl

  -- kinds

  pub kind_dynamic : (p : Stage) → ahead p.left ≡ a.Word w.Dynamic → read_by enter s.kind_of p ≡ read_by enter (s.word r.Plain w.Dynamic) p
  kind_dynamic p e = at_word enter s.kind_of (s.word r.Plain w.Dynamic) [] w.Dynamic refl refl p e ∙ bind_pure (read_by enter (s.word r.Plain w.Dynamic) p)

  enforced_row : (i : Kind) → ahead_of i ≢ a.Word w.Dynamic → s.kind_next i ≡ s.enforced_next i
  enforced_row i ne = ap (λ n. n or s.enforced_next i) (next_not_word r.Plain w.Dynamic i ne)

  pub kind_enforced : (p : Stage) → ahead p.left ≢ a.Word w.Dynamic → read_by enter s.kind_of p ≡ read_by enter s.enforced p
  kind_enforced p ne = same_if enter s.kind_of s.enforced refl refl p (λ t ts left. enforced_row t.kind (λ h. ne (ahead_back t ts h left)))

  -- declarations

  chosen : (x : DeclarationHead) (p : Stage) → declaration_head (ahead p.left) ≡ x
      → (t : Token) (ts : List Token) → p.left ≡ t ∷ ts → next s.declaration t.kind ≡ declaration_row x t.kind
  chosen = chosen_row enter declaration_head declaration_row s.declaration declaration_rows

  pub declaration_input : (p : Stage) → declaration_head (ahead p.left) ≡ h.Input → read_by enter s.declaration p ≡ read_by enter s.input p
  declaration_input p e = same_if enter s.declaration s.input refl refl p (chosen h.Input p e)

  pub declaration_register : (p : Stage) → declaration_head (ahead p.left) ≡ h.Register → read_by enter s.declaration p ≡ read_by enter s.register p
  declaration_register p e = same_if enter s.declaration s.register refl refl p (chosen h.Register p e)

  pub declaration_memory : (p : Stage) → declaration_head (ahead p.left) ≡ h.Memory → read_by enter s.declaration p ≡ read_by enter s.memory p
  declaration_memory p e = same_if enter s.declaration s.memory refl refl p (chosen h.Memory p e)

  pub declaration_neither : (p : Stage) → declaration_head (ahead p.left) ≡ h.Neither → read_by enter s.declaration p ≡ Err (at_token p)
  declaration_neither p e = stops enter s.declaration refl p (chosen h.Neither p e)

  chosen_list : (x : DeclarationHead) (p : Stage) → declaration_head (ahead p.left) ≡ x
      → (t : Token) (ts : List Token) → p.left ≡ t ∷ ts → next s.declarations t.kind ≡ declarations_row x t.kind
  chosen_list = chosen_row enter declaration_head declarations_row s.declarations declarations_rows

  pub declarations_there : (p : Stage) → declaration_head (ahead p.left) ≢ h.Neither → read_by enter s.declarations p ≡ steps_by enter (s.declaration ∷ s.declarations ∷ []) p
  unfolding declaration_head
  declarations_there p ne = step_more enter declaration_head s.declarations s.declaration (s.declarations ∷ []) refl p ne
      (λ t ts left. chosen_list _ p refl t ts left ∙ some_declaration (declaration_head (ahead p.left)) t.kind ne)

  pub declarations_missing : (p : Stage) → declaration_head (ahead p.left) ≡ h.Neither → read_by enter s.declarations p ≡ Ok p
  declarations_missing p e = skips enter s.declarations refl p (chosen_list h.Neither p e)

  -- states

  no_state : (depth : ℕ) (i : Kind) → ahead_of i ≢ a.Word w.State → s.state_next depth i ≡ cannot_stand
  no_state depth (k.Word w.State) ne = absurd (ne refl)
  no_state depth _ ne = refl

  pub states_there : (depth : ℕ) (p : Stage) → ahead p.left ≡ a.Word w.State → read_by enter (s.states depth) p ≡ steps_by enter (s.state depth ∷ s.states depth ∷ []) p
  states_there depth = at_word enter (s.states depth) (s.state depth) (s.states depth ∷ []) w.State refl refl

  pub states_missing : (depth : ℕ) (p : Stage) → ahead p.left ≢ a.Word w.State → read_by enter (s.states depth) p ≡ Ok p
  states_missing depth p ne = skips enter (s.states depth) refl p
      (λ t ts left. ap (λ n. optional (push n (s.states depth ∷ []))) (no_state depth t.kind (λ h. ne (ahead_back t ts h left))))

  pub last_states_there : (p : Stage) → ahead p.left ≡ a.Word w.State → read_by enter s.last_states p ≡ steps_by enter (s.state 1 ∷ s.last_states ∷ []) p
  last_states_there = at_word enter s.last_states (s.state 1) (s.last_states ∷ []) w.State refl refl

  pub last_states_end : (p : Stage) → ahead p.left ≡ a.Nothing → read_by enter s.last_states p ≡ Ok p
  last_states_end p e = read_none enter s.last_states [] p (nothing_left p.left e) refl

  pub last_states_other : (p : Stage) → ahead p.left ≢ a.Word w.State → ahead p.left ≢ a.Nothing → read_by enter s.last_states p ≡ Err (at_token p)
  last_states_other p ne some = by_tokens p.left refl where
    by_tokens : (left : List Token) → p.left ≡ left → read_by enter s.last_states p ≡ Err (at_token p)
    by_tokens [] none = absurd (some (nothing_ahead enter p none))
    by_tokens (t ∷ ts) left =
        stops_at enter s.last_states p t ts left (ap (λ n. push n (s.last_states ∷ [])) (no_state 1 t.kind (λ h. ne (ahead_back t ts h left))))

  pub header_there : (p : Stage) → ahead p.left ≡ a.Word w.Sapper
      → read_by enter s.header p ≡ steps_by enter (s.word r.Plain w.Sapper ∷ s.word r.Plain w.Two ∷ s.sign r.Plain j.Semicolon ∷ []) p
  header_there = word_there enter s.header r.Plain w.Sapper _ (λ i. refl)

  pub header_missing : (p : Stage) → ahead p.left ≢ a.Word w.Sapper → read_by enter s.header p ≡ Ok p
  header_missing = word_missing enter s.header r.Plain w.Sapper _ (λ i. refl) refl
