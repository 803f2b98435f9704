-- The front of a list of tokens.
use Rattle.sap_lemmas.proofs.Common.{◌≡◌, ◌<◌, ◌≤◌, ◌+◌, ℕ, List, [], ◌∷◌, length, drop, get_or, ap, refl, sym, Some, ◌≢◌, ◌∙◌, arith, common_steps, drop-drop, None, one_more}
use Rattle.std.proofs.Common.{drop-cons}
use Rattle.sap_parse.specs.Reading.{Passes, ahead, ahead_of, front_name, front_number, front_sized, name_in, number_in, second, sized_in}
use Rattle.sap_parse.specs.Stages.{Stage, front_place}
use Rattle.sap_parse.specs.declared.cursor.Ahead.{Ahead}
use Rattle.sap_parse.specs.declared.role.Role.{Role}
use Rattle.sap_lex.specs.declared.token.Kind.TheVariants as k
use Rattle.sap_lex.specs.declared.token.Kind.{Kind}
use Rattle.sap_lex.specs.declared.token.Sign.{Sign}
use Rattle.sap_tree.specs.declared.word.Word.{Word}
use Rattle.sap_parse.specs.declared.cursor.Ahead.TheVariants as a
use Rattle.sap_lex.specs.declared.token.Token.{Token}

pub ahead_at : (ts : List Token) (n : ℕ) (d : Token) → n < length ts → ahead (drop n ts) ≡ ahead_of (get_or ts n d).kind
unfolding ahead
ahead_at ts n d h = ap ahead (drop-cons ts n d h)

drop_end : (ts : List Token) (n : ℕ) → length ts ≤ n → drop n ts ≡ []
drop_end ts n h = grind (arith, common_steps)

pub ahead_end : (ts : List Token) (n : ℕ) → length ts ≤ n → ahead (drop n ts) ≡ a.Nothing
unfolding ahead
ahead_end ts n h = ap ahead (drop_end ts n h)

behind : (ts : List Token) → second ts ≡ ahead (drop 1 ts)
unfolding second ahead
behind [] = refl
behind (t ∷ ts) = refl

pub second_at : (ts : List Token) (n : ℕ) (d : Token) → n + 1 < length ts → second (drop n ts) ≡ ahead_of (get_or ts (n + 1) d).kind
unfolding second
second_at ts n d h = ap second (drop-cons ts n d (omega arith)) ∙ ap (λ m. ahead (drop m ts)) (one_more n) ∙ ahead_at ts (n + 1) d h

drop_drop : (ts : List Token) (n : ℕ) → drop 1 (drop n ts) ≡ drop (n + 1) ts
drop_drop ts n = drop-drop 1 n ts

pub second_end : (ts : List Token) (n : ℕ) → length ts ≤ n + 1 → second (drop n ts) ≡ a.Nothing
unfolding second
second_end ts n h = behind (drop n ts) ∙ ap ahead (drop_drop ts n) ∙ ahead_end ts (n + 1) h

pub here_at : (ts : List Token) (n : ℕ) (d : Token) → n < length ts → front_place (drop n ts) ≡ (get_or ts n d).place
here_at ts n d h = ap front_place (drop-cons ts n d h)

pub here_end : (ts : List Token) (n : ℕ) → length ts ≤ n → front_place (drop n ts) ≡ record { line = 0; column = 0 }
here_end ts n h = ap front_place (drop_end ts n h)

pub number_at : (ts : List Token) (n : ℕ) (d : Token) → n < length ts → front_number (drop n ts) ≡ number_in (get_or ts n d).kind
unfolding front_number
number_at ts n d h = ap front_number (drop-cons ts n d h)

pub number_end : (ts : List Token) (n : ℕ) → length ts ≤ n → front_number (drop n ts) ≡ None
unfolding front_number
number_end ts n h = ap front_number (drop_end ts n h)

pub name_at : (ts : List Token) (n : ℕ) (d : Token) → n < length ts → front_name (drop n ts) ≡ name_in (get_or ts n d).kind
unfolding front_name
name_at ts n d h = ap front_name (drop-cons ts n d h)

pub name_end : (ts : List Token) (n : ℕ) → length ts ≤ n → front_name (drop n ts) ≡ None
unfolding front_name
name_end ts n h = ap front_name (drop_end ts n h)

pub sized_at : (ts : List Token) (n : ℕ) (d : Token) → n < length ts → front_sized (drop n ts) ≡ sized_in (get_or ts n d).kind
unfolding front_sized
sized_at ts n d h = ap front_sized (drop-cons ts n d h)

pub sized_end : (ts : List Token) (n : ℕ) → length ts ≤ n → front_sized (drop n ts) ≡ None
unfolding front_sized
sized_end ts n h = ap front_sized (drop_end ts n h)

pub ruleset fronts = (ahead_at, ahead_end, second_at, second_end, here_at, here_end, number_at, number_end, name_at, name_end, sized_at, sized_end)

pub ruleset passing = (here_at, here_end)

-- what has a front isn't empty

pub some_ahead : (left : List Token) (x : Ahead) → ahead left ≡ x → x ≢ a.Nothing → 0 < length left
unfolding ahead
some_ahead [] x e ne = absurd (ne (sym e))
some_ahead (t ∷ ts) x e ne = omega arith

pub some_sign : (left : List Token) (j : Sign) → ahead left ≡ a.Sign j → 0 < length left
some_sign left j e = some_ahead left (a.Sign j) e (λ h. absurd (cc))

pub some_word : (left : List Token) (j : Word) → ahead left ≡ a.Word j → 0 < length left
some_word left j e = some_ahead left (a.Word j) e (λ h. absurd (cc))

pub some_number : (left : List Token) (n : ℕ) → front_number left ≡ Some n → 0 < length left
unfolding front_number
some_number [] n e = absurd (cc)
some_number (t ∷ ts) n e = omega arith

pub some_name : (left : List Token) (n : List ℕ) → front_name left ≡ Some n → 0 < length left
unfolding front_name
some_name [] n e = absurd (cc)
some_name (t ∷ ts) n e = omega arith

pub some_sized : (left : List Token) (n : ℕ × ℕ) → front_sized left ≡ Some n → 0 < length left
unfolding front_sized
some_sized [] n e = absurd (cc)
some_sized (t ∷ ts) n e = omega arith

pub passed_shorter : (p q : Stage) (role : Role) (t : Token) → Passes p role t q → length q.left < length p.left
passed_shorter p q role t passes = omega (arith, ap length passes.left)

pub ruleset somes = (some_sign, some_word, some_number, some_name, some_sized, passed_shorter)

pub nothing_left : (left : List Token) → ahead left ≡ a.Nothing → left ≡ []
unfolding ahead
nothing_left [] e = refl
nothing_left (t ∷ ts) e = absurd (some t.kind e) where
  some : (i : Kind) → ahead_of i ≡ a.Nothing → ⊥
  some (k.Word x) e = cc
  some _ e = cc

pub ruleset nothings = (nothing_left)
