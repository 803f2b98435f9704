-- The front of a list of tokens.
use Rattle.sap_lemmas.proofs.Common.{◌≡◌, ◌<◌, ◌≤◌, ◌+◌, ℕ, List, [], ◌∷◌, length, drop, get_or, ap, refl, sym, None, ◌≢◌, arith, at_drop_all, at_drop_more}
use Rattle.sap_vtext.specs.Tokens as t
use Rattle.sap_vparse.specs.Reading.{constant_in, front_constant, front_name, front_number, head, head_of, here, name_in, number_in, of_nothing, Head}
use Rattle.sap_vlex.specs.Spelling.{kind_of_token, token_of, tokens_of}
use Rattle.sap_vlex.specs.declared.token.Token.{Token}

pub from_at : (ts : List Token) (n : ℕ) (d : Token) → n < length ts → tokens_of (drop n ts) ≡ token_of (get_or ts n d) ∷ tokens_of (drop (n + 1) ts)
from_at ts n d h = at_drop_more tokens_of ts n d h

from_end : (ts : List Token) (n : ℕ) → length ts ≤ n → tokens_of (drop n ts) ≡ []
from_end ts n h = at_drop_all tokens_of ts n h

pub head_at : (ts : List Token) (n : ℕ) (d : Token) → n < length ts → head (tokens_of (drop n ts)) ≡ head_of (kind_of_token (get_or ts n d).kind)
unfolding head
head_at ts n d h = ap head (from_at ts n d h)

pub head_end : (ts : List Token) (n : ℕ) → length ts ≤ n → head (tokens_of (drop n ts)) ≡ of_nothing
unfolding head
head_end ts n h = ap head (from_end ts n h)

pub here_at : (ts : List Token) (n : ℕ) (d : Token) → n < length ts → here (tokens_of (drop n ts)) ≡ (get_or ts n d).place
here_at ts n d h = ap here (from_at ts n d h)

pub here_end : (ts : List Token) (n : ℕ) → length ts ≤ n → here (tokens_of (drop n ts)) ≡ 0
here_end ts n h = ap here (from_end ts n h)

pub number_at : (ts : List Token) (n : ℕ) (d : Token) → n < length ts → front_number (tokens_of (drop n ts)) ≡ number_in (kind_of_token (get_or ts n d).kind)
unfolding front_number
number_at ts n d h = ap front_number (from_at ts n d h)

pub number_end : (ts : List Token) (n : ℕ) → length ts ≤ n → front_number (tokens_of (drop n ts)) ≡ None
unfolding front_number
number_end ts n h = ap front_number (from_end ts n h)

pub constant_at : (ts : List Token) (n : ℕ) (d : Token) → n < length ts → front_constant (tokens_of (drop n ts)) ≡ constant_in (kind_of_token (get_or ts n d).kind)
unfolding front_constant
constant_at ts n d h = ap front_constant (from_at ts n d h)

pub constant_end : (ts : List Token) (n : ℕ) → length ts ≤ n → front_constant (tokens_of (drop n ts)) ≡ None
unfolding front_constant
constant_end ts n h = ap front_constant (from_end ts n h)

pub name_at : (ts : List Token) (n : ℕ) (d : Token) → n < length ts → front_name (tokens_of (drop n ts)) ≡ name_in (kind_of_token (get_or ts n d).kind)
unfolding front_name
name_at ts n d h = ap front_name (from_at ts n d h)

pub name_end : (ts : List Token) (n : ℕ) → length ts ≤ n → front_name (tokens_of (drop n ts)) ≡ None
unfolding front_name
name_end ts n h = ap front_name (from_end ts n h)

pub ruleset fronts = (head_at, head_end, here_at, here_end, number_at, number_end, constant_at, constant_end, name_at, name_end)

-- what has a front isn't empty
pub some_head : (left : List t.Token) (x : Head) → head left ≡ x → x ≢ of_nothing → 0 < length left
unfolding head
some_head [] x e ne = absurd (ne (sym e))
some_head (y ∷ ts) x e ne = omega arith

pub nothing_left : (left : List t.Token) → head left ≡ of_nothing → left ≡ []
unfolding head
nothing_left [] e = refl
nothing_left (x ∷ ts) e = absurd (some x.kind e) where
  some : (i : t.Kind) → head_of i ≡ of_nothing → ⊥
  some (t.word x) e = cc
  some _ e = cc
