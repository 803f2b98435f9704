-- Comment lines before a text are blanks before its first token: what follows them is read alike, at other places.
use Rattle.sap_lemmas.proofs.Common.{◌≡◌, ◌↔◌, ◌+◌, ◌-◌, ℕ, true, list_all, List, [], ◌∷◌, ◌++◌, length, drop, refl, sym, ap, ◌∙◌, subst, arith, append_assoc, length-append, codes}
use Rattle.sap_lemmas.proofs.Everywhere.{prefix_run}
use Rattle.sap_lemmas.proofs.Lists.{drop_front}
use Rattle.sap_text.specs.Blanks.{is_in_line}
use Rattle.sap_text.specs.Places.{line_end}
use Rattle.sap_net.specs.Net.{Net}
use Rattle.sap_vtext.specs.Items.{File}
use Rattle.sap_vtext.specs.Tokens.{Token}
use Rattle.sap_vtext.specs.Lexing.{front, blank, Lexed, end, blank_first, token_first}
use Rattle.sap_vtext.specs.Faults.{V3, V4, V5, V6, V7, IsFaultless}
use Rattle.sap_vtext.specs.Modules.{IsModule}
use Rattle.sap_vtext.proofs.LexingLemmas.{front_at_end}
use Rattle.sap_vtext.proofs.OneFile.{one_file}
use Rattle.sap_vtext.proofs.OneLexing.{one_lexing}
use Rattle.sap_explain.specs.Comments.{IsCommentLine, AreCommentLines, no_line, and_line}
use Rattle.sap_explain.proofs.Moved.{moved}
use Rattle.sap_explain.proofs.MovedFaults.{v3_moved, v4_moved, v5_moved, v6_moved, v7_moved}
use Rattle.sap_explain.proofs.MovedGrammar.{moved_token, all_moved, moved_file}
use Rattle.sap_explain.proofs.MovedNet.{moved_netlist}

-- the tokens of a text that begins at another place
lexed_moved : (move : ℕ → ℕ) {from to : ℕ} {bs : List ℕ} {ts : List Token} → ((n : ℕ) → move (from + n) ≡ to + n) → Lexed from bs ts → Lexed to bs (all_moved move ts)
lexed_moved move e end = end
lexed_moved move {from} {to} e (blank_first len is rest) = blank_first len is (lexed_moved move (further move from to len e) rest) where
  further : (move : ℕ → ℕ) (from to len : ℕ) → ((n : ℕ) → move (from + n) ≡ to + n) → (n : ℕ) → move ((from + len) + n) ≡ (to + len) + n
  further move from to len e n =
      let a : (from + len) + n ≡ from + (len + n) = omega arith in let b : to + (len + n) ≡ (to + len) + n = omega arith in ap move a ∙ e (len + n) ∙ b
lexed_moved move {from} {to} {bs} e (token_first {tokens = tokens} kind len is rest) =
    let a : from ≡ from + 0 = omega arith in
    let b : to + 0 ≡ to = omega arith in
    subst (λ (p : ℕ). Lexed to bs ((let t : Token = record { place = p; kind = kind } in t) ∷ all_moved move tokens)) (sym (ap move a ∙ e 0 ∙ b))
    (token_first kind len is (lexed_moved move (λ n. let c : (from + len) + n ≡ from + (len + n) = omega arith in let d : to + (len + n) ≡ (to + len) + n = omega arith in
    ap move c ∙ e (len + n) ∙ d) rest))

-- behind a blank
behind_blank : {from : ℕ} {bs : List ℕ} {ts : List Token} (len : ℕ) → front bs ≡ blank len → Lexed from bs ts → Lexed (from + len) (drop len bs) ts
behind_blank len is end = let f = front_at_end in absurd (cc)
behind_blank {from} {bs} {ts} len is (blank_first n same rest) = let e : n ≡ len = cc in subst (λ (k : ℕ). Lexed (from + k) (drop k bs) ts) e rest
behind_blank len is (token_first kind n same rest) = absurd (cc)

comment_front : (rest others : List ℕ) → list_all is_in_line rest ≡ true → front ((codes "//" ++ rest) ++ (10 ∷ others)) ≡ blank (length (codes "//" ++ rest))
unfolding front
comment_front rest others h = ap blank (prefix_run is_in_line (codes "//" ++ rest) (10 ∷ others) h refl)

end_front : (others : List ℕ) → front (10 ∷ others) ≡ blank 1
unfolding front
end_front others = refl

module _ (first : List ℕ) (is : IsCommentLine first) (text : List ℕ) (from : ℕ) (ts : List Token) where
  abbrev slashed : List ℕ
  slashed = codes "//" ++ is.rest

  bytes : first ++ text ≡ slashed ++ (10 ∷ text)
  bytes = ap (λ (l : List ℕ). l ++ text) is.parts ∙ append_assoc slashed line_end text

  places : (from + length slashed) + 1 ≡ from + length first
  places =
      let a = ap length is.parts ∙ length-append slashed line_end in
      let b : (from + length slashed) + 1 ≡ from + (length slashed + 1) = omega arith in
      b ∙ ap (λ (n : ℕ). from + n) (sym a)

  dropped : drop (length slashed) (slashed ++ (10 ∷ text)) ≡ 10 ∷ text
  dropped = drop_front slashed (10 ∷ text)

  before_line : Lexed (from + length first) text ts → Lexed from (first ++ text) ts
  before_line h =
      let behind : Lexed ((from + length slashed) + 1) text ts = subst (λ (p : ℕ). Lexed p text ts) (sym places) h in
      let ended : Lexed (from + length slashed) (10 ∷ text) ts = blank_first 1 (end_front text) behind in
      subst (λ (bs : List ℕ). Lexed from bs ts) (sym bytes)
      (blank_first (length slashed) (comment_front is.rest text is.in_line)
      (subst (λ (bs : List ℕ). Lexed (from + length slashed) bs ts) (sym dropped) ended))

  behind_line : Lexed from (first ++ text) ts → Lexed (from + length first) text ts
  behind_line h =
      let whole : Lexed from (slashed ++ (10 ∷ text)) ts = subst (λ (bs : List ℕ). Lexed from bs ts) bytes h in
      let left = behind_blank (length slashed) (comment_front is.rest text is.in_line) whole in
      let ended : Lexed (from + length slashed) (10 ∷ text) ts = subst (λ (bs : List ℕ). Lexed (from + length slashed) bs ts) dropped left in
      subst (λ (p : ℕ). Lexed p text ts) places (behind_blank 1 (end_front text) ended)

further_on : (from : ℕ) (first others : List ℕ) → (from + length first) + length others ≡ from + length (first ++ others)
further_on from first others =
    let a : (from + length first) + length others ≡ from + (length first + length others) = omega arith in
    a ∙ ap (λ (n : ℕ). from + n) (sym (length-append first others))

before_comments : {comments : List ℕ} → AreCommentLines comments → (text : List ℕ) (from : ℕ) (ts : List Token) → Lexed (from + length comments) text ts → Lexed from (comments ++ text) ts
before_comments no_line text from ts h = let e : from + 0 ≡ from = omega arith in subst (λ (p : ℕ). Lexed p text ts) e h
before_comments (and_line {first} {others} is rest) text from ts h =
    subst (λ (bs : List ℕ). Lexed from bs ts) (sym (append_assoc first others text))
    (before_line first is (others ++ text) from ts
    (before_comments rest text (from + length first) ts (subst (λ (p : ℕ). Lexed p text ts) (sym (further_on from first others)) h)))

behind_comments : {comments : List ℕ} → AreCommentLines comments → (text : List ℕ) (from : ℕ) (ts : List Token) → Lexed from (comments ++ text) ts → Lexed (from + length comments) text ts
behind_comments no_line text from ts h = let e : from ≡ from + 0 = omega arith in subst (λ (p : ℕ). Lexed p text ts) e h
behind_comments (and_line {first} {others} is rest) text from ts h =
    subst (λ (p : ℕ). Lexed p text ts) (further_on from first others)
    (behind_comments rest text (from + length first) ts
    (behind_line first is (others ++ text) from ts (subst (λ (bs : List ℕ). Lexed from bs ts) (append_assoc first others text) h)))

-- a module whose tokens are read at other places
module _ (move back : ℕ → ℕ) {bs cs : List ℕ} {net : Net} (m : IsModule bs net) (lexed : Lexed 0 cs (all_moved move m.tokens))
    (returned : all_moved back (all_moved move m.tokens) ≡ m.tokens) where
  spelled_again : moved back (moved move m.file) ≡ m.file
  spelled_again = one_file returned (moved_file back (moved_file move m.spelled)) m.spelled

  faultless_too : IsFaultless (moved move m.file)
  faultless_too =
      let f = moved move m.file in
      record {
        v3 = λ p v. m.faultless.v3 (back p) (subst (λ (x : File). V3 x (back p)) spelled_again (v3_moved back f p v));
        v4 = λ p v. m.faultless.v4 (back p) (subst (λ (x : File). V4 x (back p)) spelled_again (v4_moved back f p v));
        v5 = λ p v. m.faultless.v5 (back p) (subst (λ (x : File). V5 x (back p)) spelled_again (v5_moved back f p v));
        v6 = λ p v. m.faultless.v6 (back p) (subst (λ (x : File). V6 x (back p)) spelled_again (v6_moved back f p v));
        v7 = λ p v. m.faultless.v7 (back p) (subst (λ (x : File). V7 x (back p)) spelled_again (v7_moved back f p v));
      }

  module_moved : IsModule cs net
  module_moved = record {
    tokens = all_moved move m.tokens;
    lexed = lexed;
    file = moved move m.file;
    spelled = moved_file move m.spelled;
    faultless = faultless_too;
    netlist = moved_netlist move m.file ∙ m.netlist;
  }

module _ (comments : List ℕ) (are : AreCommentLines comments) (text : List ℕ) where
  abbrev forth : ℕ → ℕ
  forth p = length comments + p

  abbrev back : ℕ → ℕ
  back p = p - length comments

  one_back : (t : Token) → moved_token back (moved_token forth t) ≡ t
  one_back t =
      let e : (length comments + t.place) - length comments ≡ t.place = omega arith in
      ap (λ (p : ℕ). let u : Token = record { place = p; kind = t.kind } in u) e

  all_back : (ts : List Token) → all_moved back (all_moved forth ts) ≡ ts
  all_back [] = refl
  all_back (t ∷ ts) = let a = one_back t in let b = all_back ts in cc

  lexed_forth : (ts : List Token) → Lexed 0 text ts → Lexed 0 (comments ++ text) (all_moved forth ts)
  lexed_forth ts h = before_comments are text 0 (all_moved forth ts) (lexed_moved forth (λ n. omega arith) h)

  lexed_back : (ts : List Token) → Lexed 0 (comments ++ text) ts → Lexed 0 text (all_moved back ts)
  lexed_back ts h = lexed_moved back (λ n. omega arith) (behind_comments are text 0 ts h)

  module_forth : (net : Net) → IsModule text net → IsModule (comments ++ text) net
  module_forth net m = module_moved forth back m (lexed_forth m.tokens m.lexed) (all_back m.tokens)

  module_back : (net : Net) → IsModule (comments ++ text) net → IsModule text net
  module_back net m =
      let lexed = lexed_back m.tokens m.lexed in
      module_moved back forth m lexed (one_lexing refl refl (lexed_forth (all_moved back m.tokens) lexed) m.lexed)

  pub module_behind_comments : (net : Net) → IsModule (comments ++ text) net ↔ IsModule text net
  module_behind_comments net = (module_back net, module_forth net)
