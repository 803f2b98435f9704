-- The canonical text of a whole design is read as that design, places aside.
use Rattle.sap_lemmas.proofs.Common.{◌≡◌, ◌+◌, ℕ, List, [], ◌∷◌, ◌++◌, length, drop, true, refl, sym, ap, ◌∙◌, arith, subst, Option, None, append_assoc, length-append, common_steps, ◌&&◌, map, and_parts, append-nil}
use Rattle.sap_walk.specs.Reached as walk
use Rattle.sap_walk.specs.Limits.{Past, passed, first_of}
use Rattle.sap_lex.specs.Lexemes.{lexeme_of}
use Rattle.sap_lex.specs.Lexing.{Reached, StandsAt, keyed, later_token, with_kind}
use Rattle.sap_text.specs.Places.{place_at}
use Rattle.sap_parse.specs.Limits.{Counts, tally, breach, breach_of_name, breach_of_role, ◌or_else◌}
use Rattle.sap_parse.specs.Stages.{Stage, IsToken, at_start}
use Rattle.sap_parse.specs.Text.{IsText}
use Rattle.sap_lex.specs.declared.limit.Limit.{Limit}
use Rattle.sap_lex.specs.declared.lexeme.Lexeme.TheVariants as l
use Rattle.sap_lex.specs.Spelling.{sign_text}
use Rattle.sap_parse.specs.declared.role.Role.TheVariants.{Plain}
use Rattle.sap_lex.specs.declared.token.Kind.TheVariants as k
use Rattle.sap_lex.specs.declared.token.Kind.{Kind}
use Rattle.sap_lex.specs.declared.token.Sign.TheVariants.{Semicolon}
use Rattle.sap_lex.specs.declared.token.Token.{Token}
use Rattle.sap_show.proofs.Lexed.{first_lexed, later_is, piece_lexed, raw, raw_is, semicolon_lexed}
use Rattle.sap_show.proofs.Pieces.{Piece, space, line, token, sign, word, bytes_of, kind_bytes, declarations, states, header, parts_of, design}
use Rattle.sap_show.proofs.PieceTexts.{design_says}
use Rattle.sap_show.proofs.PlacesAside.{places_aside}
use Rattle.sap_show.proofs.ReadBack.{Stand}
use Rattle.sap_show.proofs.ReadDesign.{design_reads}
use Rattle.sap_show.proofs.Spaced.{apart, follows, is_spelled, design_apart}
use Rattle.sap_show.proofs.Within.{Within, after, tally_is}
use Rattle.sap_show.proofs.WithinDesign.{design_within}
use Rattle.sap_show.specs.Canonical.{canonical_text}
use Rattle.sap_show.specs.Reading.{ReadsAs, IsTextOfSame, ShownAgain}
use Rattle.sap_tree.specs.Prelude.{state_node, StateList, no_state, and_state, DesignTree, is_whole, is_tree, is_within_limits, word_text}
use Rattle.sap_tree.specs.declared.syntax.Decl.{Decl}
use Rattle.sap_tree.specs.declared.version.Version.{Version}
use Rattle.sap_tree.specs.declared.syntax.Decl.TheVariants as d
use Rattle.sap_tree.specs.declared.version.Version.TheVariants as version_is
use Rattle.sap_tree.specs.declared.word.Word.TheVariants as w

abbrev pub token_at : List ℕ → ℕ → Kind → Token
token_at text n kind = record { kind = kind; place = place_at text n; from = n; to = n + length (kind_bytes kind) }

-- as it is taken, before the words of the second version are made
abbrev pub raw_at : List ℕ → ℕ → Kind → Token
raw_at text n kind = record { kind = raw kind; place = place_at text n; from = n; to = n + length (kind_bytes kind) }

-- the tokens of pieces that begin at byte n of a text
abbrev pub tokens_at : List ℕ → ℕ → List Piece → List Token
tokens_at text n [] = []
tokens_at text n (space ∷ ps) = tokens_at text (n + 1) ps
tokens_at text n (line ∷ ps) = tokens_at text (n + 1) ps
tokens_at text n (token role kind ∷ ps) = token_at text n kind ∷ tokens_at text (n + length (kind_bytes kind)) ps

abbrev pub raw_tokens_at : List ℕ → ℕ → List Piece → List Token
raw_tokens_at text n [] = []
raw_tokens_at text n (space ∷ ps) = raw_tokens_at text (n + 1) ps
raw_tokens_at text n (line ∷ ps) = raw_tokens_at text (n + 1) ps
raw_tokens_at text n (token role kind ∷ ps) = raw_at text n kind ∷ raw_tokens_at text (n + length (kind_bytes kind)) ps

further : (n : ℕ) (text a b : List ℕ) → drop n text ≡ a ++ b → drop (n + length a) text ≡ b
further n text a b e = dropped n (length a) text ∙ ap (λ z. drop (length a) z) e ∙ back_part a b where
  dropped : (n m : ℕ) (xs : List ℕ) → drop (n + m) xs ≡ drop m (drop n xs)
  dropped n m xs = grind (arith, common_steps)

  back_part : (a b : List ℕ) → drop (length a) (a ++ b) ≡ b
  back_part a b = grind (arith, common_steps)

blank_lexed : (b : ℕ) (rest : List ℕ) → (b ≡ 32) → lexeme_of (b ∷ rest) ≡ l.Blank 1
unfolding lexeme_of
blank_lexed b rest e = ap (λ c. lexeme_of (c ∷ rest)) e

line_lexed : (rest : List ℕ) → lexeme_of (10 ∷ rest) ≡ l.Blank 1
unfolding lexeme_of
line_lexed rest = refl

-- a token at byte n of a text
taken : (text : List ℕ) (n : ℕ) (ts : List Token) (kind : Kind) (ps : List Piece) → Reached text n ts → drop n text ≡ kind_bytes kind ++ bytes_of ps
    → lexeme_of (kind_bytes kind ++ bytes_of ps) ≡ l.Token (raw kind) (length (kind_bytes kind)) → Reached text (n + length (kind_bytes kind)) (ts ++ raw_at text n kind ∷ [])
taken text n ts kind ps r e is = walk.token (raw_at text n kind) (length (kind_bytes kind)) r stands where
  stands : StandsAt text n (raw_at text n kind) (length (kind_bytes kind))
  stands = record { lexeme = ap lexeme_of e ∙ is; place = refl; from = refl; to = refl }

pub reached : (version : Version) (text : List ℕ) (ps : List Piece) (n : ℕ) (ts : List Token) → Reached text n ts → drop n text ≡ bytes_of ps → apart version ps ≡ true
    → Reached text (n + length (bytes_of ps)) (ts ++ raw_tokens_at text n ps)
reached version text [] n ts r e a =
    let none : n ≡ n + 0 = omega arith in
    subst (λ m. Reached text m (ts ++ [])) none (subst (λ us. Reached text n us) (sym (append-nil ts)) r)
reached version text (space ∷ ps) n ts r e a =
    let ih = reached version text ps (n + 1) ts (walk.blank 1 r (ap lexeme_of e ∙ blank_lexed 32 (bytes_of ps) refl)) (further n text (32 ∷ []) (bytes_of ps) e) a in
    let same : (n + 1) + length (bytes_of ps) ≡ n + length (bytes_of (space ∷ ps)) = omega arith in
    subst (λ m. Reached text m (ts ++ raw_tokens_at text (n + 1) ps)) same ih
reached version text (line ∷ ps) n ts r e a =
    let ih = reached version text ps (n + 1) ts (walk.blank 1 r (ap lexeme_of e ∙ line_lexed (bytes_of ps))) (further n text (10 ∷ []) (bytes_of ps) e) a in
    let same : (n + 1) + length (bytes_of ps) ≡ n + length (bytes_of (line ∷ ps)) = omega arith in
    subst (λ m. Reached text m (ts ++ raw_tokens_at text (n + 1) ps)) same ih
reached version text (token role kind ∷ ps) n ts r e a =
    let f = and_parts (is_spelled version kind) (follows kind ps && apart version ps) a in
    let g = and_parts (follows kind ps) (apart version ps) f.1 in
    let t = raw_at text n kind in
    let len = length (kind_bytes kind) in
    let ih = reached version text ps (n + len) (ts ++ t ∷ []) (taken text n ts kind ps r e (piece_lexed version kind ps f.0 g.0 g.1))
    (further n text (kind_bytes kind) (bytes_of ps) e) g.1 in
    let same : (n + len) + length (bytes_of ps) ≡ n + length (kind_bytes kind ++ bytes_of ps) = simp length-append (omega arith) in
    subst (λ m. Reached text m (ts ++ (t ∷ raw_tokens_at text (n + len) ps))) same
    (subst (λ us. Reached text ((n + len) + length (bytes_of ps)) us) (append_assoc ts (t ∷ []) (raw_tokens_at text (n + len) ps)) ih)

-- the first line, and what stands behind it
design_reached : (version : Version) (text : List ℕ) (ps : List Piece) → text ≡ bytes_of (header version ps) → apart version ps ≡ true
    → Reached text (length (bytes_of (header version ps))) (raw_tokens_at text 0 (header version ps))
design_reached version_is.One text ps e a =
    let whole : 0 + length (bytes_of ps) ≡ length (bytes_of ps) = omega arith in
    subst (λ m. Reached text m (raw_tokens_at text 0 ps)) whole (reached version_is.One text ps 0 [] walk.start e a)
design_reached version_is.Two text ps e a =
    let one = space ∷ word Plain w.Two ∷ sign Plain Semicolon ∷ line ∷ ps in
    let two = word Plain w.Two ∷ sign Plain Semicolon ∷ line ∷ ps in
    let three = sign Plain Semicolon ∷ line ∷ ps in
    let e1 = further 0 text (word_text w.Sapper) (bytes_of one) e in
    let e2 = further 6 text (32 ∷ []) (bytes_of two) e1 in
    let e3 = further 7 text (word_text w.Two) (bytes_of three) e2 in
    let e4 = further 8 text (sign_text Semicolon) (bytes_of (line ∷ ps)) e3 in
    let e5 = further 9 text (10 ∷ []) (bytes_of ps) e4 in
    let t1 = raw_at text 0 (k.Word w.Sapper) in
    let t2 = raw_at text 7 (k.Word w.Two) in
    let t3 = raw_at text 8 (k.Sign Semicolon) in
    let r1 : Reached text 6 (t1 ∷ []) = taken text 0 [] (k.Word w.Sapper) one walk.start e (first_lexed w.Sapper one refl) in
    let r2 : Reached text 7 (t1 ∷ []) = walk.blank 1 r1 (ap lexeme_of e1 ∙ blank_lexed 32 (bytes_of two) refl) in
    let r3 : Reached text 8 (t1 ∷ t2 ∷ []) = taken text 7 (t1 ∷ []) (k.Word w.Two) three r2 e2 (first_lexed w.Two three refl) in
    let r4 : Reached text 9 (t1 ∷ t2 ∷ t3 ∷ []) = taken text 8 (t1 ∷ t2 ∷ []) (k.Sign Semicolon) (line ∷ ps) r3 e3 (semicolon_lexed (line ∷ ps)) in
    let r5 : Reached text 10 (t1 ∷ t2 ∷ t3 ∷ []) = walk.blank 1 r4 (ap lexeme_of e4 ∙ line_lexed (bytes_of ps)) in
    let whole : 10 + length (bytes_of ps) ≡ length (bytes_of (header version_is.Two ps)) = omega arith in
    subst (λ m. Reached text m (t1 ∷ t2 ∷ t3 ∷ raw_tokens_at text 10 ps)) whole (reached version_is.Two text ps 10 (t1 ∷ t2 ∷ t3 ∷ []) r5 e5 a)

-- the words that are made of them

later_tokens : (text : List ℕ) (n : ℕ) (ps : List Piece) → apart version_is.Two ps ≡ true → map later_token (raw_tokens_at text n ps) ≡ tokens_at text n ps
later_tokens text n [] a = refl
later_tokens text n (space ∷ ps) a = later_tokens text (n + 1) ps a
later_tokens text n (line ∷ ps) a = later_tokens text (n + 1) ps a
later_tokens text n (token role kind ∷ ps) a =
    let f = and_parts (is_spelled version_is.Two kind) (follows kind ps && apart version_is.Two ps) a in
    let g = and_parts (follows kind ps) (apart version_is.Two ps) f.1 in
    let len = length (kind_bytes kind) in
    ap (λ (kind' : Kind). with_kind (token_at text n kind) kind' ∷ map later_token (raw_tokens_at text (n + len) ps)) (later_is kind f.0)
    ∙ ap (λ (ts : List Token). token_at text n kind ∷ ts) (later_tokens text (n + len) ps g.1)

same_tokens : (text : List ℕ) (n : ℕ) (ps : List Piece) → apart version_is.One ps ≡ true → raw_tokens_at text n ps ≡ tokens_at text n ps
same_tokens text n [] a = refl
same_tokens text n (space ∷ ps) a = same_tokens text (n + 1) ps a
same_tokens text n (line ∷ ps) a = same_tokens text (n + 1) ps a
same_tokens text n (token role kind ∷ ps) a =
    let f = and_parts (is_spelled version_is.One kind) (follows kind ps && apart version_is.One ps) a in
    let g = and_parts (follows kind ps) (apart version_is.One ps) f.1 in
    let len = length (kind_bytes kind) in
    ap (λ (kind' : Kind). with_kind (token_at text n kind) kind' ∷ raw_tokens_at text (n + len) ps) (raw_is kind f.0)
    ∙ ap (λ (ts : List Token). token_at text n kind ∷ ts) (same_tokens text (n + len) ps g.1)

-- a design of the first version doesn't begin with the name `sapper`
first_kept : (text : List ℕ) (xs : List Decl) (ss : StateList)
    → keyed (raw_tokens_at text 0 (declarations xs (states ss 0 1 []))) ≡ raw_tokens_at text 0 (declarations xs (states ss 0 1 []))
unfolding keyed
first_kept text [] no_state = refl
first_kept text [] (and_state (state_node place n x inner children) ss) = refl
first_kept text (d.Input place n width ∷ xs) ss = refl
first_kept text (d.Register place n width x initial ∷ xs) ss = refl
first_kept text (d.Memory place n width depth x ∷ xs) ss = refl

keyed_is : (version : Version) (text : List ℕ) (xs : List Decl) (ss : StateList) → apart version (declarations xs (states ss 0 1 [])) ≡ true
    → tokens_at text 0 (header version (declarations xs (states ss 0 1 []))) ≡ keyed (raw_tokens_at text 0 (header version (declarations xs (states ss 0 1 []))))
unfolding keyed
keyed_is version_is.One text xs ss a = sym (same_tokens text 0 (declarations xs (states ss 0 1 [])) a) ∙ sym (first_kept text xs ss)
keyed_is version_is.Two text xs ss a =
    ap (λ (ts : List Token). token_at text 0 (k.Word w.Sapper) ∷ token_at text 7 (k.Word w.Two) ∷ token_at text 8 (k.Sign Semicolon) ∷ ts)
    (sym (later_tokens text 10 (declarations xs (states ss 0 1 [])) a))

pub record Standing (ps : List Piece) (p : Stage) : Type 0 where
  pub end : Stage
  pub stand : Stand ps p end
  pub whole : end.left ≡ []

pub standing : (text : List ℕ) (n : ℕ) (ps : List Piece) (p : Stage) → p.left ≡ tokens_at text n ps → Standing ps p
standing text n [] p e = record { end = p; stand = refl; whole = e }
standing text n (space ∷ ps) p e = let r = standing text (n + 1) ps p e in record { end = r.end; stand = r.stand; whole = r.whole }
standing text n (line ∷ ps) p e = let r = standing text (n + 1) ps p e in record { end = r.end; stand = r.stand; whole = r.whole }
standing text n (token role kind ∷ ps) p e =
    let t = token_at text n kind in
    let m : Stage = record { past = passed tally breach role t p.past; left = tokens_at text (n + length (kind_bytes kind)) ps } in
    let r = standing text (n + length (kind_bytes kind)) ps m refl in
    let here : IsToken p role kind m = record { token = t; left = e; past = refl; is = refl } in
    record { end = r.end; stand = (m, here, r.stand); whole = r.whole }

-- where no token breaks a limit, none has broken one at the end

first_none : (first : Option (ℕ × Limit)) (n : ℕ) (b : Option Limit) → first ≡ None → b ≡ None → first_of first n b ≡ None
first_none first n b e f = ap (λ x. first_of x n b) e ∙ ap (λ x. first_of None n x) f

kept : (ps : List Piece) (p q : Stage) → Within p.past.counts ps → p.past.first ≡ None → Stand ps p q → q.past.first ≡ None
kept [] p q a e h = ap (λ (m : Stage). m.past.first) (sym h) ∙ e
kept (space ∷ ps) p q a e h = kept ps p q a e h
kept (line ∷ ps) p q a e h = kept ps p q a e h
kept (token role kind ∷ ps) p q a e h =
    let m = h.0 in
    let i = h.1 in
    let free : breach p.past.counts role i.token ≡ None = ap (λ x. breach_of_name x or_else breach_of_role p.past.counts role) i.is ∙ a.0 in
    let counts : m.past.counts ≡ after p.past.counts role = ap (λ (x : Past Counts Limit). x.counts) i.past ∙ tally_is p.past.counts role i.token in
    let first : m.past.first ≡ None = ap (λ (x : Past Counts Limit). x.first) i.past ∙ first_none p.past.first p.past.before (breach p.past.counts role i.token) e free in
    kept ps m q (subst (λ c. Within c ps) (sym counts) a.1) first h.2

pub shown : (x : DesignTree) (text : List ℕ) → is_whole x ≡ true → text ≡ canonical_text x → ReadsAs text x
unfolding is_whole
shown x text h e =
    let tree : is_tree x ≡ true = (and_parts (is_tree x) (is_within_limits x) h).0 in
    let ps = design x in
    let bytes : text ≡ bytes_of ps = e ∙ sym (design_says x) in
    let tokens = tokens_at text 0 ps in
    let behind = design_apart x tree in
    let all : Reached text (length (bytes_of ps)) (raw_tokens_at text 0 ps) = design_reached x.version text (parts_of x) bytes behind in
    let count : length (bytes_of ps) ≡ length text = ap length (sym bytes) in
    let s = standing text 0 ps (at_start tokens) refl in
    let r = design_reads x tree (at_start tokens) s.end s.stand in
    record {
      tokens = tokens;
      lexed = record {
        found = raw_tokens_at text 0 ps;
        reached = subst (λ n. Reached text n (raw_tokens_at text 0 ps)) count all;
        keyed_are = keyed_is x.version text x.declarations x.states behind;
      };
      tree = r.tree;
      whole = record { end = s.end; design = r.read; whole = s.whole; first_is = kept ps (at_start tokens) s.end (design_within x h) refl s.stand };
      same = r.same;
    }

pub parsed_again : (x : DesignTree) (text : List ℕ) → ReadsAs text x → IsTextOfSame text x
parsed_again x text r fits = (r.tree, record { fits = fits; tokens = r.tokens; lexed = r.lexed; whole = r.whole }, r.same)

pub shown_again : ((text : List ℕ) (one other : DesignTree) → IsText text one → IsText text other → one ≡ other) → ShownAgain
shown_again one_design x tree h t =
    let a = parsed_again x (canonical_text x) (shown x (canonical_text x) h refl) t.fits in
    ap canonical_text (one_design (canonical_text x) tree a.0 t a.1) ∙ places_aside a.0 x a.2
