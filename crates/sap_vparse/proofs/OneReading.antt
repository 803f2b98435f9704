-- The read fault of a text is where the walk stops, and a text has one reading.
use Rattle.sap_lemmas.proofs.Common.{◌≡◌, ◌+◌, ℕ, List, [], ◌∷◌, ◌++◌, length, drop, None, Result, Ok, Err, IfOk, IfErr, refl, sym, ap, subst, ◌∙◌, append_assoc, arith, append-nil}
use Rattle.sap_vtext.proofs.LexingLemmas.{front_at_end}
use Rattle.sap_vtext.specs.Grammar.{IsFile}
use Rattle.sap_vtext.specs.Items.{File}
use Rattle.sap_vtext.specs.Lexing.{Lexed, front, token}
use Rattle.sap_vtext.specs.Lexing as x
use Rattle.sap_vtext.specs.Tokens.{Token}
use Rattle.sap_vtext.proofs.OneFile.{one_file}
use Rattle.sap_vtext.proofs.OneLexing.{one_lexing}
use Rattle.sap_vlex.specs.Lexing.{IsBadAt, IsLexFault, blank_first, here, token_first}
use Rattle.sap_vparse.specs.Reading.{Goes, Outcome, plain, reads}
use Rattle.sap_vparse.specs.Table as s
use Rattle.sap_vparse.specs.Table.{Symbol, grammar}
use Rattle.sap_vparse.specs.Text.{IsReadFault, IsText, IsUnexpected, SpellsSome, fault_place, no_token, unexpected}
use Rattle.sap_vparse.specs.declared.cursor.Fault.TheVariants as h
use Rattle.sap_vparse.specs.declared.cursor.Fault.{Fault}
use Rattle.sap_vlex.specs.declared.fault.ReadFault.TheVariants as f
use Rattle.sap_vlex.specs.declared.fault.ReadFault.{ReadFault}
use Rattle.sap_vparse.proofs.Complete.{file_reads}
use Rattle.sap_vparse.proofs.Viable.{goes_on}
use Rattle.sap_walk.specs.Prefix as p
use Rattle.sap_walk.specs.Walk as walk
use Rattle.sap_walk.specs.Walk.{Point, at_token, at_limit}
use Rattle.sap_walk.proofs.Prefixes as prefix
use Rattle.sap_walk.proofs.Running.{Halts, Runs, Stops, too_short, refuses, refused_there, walk_halts}

-- the walk and the grammar

whole_reads : (ts : List Token) → p.IsWhole SpellsSome ts → reads s.file ts ≡ Ok []
whole_reads ts w = file_reads w.1.1 refl

apart : {A E : Type 0} {a : A} {e : E} (o : Result A E) → o ≡ Ok a → o ≡ Err e → ⊥
apart o f g = cc

begins : {front : List Token} {q : Unit {0}} {σ : List Symbol} → Runs grammar front tt (s.file ∷ []) q σ → p.Begins SpellsSome front
begins h = let g = goes_on h in (g.0, (None, (g.1, g.2)))

refused_reads : {front : List Token} {q : Unit {0}} {σ : List Symbol} {y : Token} → Runs grammar front tt (s.file ∷ []) q σ → walk.settle grammar y q σ ≡ walk.rejected
    → (ts : List Token) → reads s.file (front ++ y ∷ ts) ≡ Err (y ∷ ts)
unfolding reads walk.read
refused_reads runs never ts = ap plain (refused_there grammar runs never ts)

there : (ts left : List Token) (e : reads s.file ts ≡ Err left) (q : Point grammar) → Halts grammar ts tt (s.file ∷ []) (at_token q) → q.left ≡ left → IsUnexpected ts left
there ts left e q halts same = by_stops halts.front halts.kept halts.to_come halts.runs q halts.parts halts.stops same where
  by_stops : (front : List Token) (k : Unit {0}) (σ : List Symbol) → Runs grammar front tt (s.file ∷ []) k σ → (q : Point grammar) → ts ≡ front ++ q.left
      → Stops grammar k σ (at_token q) → q.left ≡ left → IsUnexpected ts left
  by_stops front k σ runs q parts (too_short short) same =
      let whole = parts ∙ append-nil front in
      subst (IsUnexpected ts) same
      (p.end (subst (p.Begins SpellsSome) (sym whole) (begins runs)) (λ w. apart (reads s.file ts) (whole_reads ts w) e))
  by_stops front k σ runs q parts (refuses y rest never) same =
      subst (IsUnexpected ts) same
      (p.token front parts (begins runs)
      (λ b. apart (reads s.file ((front ++ y ∷ []) ++ b.0)) (whole_reads ((front ++ y ∷ []) ++ b.0) b.1)
      (ap (reads s.file) (append_assoc front (y ∷ []) b.0) ∙ refused_reads runs never b.0)))

unexpected_there : (ts left : List Token) → reads s.file ts ≡ Err left → IsUnexpected ts left
unfolding reads walk.read
unexpected_there ts left e = by_outcome (walk.walk grammar ts tt (s.file ∷ [])) refl e where
  same_left : {a b : List Token} → ◌≡◌ {A = Outcome} (Err a) (Err b) → a ≡ b
  same_left e = cc

  by_outcome : (o : walk.Outcome grammar) → walk.walk grammar ts tt (s.file ∷ []) ≡ o → plain o ≡ Err left → IsUnexpected ts left
  by_outcome (Ok q) w e = absurd (cc)
  by_outcome (Err (at_token q)) w e' = there ts left e q (walk_halts grammar ts tt (s.file ∷ []) (at_token q) w) (same_left e')
  by_outcome (Err (at_limit limit q)) w e = absurd limit

-- what the reader answers

pub fault_lexed : (text : List ℕ) (e : ReadFault) → IsLexFault text e → IsReadFault text e
fault_lexed text (f.V1 place) h = no_token h
fault_lexed text (f.V2 place) h = absurd h
fault_lexed text f.Memory h = absurd h

pub fault_at_token : {A : Type 0} (text : List ℕ) (ts start left : List Token) (place : ℕ) (r : Result A Fault) → Lexed 0 text ts → start ≡ ts
    → Goes s.file start r left → r ≡ Err h.Token → place ≡ fault_place text left → IsReadFault text (f.V2 place)
fault_at_token text ts start left place r lexed begin goes is at =
    let stops : reads s.file start ≡ Err left = subst (λ r. Goes s.file start r left) is goes (λ memory. cc) in
    subst (λ n. IsReadFault text (f.V2 n)) (sym at) (unexpected lexed (unexpected_there ts left (ap (reads s.file) (sym begin) ∙ stops)))

pub text_is : (text : List ℕ) (ts start left : List Token) (x : File) → Lexed 0 text ts → start ≡ ts → IsFile start x left → left ≡ [] → IsText text x
text_is text ts start left x lexed begin spelled whole = record {
  tokens = ts;
  lexed = lexed;
  spelled = subst (λ (q : List Token). IsFile q x []) begin (subst (λ (q : List Token). IsFile start x q) whole spelled);
}

-- a text has one list of tokens, or one first byte at which none begins

not_bad : {from m place : ℕ} {bs cs : List ℕ} {ts : List Token} → bs ≡ cs → Lexed from bs ts → IsBadAt m cs place → ⊥
not_bad q x.end (here full stands) = let e = ap length q in omega arith
not_bad q x.end (blank_first len stands rest) = let e = ap front q in let g = front_at_end in cc
not_bad q x.end (token_first kind len stands rest) = let e = ap front q in let g = front_at_end in cc
not_bad q (x.blank_first len is rest) (here full stands) = let e = ap front q in cc
not_bad q (x.token_first kind len is rest) (here full stands) = let e = ap front q in cc
not_bad q (x.blank_first len is rest) (token_first kind len' stands rest') = let e = ap front q in cc
not_bad q (x.token_first kind len is rest) (blank_first len' stands rest') = let e = ap front q in cc
not_bad {bs = bs} {cs} q (x.blank_first len is rest) (blank_first len' stands rest') =
    let e = ap front q in
    let same : len ≡ len' = cc in
    not_bad (ap (λ z. drop len z) q ∙ ap (λ n. drop n cs) same) rest rest'
not_bad {bs = bs} {cs} q (x.token_first kind len is rest) (token_first kind' len' stands rest') =
    let e = ap front q in
    let same : len ≡ len' = cc in
    not_bad (ap (λ z. drop len z) q ∙ ap (λ n. drop n cs) same) rest rest'

one_bad : {from m one other : ℕ} {bs cs : List ℕ} → from ≡ m → bs ≡ cs → IsBadAt from bs one → IsBadAt m cs other → one ≡ other
one_bad o q (here full stands) (here full' stands') = o
one_bad o q (here full stands) (blank_first len stands' rest) = let e = ap front q in absurd (cc)
one_bad o q (here full stands) (token_first kind len stands' rest) = let e = ap front q in absurd (cc)
one_bad o q (blank_first len stands rest) (here full' stands') = let e = ap front q in absurd (cc)
one_bad o q (token_first kind len stands rest) (here full' stands') = let e = ap front q in absurd (cc)
one_bad o q (blank_first len stands rest) (token_first kind len' stands' rest') = let e = ap front q in absurd (cc)
one_bad o q (token_first kind len stands rest) (blank_first len' stands' rest') = let e = ap front q in absurd (cc)
one_bad {m = m} {cs = cs} o q (blank_first len stands rest) (blank_first len' stands' rest') =
    let e = ap front q in
    let same : len ≡ len' = cc in
    one_bad (ap (λ n. n + len) o ∙ ap (λ n. m + n) same) (ap (λ z. drop len z) q ∙ ap (λ n. drop n cs) same) rest rest'
one_bad {m = m} {cs = cs} o q (token_first kind len stands rest) (token_first kind' len' stands' rest') =
    let e = ap front q in
    let same : len ≡ len' = cc in
    one_bad (ap (λ n. n + len) o ∙ ap (λ n. m + n) same) (ap (λ z. drop len z) q ∙ ap (λ n. drop n cs) same) rest rest'

-- a text has one reading

pub one_text : (text : List ℕ) (one other : File) → IsText text one → IsText text other → one ≡ other
one_text text one other a b = one_file (one_lexing refl refl a.lexed b.lexed) a.spelled b.spelled

pub not_both : (text : List ℕ) (file : File) (fault : ReadFault) → IsText text file → IsReadFault text fault → ⊥
not_both text file fault a (no_token b) = not_bad refl a.lexed b
not_both text file fault a (unexpected {tokens} {left} lexed u) =
    prefix.unexpected_not_whole SpellsSome a.tokens left (subst (λ ts. IsUnexpected ts left) (one_lexing refl refl lexed a.lexed) u) (None, (file, a.spelled))

pub one_fault : (text : List ℕ) (one other : ReadFault) → IsReadFault text one → IsReadFault text other → one ≡ other
one_fault text one other (no_token b) (no_token b') = ap f.V1 (one_bad refl refl b b')
one_fault text one other (no_token b) (unexpected lexed u) = absurd (not_bad refl lexed b)
one_fault text one other (unexpected lexed u) (no_token b) = absurd (not_bad refl lexed b)
one_fault text one other (unexpected {tokens} {left} lexed u) (unexpected {tokens = tokens'} {left = left'} lexed' u') =
    ap (λ l. f.V2 (fault_place text l)) (prefix.unexpected_one SpellsSome tokens left left' u (subst (λ ts. IsUnexpected ts left') (one_lexing refl refl lexed' lexed) u'))

pub in_err : {A : Type 0} (P : ReadFault → Type 0) (r : Result A ReadFault) (e : ReadFault) → r ≡ Err e → P e → IfErr r P
in_err P r e is g = subst (λ r. IfErr r P) (sym is) g

pub no_ok : {A : Type 0} (P : A → Type 0) (r : Result A ReadFault) (e : ReadFault) → r ≡ Err e → IfOk r P
no_ok P r e is = subst (λ r. IfOk r P) (sym is) tt
