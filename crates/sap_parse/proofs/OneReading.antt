-- The read fault of a text is where the walk stops, and a text has one reading.
use Rattle.std.proofs.Common.{◌≡◌, ◌≢◌, ◌≤◌, ◌+◌, ℕ, List, [], ◌∷◌, length, Option, Some, None, true, Result, Ok, Err, IfOk, IfErr, refl, sym, ap, subst, ◌∙◌, arith}
use Rattle.sap_parse.specs.Fault.{IsDesign, IsUnexpected, IsOver, SpellsSome}
use Rattle.sap_parse.specs.Grammar.{Design}
use Rattle.sap_lex.specs.Lexing.{AreTokens, IsLexFault}
use Rattle.sap_parse.specs.Limits.{Counts, most_bytes}
use Rattle.sap_parse.specs.Reading.{Goes, Outcome, leniently, read_by, reads, strictly}
use Rattle.sap_lex.specs.Spelled.{AreInOrder}
use Rattle.sap_parse.specs.Stages.{Stage, at_start}
use Rattle.sap_parse.specs.Table as s
use Rattle.sap_parse.specs.Table.{grammar}
use Rattle.sap_parse.specs.Text.{IsText, IsReadFault, too_long, no_token, unexpected, over, fault_place}
use Rattle.sap_parse.specs.declared.cursor.Fault.TheVariants as h
use Rattle.sap_parse.specs.declared.cursor.Fault.{Fault}
use Rattle.sap_lex.specs.declared.fault.ReadFault.TheVariants as f
use Rattle.sap_lex.specs.declared.fault.ReadFault.{ReadFault}
use Rattle.sap_lex.specs.declared.limit.Limit.{Limit}
use Rattle.sap_lex.specs.declared.token.Token.{Token}
use Rattle.sap_tree.specs.Prelude.{DesignTree, is_whole}
use Rattle.sap_text.specs.declared.place.Place.{Place}
use Rattle.sap_parse.proofs.CompleteDesign.{design_reads}
use Rattle.sap_parse.proofs.FitsDesign.{design_is_whole}
use Rattle.sap_lex.proofs.TokenTexts.{texts_are, tokens_order}
use Rattle.sap_lex.proofs.OneLexing.{one_list, one_place, not_bad}
use Rattle.sap_parse.proofs.UniqueDesign.{design_one}
use Rattle.sap_parse.proofs.Viable.{goes_on}
use Rattle.sap_walk.specs.Limits.{Past}
use Rattle.sap_walk.specs.Walk.{Halt, at_token, at_limit}
use Rattle.sap_walk.proofs.Prefixes as prefix

-- the walk and the grammar

reading : prefix.Reading grammar s.design (at_start []).past SpellsSome
unfolding read_by leniently
reading = record {
  fresh = refl;
  before = refl;
  complete = λ ts first h. (h.1.end.past, design_reads h.1.design h.1.whole ∙ ap (λ l. Ok (record { past = h.1.end.past; left = l })) h.1.whole, h.1.first_is);
  goes_on = goes_on;
}

unexpected_there : (ts : List Token) (p : Stage) → reads s.design (at_start ts) ≡ Err (at_token p) → IsUnexpected ts p.left
unfolding read_by strictly
unexpected_there ts p e = prefix.unexpected grammar s.design (at_start []).past SpellsSome reading ts p e

over_there : (ts : List Token) (p : Stage) (limit : Limit) → reads s.design (at_start ts) ≡ Err (at_limit limit p) → IsOver ts p.left limit
unfolding read_by strictly
over_there ts p limit e = prefix.is_over grammar s.design (at_start []).past SpellsSome reading ts p limit e

reads_design : (ts : List Token) (d : DesignTree) → IsDesign ts d → (last : Past Counts Limit) × (reads s.design (at_start ts) ≡ Ok (record { past = last; left = [] }))
unfolding read_by strictly
reads_design ts d h = prefix.whole_ok grammar s.design (at_start []).past SpellsSome reading ts (d, h)

stops_over : (ts left : List Token) (limit : Limit) → IsOver ts left limit
    → (kept : Past Counts Limit) × (reads s.design (at_start ts) ≡ Err (at_limit limit (record { past = kept; left = left })))
unfolding read_by strictly
stops_over ts left limit h = prefix.over_stops grammar s.design (at_start []).past SpellsSome reading ts left limit h

-- what the reader answers is the read fault

ok_or_err : {p : Stage} {h : Halt Stage Limit} {o : Outcome} → o ≡ Ok p → o ≡ Err h → ⊥
ok_or_err e f = cc

token_or_limit : {p q : Stage} {limit : Limit} {o : Outcome} → o ≡ Err (at_token p) → o ≡ Err (at_limit limit q) → ⊥
token_or_limit e f = cc

pub fault_unexpected : (text : List ℕ) (ts : List Token) (p : Stage) → length text ≤ most_bytes → AreTokens text ts → reads s.design (at_start ts) ≡ Err (at_token p)
    → IsReadFault text (f.E2 (fault_place text p.left))
fault_unexpected text ts p fits lexed e = unexpected fits lexed (unexpected_there ts p e) (λ rest limit o. token_or_limit e (stops_over ts rest limit o).1)

pub fault_over : (text : List ℕ) (ts : List Token) (p : Stage) (limit : Limit) → length text ≤ most_bytes → AreTokens text ts
    → reads s.design (at_start ts) ≡ Err (at_limit limit p)
    → IsReadFault text (f.E18 (fault_place text p.left) limit)
fault_over text ts p limit fits lexed e = over fits lexed (over_there ts p limit e)

pub fault_lexed : (text : List ℕ) (e : ReadFault) → length text ≤ most_bytes → (e ≢ f.Memory → IsLexFault text e) → e ≢ f.Memory → IsReadFault text e
fault_lexed text (f.E1 place) fits h known = no_token fits (h known)
fault_lexed text (f.E2 place) fits h known = absurd (h known)
fault_lexed text (f.E18 place limit) fits h known = absurd (h known)
fault_lexed text f.Memory fits h known = absurd (known refl)

pub text_is : (text : List ℕ) (ts : List Token) (p q : Stage) (x : DesignTree) → length text ≤ most_bytes → AreTokens text ts → p ≡ at_start ts → Design p x q → q.left ≡ []
    → q.past.first ≡ None → IsText text x
text_is text ts p q x fits lexed start spelled whole first = record {
  fits = fits;
  tokens = ts;
  lexed = lexed;
  whole = record { end = q; design = subst (λ (p : Stage). Design p x q) start spelled; whole = whole; first_is = first };
}

-- a token has a byte at least
pub few_tokens : (from to : ℕ) (ts : List Token) → AreInOrder from to ts → from + length ts ≤ to
few_tokens from to [] o = omega arith
few_tokens from to (t ∷ ts) o = let a = o.0 in let b = o.1 in let more = few_tokens t.to to ts o.2 in omega arith

pub text_whole : (text : List ℕ) (x : DesignTree) → IsText text x → is_whole x ≡ true
text_whole text x t =
    let few = few_tokens 0 (length text) t.tokens (tokens_order text t.tokens t.lexed) in
    let fits = t.fits in
    design_is_whole text t.tokens x (omega (arith, few, fits)) (texts_are text t.tokens t.lexed) t.whole

pub fault_at_token : {A : Type 0} (text : List ℕ) (ts : List Token) (p q : Stage) (place : Place) (r : Result A Fault)
    → length text ≤ most_bytes → AreTokens text ts → p ≡ at_start ts
    → Goes s.design p r q → r ≡ Err h.Token → place ≡ fault_place text q.left → IsReadFault text (f.E2 place)
fault_at_token text ts p q place r fits lexed start goes is there =
    let stops : reads s.design p ≡ Err (at_token q) = subst (λ r. Goes s.design p r q) is goes in
    subst (λ l. IsReadFault text (f.E2 l)) (sym there) (fault_unexpected text ts q fits lexed (ap (reads s.design) (sym start) ∙ stops))

pub fault_at_limit : {A : Type 0} (text : List ℕ) (ts : List Token) (p q : Stage) (place : Place) (limit : Limit) (r : Result A Fault)
    → length text ≤ most_bytes → AreTokens text ts
    → p ≡ at_start ts → Goes s.design p r q → r ≡ Err (h.Limit limit) → place ≡ fault_place text q.left → IsReadFault text (f.E18 place limit)
fault_at_limit text ts p q place limit r fits lexed start goes is there =
    let stops : reads s.design p ≡ Err (at_limit limit q) = subst (λ r. Goes s.design p r q) is goes in
    subst (λ l. IsReadFault text (f.E18 l limit)) (sym there) (fault_over text ts q limit fits lexed (ap (reads s.design) (sym start) ∙ stops))

pub in_err : {A : Type 0} (P : ReadFault → Type 0) (r : Result A ReadFault) (e : ReadFault) → r ≡ Err e → P e → IfErr r P
in_err P r e is h = subst (λ r. IfErr r P) (sym is) h

pub no_ok : {A : Type 0} (P : A → Type 0) (r : Result A ReadFault) (e : ReadFault) → r ≡ Err e → IfOk r P
no_ok P r e is = subst (λ r. IfOk r P) (sym is) tt

-- a text has one reading

abbrev stop_in : Outcome → Option (Limit × List Token)
stop_in (Ok p) = None
stop_in (Err (at_token p)) = None
stop_in (Err (at_limit limit p)) = Some (limit, p.left)

same_stop : {x y : Limit × List Token} → Some x ≡ Some y → x ≡ y
same_stop e = cc

one_over : (text : List ℕ) (ts left left' : List Token) (limit limit' : Limit) → IsOver ts left limit → IsOver ts left' limit'
    → f.E18 (fault_place text left) limit ≡ f.E18 (fault_place text left') limit'
one_over text ts left left' limit limit' a b =
    ap (λ (x : Limit × List Token). f.E18 (fault_place text x.1) x.0) (same_stop (sym (ap stop_in (stops_over ts left limit a).1) ∙ ap stop_in (stops_over ts left' limit' b).1))

pub one_design : (text : List ℕ) (one other : DesignTree) → IsText text one → IsText text other → one ≡ other
one_design text one other a b = design_one (ap at_start (one_list text a.tokens b.tokens a.lexed b.lexed)) a.whole.design b.whole.design a.whole.whole b.whole.whole

pub not_both : (text : List ℕ) (design : DesignTree) (fault : ReadFault) → IsText text design → IsReadFault text fault → ⊥
not_both text design fault a (too_long h) = let fits = a.fits in omega arith
not_both text design fault a (no_token {place} h b) = not_bad text a.tokens place a.lexed b
not_both text design fault a (unexpected {tokens} {left} h lexed u never) =
    prefix.unexpected_not_whole SpellsSome a.tokens left (subst (λ ts. IsUnexpected ts left) (one_list text tokens a.tokens lexed a.lexed) u) (None, (design, a.whole))
not_both text design fault a (over {tokens} {left} {limit} h lexed o) =
    ok_or_err (reads_design a.tokens design a.whole).1 (stops_over a.tokens left limit (subst (λ ts. IsOver ts left limit) (one_list text tokens a.tokens lexed a.lexed) o)).1

pub one_fault : (text : List ℕ) (one other : ReadFault) → IsReadFault text one → IsReadFault text other → one ≡ other
one_fault text one other (too_long h) (too_long h') = refl
one_fault text one other (too_long h) (no_token h' b) = absurd (omega arith)
one_fault text one other (too_long h) (unexpected h' lexed u never) = absurd (omega arith)
one_fault text one other (too_long h) (over h' lexed o) = absurd (omega arith)
one_fault text one other (no_token h b) (too_long h') = absurd (omega arith)
one_fault text one other (no_token {place} h b) (no_token {place = place'} h' b') = ap (λ p. f.E1 p) (one_place text place place' b b')
one_fault text one other (no_token {place} h b) (unexpected {tokens} h' lexed u never) = absurd (not_bad text tokens place lexed b)
one_fault text one other (no_token {place} h b) (over {tokens} h' lexed o) = absurd (not_bad text tokens place lexed b)
one_fault text one other (unexpected h lexed u never) (too_long h') = absurd (omega arith)
one_fault text one other (unexpected {tokens} h lexed u never) (no_token {place} h' b) = absurd (not_bad text tokens place lexed b)
one_fault text one other (unexpected {tokens} {left} h lexed u never) (unexpected {tokens = tokens'} {left = left'} h' lexed' u' never') =
    ap (λ l. f.E2 (fault_place text l))
    (prefix.unexpected_one SpellsSome tokens left left' u (subst (λ ts. IsUnexpected ts left') (one_list text tokens' tokens lexed' lexed) u'))
one_fault text one other (unexpected {tokens} h lexed u never) (over {tokens = tokens'} {left} {limit} h' lexed' o) =
    absurd (never left limit (subst (λ ts. IsOver ts left limit) (one_list text tokens' tokens lexed' lexed) o))
one_fault text one other (over h lexed o) (too_long h') = absurd (omega arith)
one_fault text one other (over {tokens} h lexed o) (no_token {place} h' b) = absurd (not_bad text tokens place lexed b)
one_fault text one other (over {tokens} {left} {limit} h lexed o) (unexpected {tokens = tokens'} h' lexed' u never) =
    absurd (never left limit (subst (λ ts. IsOver ts left limit) (one_list text tokens tokens' lexed lexed') o))
one_fault text one other (over {tokens} {left} {limit} h lexed o) (over {tokens = tokens'} {left = left'} {limit = limit'} h' lexed' o') =
    one_over text tokens left left' limit limit' o (subst (λ ts. IsOver ts left' limit') (one_list text tokens' tokens lexed' lexed) o')
