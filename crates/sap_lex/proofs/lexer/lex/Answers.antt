use Rattle.sap_lemmas.proofs.Common.{◌≡◌, ◌-◌, ◌∙◌, ◌+◌, sym, ap, subst, refl, arith, length-drop, length-take, length, take, drop, take_rest}
use Rattle.sap_walk.specs.Reached.{start, blank, token}
use Rattle.sap_lex.specs.Lexemes.{lexeme_of}
use Rattle.sap_lex.specs.Lexing.{Reached, IsWithin}
use Rattle.sap_text.specs.Places.{place_at}
use Rattle.sap_lex.proofs.OneLexing.{not_bad, not_both}
use Rattle.sap_lex.proofs.Places.{advanced}
use Rattle.sap_lex.proofs.TokenTexts.{texts_are, in_order, spanned, tokens_order}
use Rattle.sap_lex.proofs.lexer.lex.Goals as goal

pub lexemes-init : goal.lexemes-init
unfolding place_at
lexemes-init c = record {
  within = omega arith;
  reached = subst (Reached c.args.text.now 0) (sym c.new-tokens.ensures.items) start;
  place = c.first-place.ensures;
  positive = rw c.first-place.ensures (omega arith);
  bound = rw c.first-place.ensures (omega arith);
}

pub lexemes-preserved-in-Blank : goal.lexemes-preserved-in-Blank
lexemes-preserved-in-Blank c =
    let same = take_rest c.args.text.now c.lexemes.n in
    let fits = subst (IsWithin (take (length c.args.text.now - c.lexemes.n) (drop c.lexemes.n c.args.text.now))) c.in-Blank.is c.in_ok-len.ensures.within in
    record {
      within = omega (arith, fits.1, ap length same, length-drop c.lexemes.n c.args.text.now);
      reached = blank c.in-Blank.len c.lexemes.invariant.reached (ap lexeme_of (sym same) ∙ sym c.in_ok-len.ensures.value ∙ c.in-Blank.is);
      place = advanced c.args.text.now c.lexemes.n c.in-Blank.len c.lexemes.invariant.place same c.after-place.ensures.value;
      positive = c.after-place.ensures.positive;
      bound = omega (arith, length-take c.in-Blank.len (take (length c.args.text.now - c.lexemes.n) (drop c.lexemes.n c.args.text.now)));
    }

pub lexemes-preserved : goal.lexemes-preserved
lexemes-preserved c =
    let same = take_rest c.args.text.now c.lexemes.n in
    let fits = subst (IsWithin (take (length c.args.text.now - c.lexemes.n) (drop c.lexemes.n c.args.text.now))) c.in-Token.is c.in_ok-len.ensures.within in
    record {
      within = omega (arith, fits.1, ap length same, length-drop c.lexemes.n c.args.text.now);
      reached = subst (Reached c.args.text.now (c.lexemes.n + c.in-Token.len)) (sym c.in_ok-push-in-Token.ensures.items)
          (token _ c.in-Token.len c.lexemes.invariant.reached (record {
            lexeme = ap lexeme_of (sym same) ∙ sym c.in_ok-len.ensures.value ∙ c.in-Token.is;
            place = c.lexemes.invariant.place;
            from = refl;
            to = refl;
          }));
      place = advanced c.args.text.now c.lexemes.n c.in-Token.len c.lexemes.invariant.place same c.after-place-in-Token.ensures.value;
      positive = c.after-place-in-Token.ensures.positive;
      bound = omega (arith, length-take c.in-Token.len (take (length c.args.text.now - c.lexemes.n) (drop c.lexemes.n c.args.text.now)));
    }

pub key-requires : goal.key-requires
key-requires c =
    spanned 0 (length c.args.text.now) c.lexemes.tokens.items (in_order c.args.text.now c.lexemes.n c.lexemes.tokens.items c.lexemes.invariant.reached c.lexemes.invariant.within)

pub returns-clause-ok : goal.returns-clause-ok
returns-clause-ok c =
    let whole : c.lexemes.n ≡ length c.args.text.now = (let within = c.lexemes.invariant.within in omega (arith, within)) in
    record {
      found = c.lexemes.tokens.items;
      reached =
          subst (λ n. Reached c.args.text.now n c.lexemes.tokens.items) whole c.lexemes.invariant.reached;
      keyed_are = c.new.ensures ∙ c.key.ensures;
    }

pub returns-clause-texts : goal.returns-clause-texts
returns-clause-texts c = texts_are c.args.text.now _ (returns-clause-ok c)

pub returns-clause-order : goal.returns-clause-order
returns-clause-order c = tokens_order c.args.text.now _ (returns-clause-ok c)

pub returns-clause-faultless : goal.returns-clause-faultless
returns-clause-faultless c = λ fault b. not_both c.args.text.now _ fault (returns-clause-ok c) b

pub returns-in-Bad-clause-refused : goal.returns-in-Bad-clause-refused
returns-in-Bad-clause-refused c =
    let same = take_rest c.args.text.now c.lexemes.n in
    λ known tokens a. not_bad c.args.text.now tokens c.lexemes.place a (record {
      at = c.lexemes.n;
      within = omega arith;
      tokens = c.lexemes.tokens.items;
      before = c.lexemes.invariant.reached;
      bad = ap lexeme_of (sym same) ∙ sym c.in_ok-len.ensures.value ∙ c.in-Bad.is;
      there = c.lexemes.invariant.place;
    })
