-- Bytes that wait, others that come behind them, and what is written of both.
use Rattle.std.proofs.Common.{◌≡◌, ℕ, ◌+◌, ◌<◌, List, [], ◌++◌, length, take, append_assoc, refl, sym, ◌∙◌, ap, ap₂, subst, inl, inr, arith, length-append}
use Rattle.std.specs.Prelude.{Option, Some, None, IfSome, option_map}
use Rattle.std.proofs.Math.Seq.{take-append-add}
use Rattle.std.proofs.lemmas.List.{append-nil, take-append-le}
use Rattle.sap_desk.specs.Desk.{Told, added, blame_at, name_if_writing}
use Rattle.sap_desk.specs.Cause.{FailsToWrite}
use Rattle.sap_desk.proofs.Steps.{added-twice, at_number-same, option_map-same, option_map-twice}
use Rattle.sap_pieces.specs.Written.{CutOff, PartWritten, Writes}

module _ (channel : ℕ) where
  -- nothing was written
  pub none_written : (a : List ℕ) (before : Option Told) → PartWritten channel a a before before
  none_written a before = record { part = []; whole = refl; told = inl (refl, refl) }

  -- a text came behind the bytes
  pub written_behind : (a b text : List ℕ) (before after : Option Told) → PartWritten channel a b before after → PartWritten channel (a ++ text) (b ++ text) before after
  written_behind a b text before after one = record {
    part = one.part;
    whole = sym (append_assoc one.part b text) ∙ ap (λ (l : List ℕ). l ++ text) one.whole;
    told = one.told;
  }

  -- a text alone, where nothing waits before it
  pub written_behind_none : (b text : List ℕ) → b ≡ [] → (mid after : Option Told) → after ≡ option_map (added channel text) mid → PartWritten channel (b ++ text) b mid after
  written_behind_none b text none mid after told = record {
    part = text;
    whole = ap (λ (l : List ℕ). text ++ l) none ∙ append-nil text ∙ ap (λ (l : List ℕ). l ++ text) (sym none);
    told = inr told;
  }

  pub cut_behind_none : (b text : List ℕ) → b ≡ [] → (mid after : Option Told) → CutOff channel text mid after → CutOff channel (b ++ text) mid after
  cut_behind_none b text none mid after cut = subst (λ (l : List ℕ). CutOff channel l mid after) (ap (λ (l : List ℕ). l ++ text) (sym none)) cut

  pub added_both : (p q : List ℕ) (before mid after : Option Told) → mid ≡ option_map (added channel p) before → after ≡ option_map (added channel q) mid
      → after ≡ option_map (added channel (p ++ q)) before
  added_both p q before mid after one two =
      two
      ∙ ap (option_map (added channel q)) one
      ∙ option_map-twice (added channel q) (added channel p) before
      ∙ option_map-same _ _ before (added-twice channel p q)

  both : (p q : List ℕ) (before mid after : Option Told) → Writes channel p before mid → Writes channel q mid after → Writes channel (p ++ q) before after
  both p q before mid after (inl (none, same)) (inl (none_either, same_still)) = inl (ap₂ ◌++◌ none none_either, same_still ∙ same)
  both p q before mid after (inl (none, same)) (inr told) =
      inr (told ∙ ap (option_map (added channel q)) same ∙ ap (λ (l : List ℕ). option_map (added channel l) before) (sym (ap (λ (l : List ℕ). l ++ q) none)))
  both p q before mid after (inr told) (inl (none, same)) =
      inr (same ∙ told ∙ ap (λ (l : List ℕ). option_map (added channel l) before) (sym (ap (λ (l : List ℕ). p ++ l) none ∙ append-nil p)))
  both p q before mid after (inr one) (inr two) = inr (added_both p q before mid after one two)

  abbrev cut_at : List ℕ → Told → Told
  cut_at part t = blame_at channel (name_if_writing (t.uses channel)) (added channel part t)

  cut_both : (p q : List ℕ) (before mid after : Option Told) → mid ≡ option_map (added channel p) before → after ≡ option_map (cut_at q) mid
      → after ≡ option_map (cut_at (p ++ q)) before
  cut_both p q before mid after one two =
      two
      ∙ ap (option_map (cut_at q)) one
      ∙ option_map-twice (cut_at q) (added channel p) before
      ∙ option_map-same _ _ before (λ t. ap (blame_at channel (name_if_writing (t.uses channel))) (added-twice channel p q t))

  -- why a write fails behind others
  fails_behind : (p q : List ℕ) (t : Told) (after : Option Told) → FailsToWrite channel q (added channel p t) after → FailsToWrite channel (p ++ q) t after
  fails_behind p q t after fails = record {
    why = elim fails.why [
      | inl shut ↦ inl shut
      | inr fills ↦
          let held : length ((added channel p t).written channel) ≡ length (t.written channel) + length p
          = ap length (at_number-same channel (t.written channel ++ p) t.written) ∙ length-append (t.written channel) p in
          inr (record {
            beyond = let b : t.room < length ((added channel p t).written channel) + length q = fills.beyond in
                omega (arith, b, held, length-append p q);
            full = fills.full;
          })
    ];
  }

  -- and of a longer text
  fails_longer : (a rest : List ℕ) (t : Told) (after : Option Told) → FailsToWrite channel a t after → FailsToWrite channel (a ++ rest) t after
  fails_longer a rest t after fails = record {
    why = elim fails.why [
      | inl shut ↦ inl shut
      | inr fills ↦ inr (record { beyond = let b : t.room < length (t.written channel) + length a = fills.beyond in omega (arith, b, length-append a rest); full = fills.full })
    ];
  }

  pub some_longer : (a rest : List ℕ) (before after : Option Told) → IfSome before (λ t. FailsToWrite channel a t after)
      → IfSome before (λ t. FailsToWrite channel (a ++ rest) t after)
  some_longer a rest None after fails = tt
  some_longer a rest (Some t) after fails = fails_longer a rest t after fails

  pub cut_longer : (a rest : List ℕ) (before after : Option Told) → CutOff channel a before after → CutOff channel (a ++ rest) before after
  cut_longer a rest before after cut = record {
    count = cut.count;
    within = omega (arith, cut.within, length-append a rest);
    told = cut.told ∙ ap (λ (l : List ℕ). option_map (cut_at l) before) (sym (take-append-le cut.count a rest cut.within));
  }

  -- the first of the bytes were written, and then more of what was left
  module _ (a b : List ℕ) (before mid : Option Told) (one : PartWritten channel a b before mid) where
    pub written_then : (c : List ℕ) (after : Option Told) → PartWritten channel b c mid after → PartWritten channel a c before after
    written_then c after two = record {
      part = one.part ++ two.part;
      whole = append_assoc one.part two.part c ∙ ap (λ (l : List ℕ). one.part ++ l) two.whole ∙ one.whole;
      told = both one.part two.part before mid after one.told two.told;
    }

    all_behind : (after : Option Told) → Writes channel one.part before mid → after ≡ option_map (added channel b) mid → after ≡ option_map (added channel a) before
    all_behind after (inl (none, same)) told =
        told ∙ ap (option_map (added channel b)) same ∙ ap (λ (l : List ℕ). option_map (added channel l) before) (sym (ap (λ (l : List ℕ). l ++ b) none) ∙ one.whole)
    all_behind after (inr written) told = added_both one.part b before mid after written told ∙ ap (λ (l : List ℕ). option_map (added channel l) before) one.whole

    pub all_then : (after : Option Told) → after ≡ option_map (added channel b) mid → after ≡ option_map (added channel a) before
    all_then after told = all_behind after one.told told

    cut_behind : (after : Option Told) → Writes channel one.part before mid → CutOff channel b mid after → CutOff channel a before after
    cut_behind after (inl (none, same)) cut =
        let same_bytes : b ≡ a = sym (ap (λ (l : List ℕ). l ++ b) none) ∙ one.whole in
        subst (λ (l : List ℕ). CutOff channel l before after) same_bytes (subst (λ (o : Option Told). CutOff channel b o after) same cut)
    cut_behind after (inr written) cut = record {
      count = length one.part + cut.count;
      within = omega (arith, cut.within, ap length one.whole, length-append one.part b);
      told =
          cut_both one.part (take cut.count b) before mid after written cut.told
          ∙ ap (λ (l : List ℕ). option_map (cut_at l) before)
          (sym (take-append-add one.part b cut.count) ∙ ap (take (length one.part + cut.count)) one.whole);
    }

    pub cut_then : (after : Option Told) → CutOff channel b mid after → CutOff channel a before after
    cut_then after cut = cut_behind after one.told cut

  fails_from : (a b part : List ℕ) (before mid after : Option Told) → part ++ b ≡ a → Writes channel part before mid → IfSome mid (λ t. FailsToWrite channel b t after)
      → IfSome before (λ t. FailsToWrite channel a t after)
  fails_from a b part None mid after whole written fails = tt
  fails_from a b part (Some t) mid after whole (inl (none, same)) fails =
      let same_bytes : b ≡ a = sym (ap (λ (l : List ℕ). l ++ b) none) ∙ whole in
      let here : FailsToWrite channel b t after = subst (λ (o : Option Told). IfSome o (λ u. FailsToWrite channel b u after)) same fails in
      subst (λ (l : List ℕ). FailsToWrite channel l t after) same_bytes here
  fails_from a b part (Some t) mid after whole (inr written) fails =
      let here : FailsToWrite channel b (added channel part t) after = subst (λ (o : Option Told). IfSome o (λ u. FailsToWrite channel b u after)) written fails in
      subst (λ (l : List ℕ). FailsToWrite channel l t after) whole (fails_behind part b t after here)

  pub fails_then : (a b : List ℕ) (before mid : Option Told) → PartWritten channel a b before mid → (after : Option Told) → IfSome mid (λ t. FailsToWrite channel b t after)
      → IfSome before (λ t. FailsToWrite channel a t after)
  fails_then a b before mid one after fails = fails_from a b one.part before mid after one.whole one.told fails

  -- a text alone was written, and another is to come
  pub first_written : (a b : List ℕ) (before mid : Option Told) → mid ≡ option_map (added channel a) before → PartWritten channel (a ++ b) b before mid
  first_written a b before mid told = record { part = a; whole = refl; told = inr told }

  -- a piece more behind what waits, of what is to come
  module _ (text waits rest piece more : List ℕ) (before mid : Option Told) (is : rest ≡ piece ++ more) (one : PartWritten channel text (waits ++ rest) before mid) where
    so_far : PartWritten channel text ((waits ++ piece) ++ more) before mid
    so_far = subst (λ (l : List ℕ). PartWritten channel text l before mid) (ap (λ (l : List ℕ). waits ++ l) is ∙ sym (append_assoc waits piece more)) one

    pub put_on : (now : List ℕ) (after : Option Told) → PartWritten channel (waits ++ piece) now mid after → PartWritten channel text (now ++ more) before after
    put_on now after two = written_then text ((waits ++ piece) ++ more) before mid so_far (now ++ more) after (written_behind (waits ++ piece) now more mid after two)

    pub cut_on : (after : Option Told) → CutOff channel (waits ++ piece) mid after → CutOff channel text before after
    cut_on after cut = cut_then text ((waits ++ piece) ++ more) before mid so_far after (cut_longer (waits ++ piece) more mid after cut)

    pub fails_on : (after : Option Told) → IfSome mid (λ t. FailsToWrite channel (waits ++ piece) t after) → IfSome before (λ t. FailsToWrite channel text t after)
    fails_on after fails = fails_then text ((waits ++ piece) ++ more) before mid so_far after (some_longer (waits ++ piece) more mid after fails)

  -- what waits, where nothing is to come
  module _ (text waits rest : List ℕ) (before mid : Option Told) (none : rest ≡ []) (one : PartWritten channel text (waits ++ rest) before mid) where
    all_waits : PartWritten channel text waits before mid
    all_waits = subst (λ (l : List ℕ). PartWritten channel text l before mid) (ap (λ (l : List ℕ). waits ++ l) none ∙ append-nil waits) one

    pub all_last : (after : Option Told) → after ≡ option_map (added channel waits) mid → after ≡ option_map (added channel text) before
    all_last after told = all_then text waits before mid all_waits after told

    pub cut_last : (after : Option Told) → CutOff channel waits mid after → CutOff channel text before after
    cut_last after cut = cut_then text waits before mid all_waits after cut

    pub fails_last : (after : Option Told) → IfSome mid (λ t. FailsToWrite channel waits t after) → IfSome before (λ t. FailsToWrite channel text t after)
    fails_last after fails = fails_then text waits before mid all_waits after fails
