-- What is known of the passes.
use Rattle.sap_lemmas.proofs.Common.{◌≡◌, ℕ, List, [], ◌∷◌, ◌++◌, map, filter, Some, Bool, true, false, sym, ap, ap₂, ◌∙◌, subst, refl, length, inl, inr, cases_Bool, AllByRecursion, all_filter, all_follow, all_of_map}
use Rattle.sap_maps.specs.Prelude.{Name, Scope, find}
use Rattle.sap_net.specs.Prelude.{is_among, Net, readable_after, register_names, memory_names, first_readable, readable, shapes, IsNetlist, names_of}
use Rattle.sap_net.specs.declared.parts.Operand.{Operand}
use Rattle.sap_net.specs.declared.parts.Right.{Right}
use Rattle.sap_net.specs.declared.parts.Right.TheVariants.{Copy, One, Two, Choose, Concat, Slice, Cell}
use Rattle.sap_net.specs.declared.parts.Wire.{Wire}
use Rattle.sap_share.specs.Names.{helper}
use Rattle.sap_share.specs.Rights.{RightMap}
use Rattle.sap_fold.specs.Settled.{IsSettled, is_copy, Orderly}
use Rattle.sap_trim.specs.Names.{numbered, port_names, lasting_names, helping_wires, shown_wires}
use Rattle.sap_trim.specs.Reads.{edge_reads, IsRead, ReadsWires}
use Rattle.sap_share.specs.Differing.{AllDiffer}
use Rattle.sap_share.specs.Copying.{CopiesPorts}
use Rattle.sap_trim.specs.Trimmed.{FoldsWires, SharesWires, NamesWires, NumbersWires}
use Rattle.sap_trim.specs.Walked.{State, Begins, Folds, Settles, StandForThemselves, Walked}
use Rattle.sap_trim.specs.Folded.{IsFolded}
use Rattle.sap_trim.specs.Tidied.{SettledNet, Tidied}
use Rattle.sap_trim.specs.Needed.{MarksNeeded, marked, needed_wires}
use Rattle.sap_trim.specs.Replaced.{Stands}
use Rattle.sap_trim.specs.Built.{built, wire_of}
use Rattle.sap_fold.proofs.Lists.{none_among}
use Rattle.sap_trim.proofs.Follows.{taken_apart, begins_follow, follows_walk, settles_walk}
use Rattle.sap_trim.specs.Alike.{DeclaresAlike, RunsAlike}
use Rattle.sap_trim.proofs.Built.{Walks, built_rules, registers_named, memories_named, untaken}
use Rattle.sap_trim.proofs.Cycle.{Done, found_each, runs_alike, declares_alike}
use Rattle.sap_trim.proofs.Kept.{AgreeOn, needed_fits, needed_agree, needed_within, needed_holds, shown_needed, edge_kept}
use Rattle.sap_trim.proofs.Numbered.{Tidy, walk_tidy, begins_tidy, helping_are, shown_are}
use Rattle.sap_trim.proofs.Read.{walk_reads, all_read}
use Rattle.sap_trim.proofs.Few.{built_few, built_left}
use Rattle.sap_trim.proofs.Renaming.{settles_copy}

pub done_fold : (n : Net) (taken : Name → Bool) (s t : State) (ws : List Wire) → IsNetlist n
    → ((x : Name) → taken x ≡ is_among x (lasting_names n)) → Begins n s → ws ≡ n.wires → Walked (Folds taken) s ws t → Done n taken n.wires s t
done_fold n taken s t ws rules is b e k =
    let walked = subst (λ (xs : List Wire). Walked (Folds taken) s xs t) e k in
    let sc = first_readable n in
    let f = follows_walk taken (shapes n) sc n.wires sc s t (taken_apart n rules taken is) (begins_follow taken n rules s b) rules.assigns walked in
    record {
      walks = record {
        rules = rules;
        taken_is = is;
        follows = f.follows;
        covers = record {
          nexts = rules.nexts;
          writes = rules.writes;
          shown = all_filter (λ w. find (readable n) w.name ≡ Some w.width) (λ w. is_among w.name (port_names n)) n.wires (found_each (shapes n) n.wires sc rules.assigns);
        };
      };
      begins = b;
      fits = rules.assigns;
      within = λ x u h. h;
      holds = λ widths v h. h;
      walked = walked;
    }

pub kept_wires : (n : Net) (kept : List Bool) (ws : List Wire) → ws ≡ n.wires → MarksNeeded n kept → marked kept ws ≡ needed_wires n
kept_wires n kept ws e h = ap (λ (xs : List Wire). marked kept xs) e ∙ h.needed

pub needed_done : (n : Net) (taken : Name → Bool) (s t : State) → IsNetlist n → ((x : Name) → taken x ≡ is_among x (lasting_names n))
    → Begins n s → Walked (Settles taken) s (needed_wires n) t → Done n taken (needed_wires n) s t
needed_done n taken s t rules is b k =
    let sc = first_readable n in
    let P = port_names n in
    let E = edge_reads n in
    let ks = needed_wires n in
    let so = readable_after sc ks in
    let same : AgreeOn _ sc sc = λ x h. refl in
    let fits = needed_fits (shapes n) P E n.wires sc sc rules.assigns same (λ x h. h) in
    let walked = settles_walk taken ks s t k in
    let f = follows_walk taken (shapes n) sc ks sc s t (taken_apart n rules taken is) (begins_follow taken n rules s b) fits walked in
    let edge = edge_kept (readable n) so n.registers n.memories (needed_agree P E n.wires sc sc same) rules.nexts rules.writes in
    record {
      walks = record {
        rules = rules;
        taken_is = is;
        follows = f.follows;
        covers = record {
          nexts = edge.0;
          writes = edge.1;
          shown = shown_needed (λ w. find so w.name ≡ Some w.width) P E n.wires (found_each (shapes n) ks sc fits);
        };
      };
      begins = b;
      fits = fits;
      within = needed_within (shapes n) P E n.wires sc sc rules.assigns (λ x u h. h);
      holds = needed_holds P E n.wires;
      walked = walked;
    }

-- What is known after a walk over the wires that are needed.
pub record Dropped (n : Net) (taken : Name → Bool) (s t : State) : Type 0 where
  pub done : Done n taken (needed_wires n) s t
  pub settled : Walked (Settles taken) s (needed_wires n) t

pub done_settle : (n : Net) (taken : Name → Bool) (kept : List Bool) (s t : State) (ws : List Wire) → IsNetlist n
    → ((x : Name) → taken x ≡ is_among x (lasting_names n)) → MarksNeeded n kept → Begins n s → ws ≡ n.wires → Walked (Settles taken) s (marked kept ws) t → Dropped n taken s t
done_settle n taken kept s t ws rules is needs b e k =
    let kept = subst (λ (xs : List Wire). Walked (Settles taken) s xs t) (kept_wires n kept ws e needs) k in
    record { done = needed_done n taken s t rules is b kept; settled = kept }

no_ports : (n : Net) (taken : Name → Bool) (so : Scope) (t : State) → Walks n taken so t → AllByRecursion (λ w. is_among w.name (port_names n) ≡ false) t.wires
no_ports n taken so t k =
    all_follow (λ w. taken w.name ≡ false) (λ w. is_among w.name (port_names n) ≡ false) t.wires
    (λ w h. (none_among w.name (port_names n) (register_names n ++ memory_names n) (sym (k.taken_is w.name) ∙ h)).0)
    (all_of_map (λ x. taken x ≡ false) (λ (w : Wire). w.name) t.wires (untaken taken t.wires t.next k.follows.named))

helpers_are : (n : Net) (taken : Name → Bool) (s t : State) → Dropped n taken s t → helping_wires (built n t.wires t.stands) ≡ t.wires
helpers_are n taken s t d =
    helping_are n t.wires t.stands (no_ports n taken (readable_after (first_readable n) (needed_wires n)) t d.done.walks)

tidy : (n : Net) (taken : Name → Bool) (s t : State) → Dropped n taken s t → Tidy taken t.wires t.next
tidy n taken s t d = walk_tidy taken (needed_wires n) s t d.settled (begins_tidy taken n s d.done.begins)

pub dropped_shares : (n : Net) (taken : Name → Bool) (s t : State) → Dropped n taken s t → AllDiffer t.wires → SharesWires (built n t.wires t.stands)
dropped_shares n taken s t d a = subst AllDiffer (sym (helpers_are n taken s t d)) a

each_folds : (ws : List Wire) → AllByRecursion (λ w. is_copy w.right ≡ false) ws → AllByRecursion IsSettled ws → AllByRecursion (λ w. (is_copy w.right ≡ false) × IsSettled w) ws
each_folds [] a b = tt
each_folds (w ∷ ws) a b = ((a.0, b.0), each_folds ws a.1 b.1)

pub dropped_folds : (n : Net) (taken : Name → Bool) (s t : State) (numbers : RightMap) → Dropped n taken s t → Orderly numbers t.wires → FoldsWires (built n t.wires t.stands)
dropped_folds n taken s t numbers d o =
    subst (AllByRecursion (λ w. (is_copy w.right ≡ false) × IsSettled w)) (sym (helpers_are n taken s t d)) (each_folds t.wires o.calculated o.settled)

pub dropped_numbers : (n : Net) (taken : Name → Bool) (s t : State) → Dropped n taken s t → NumbersWires (built n t.wires t.stands)
dropped_numbers n taken s t d = λ none.
    let B = built n t.wires t.stands in
    let names : lasting_names B ≡ lasting_names n =
    ap₂ (λ (a b : List Name). port_names n ++ (a ++ b)) (registers_named t.stands n.registers) (memories_named t.stands n.memories) in
    let free : (k : ℕ) → taken (helper k) ≡ false = λ k. d.done.walks.taken_is (helper k) ∙ sym (ap (is_among (helper k)) names) ∙ none k in
    let y = tidy n taken s t d in
    subst (λ (xs : List Wire). names_of xs ≡ numbered (length xs)) (sym (helpers_are n taken s t d)) (y.named free ∙ ap numbered (sym (y.long free)))

pub dropped_names : (n : Net) (taken : Name → Bool) (s t : State) → Dropped n taken s t → NamesWires (built n t.wires t.stands)
dropped_names n taken s t d =
    subst (λ (xs : List Wire). AllByRecursion (λ w. (k : ℕ) × (w.name ≡ helper k)) xs) (sym (helpers_are n taken s t d))
    (all_follow _ (λ (w : Wire). (k : ℕ) × (w.name ≡ helper k)) t.wires (λ w h. (h.0, h.2)) d.done.walks.follows.named.each)

pub dropped_reads : (n : Net) (taken : Name → Bool) (s t : State) → Dropped n taken s t → IsFolded n → StandForThemselves n s → ReadsWires (built n t.wires t.stands)
dropped_reads n taken s t d f i =
    let sc = first_readable n in
    let copies = settles_copy n taken s t d.done.walks.rules d.done.walks.taken_is d.done.begins i f d.done.fits d.settled in
    let r = walk_reads taken (shapes n) (needed_wires n) sc s t d.done.fits copies in
    subst (λ (xs : List Wire). AllByRecursion (λ w. IsRead (built n t.wires t.stands) w.name) xs) (sym (helpers_are n taken s t d)) (all_read n sc s t d.done.begins.wires r)

-- the new netlist's wires, and copies behind them

copies_are : (e : Stands) (ws : List Wire) → AllByRecursion (λ w. is_copy w.right ≡ true) (map (wire_of e) ws)
copies_are e [] = tt
copies_are e (w ∷ ws) = (refl, copies_are e ws)

copied : (r : Right) → is_copy r ≡ true → (a : Operand) × (r ≡ Copy a)
copied (Copy a) c = (a, refl)
copied (One op a) c = absurd cc
copied (Two op a b) c = absurd cc
copied (Choose c a b) e = absurd cc
copied (Concat operands) c = absurd cc
copied (Slice x hi lo) c = absurd cc
copied (Cell m a) c = absurd cc

each_copied : (ps : List Name) (ws : List Wire) → AllByRecursion (λ w. is_copy w.right ≡ true) (filter (λ w. is_among w.name ps) ws)
    → AllByRecursion (λ w. is_among w.name ps ≡ true → (a : Operand) × (w.right ≡ Copy a)) ws
each_copied ps [] c = tt
each_copied ps (w ∷ ws) c =
    elim (cases_Bool (is_among w.name ps)) [
      | inl t ↦
          let both : AllByRecursion (λ w. is_copy w.right ≡ true) (w ∷ filter (λ w. is_among w.name ps) ws) = rw t at c in
          ((λ h. copied w.right both.0), each_copied ps ws both.1)
      | inr f ↦
          let rest : AllByRecursion (λ w. is_copy w.right ≡ true) (filter (λ w. is_among w.name ps) ws) = rw f at c in
          ((λ h. absurd cc), each_copied ps ws rest)
    ]

dropped_copies : (n : Net) (taken : Name → Bool) (s t : State) → Dropped n taken s t → CopiesPorts (built n t.wires t.stands)
dropped_copies n taken s t d =
    let small = built n t.wires t.stands in
    each_copied (port_names small) small.wires
    (subst (AllByRecursion (λ w. is_copy w.right ≡ true))
    (sym (shown_are n t.wires t.stands (no_ports n taken (readable_after (first_readable n) (needed_wires n)) t d.done.walks)))
    (copies_are t.stands (shown_wires n)))

built_folded : (n : Net) (numbers : RightMap) (t : State) → Orderly numbers t.wires → IsFolded (built n t.wires t.stands)
built_folded n numbers t o =
    record {
      helping = t.wires;
      copies = map (wire_of t.stands) (shown_wires n);
      wires = refl;
      differ = o.differ;
      settled = o.settled;
      calculated = o.calculated;
      copied = copies_are t.stands (shown_wires n);
    }

-- What is known of the netlist whose right sides are folded by what they read.
pub record Folded (n r : Net) : Type 0 where
  pub rules : IsNetlist r
  pub declares : DeclaresAlike n r
  pub same : RunsAlike n r
  pub folded : IsFolded r

pub folded_all : (n : Net) (taken : Name → Bool) (s t : State) (ws : List Wire) (r : Net) → IsNetlist n
    → ((x : Name) → taken x ≡ is_among x (lasting_names n)) → Begins n s → ws ≡ n.wires → Walked (Folds taken) s ws t → (numbers : RightMap)
    → Orderly numbers t.wires → r ≡ built n t.wires t.stands → Folded n r
folded_all n taken s t ws r rules is b e k numbers o p =
    let d = done_fold n taken s t ws rules is b e k in
    subst (Folded n) (sym p) (
    record {
      rules = built_rules n taken (readable_after (first_readable n) n.wires) t d.walks;
      declares = declares_alike n taken n.wires s t d;
      same = runs_alike n taken n.wires s t d;
      folded = built_folded n numbers t o;
    }
    )

pub tidied_all : (n : Net) (taken : Name → Bool) (kept : List Bool) (s t : State) (ws : List Wire) (r : Net) → IsNetlist n
    → ((x : Name) → taken x ≡ is_among x (lasting_names n)) → MarksNeeded n kept → Begins n s → ws ≡ n.wires
    → Walked (Settles taken) s (marked kept ws) t → (numbers : RightMap) → Orderly numbers t.wires → r ≡ built n t.wires t.stands → Tidied n s r
tidied_all n taken kept s t ws r rules is needs b e k numbers o p =
    let d = done_settle n taken kept s t ws rules is needs b e k in
    subst (Tidied n s) (sym p) (
    record {
      rules = built_rules n taken (readable_after (first_readable n) (needed_wires n)) t d.done.walks;
      declares = declares_alike n taken (needed_wires n) s t d.done;
      same = runs_alike n taken (needed_wires n) s t d.done;
      named = dropped_names n taken s t d;
      numbered = dropped_numbers n taken s t d;
      shared = dropped_shares n taken s t d o.differ;
      settled = dropped_folds n taken s t numbers d o;
      copies = dropped_copies n taken s t d;
      left = built_left n taken s t b d.settled;
      read = dropped_reads n taken s t d;
    }
    )

pub settled_all : (n : Net) (taken : Name → Bool) (s t : State) (ws : List Wire) (r : Net) → IsNetlist n
    → ((x : Name) → taken x ≡ is_among x (lasting_names n)) → Begins n s → ws ≡ n.wires → Walked (Settles taken) s ws t
    → (numbers : RightMap) → Orderly numbers t.wires → r ≡ built n t.wires t.stands → SettledNet n r
settled_all n taken s t ws r rules is b e k numbers o p =
    let d = done_fold n taken s t ws rules is b e (settles_walk taken ws s t k) in
    let all = subst (λ (xs : List Wire). Walked (Settles taken) s xs t) e k in
    let so = readable_after (first_readable n) n.wires in
    subst (SettledNet n) (sym p) (
    record {
      rules = built_rules n taken so t d.walks;
      declares = declares_alike n taken n.wires s t d;
      same = runs_alike n taken n.wires s t d;
      folded = built_folded n numbers t o;
      few = built_few n taken s t b all (no_ports n taken so t d.walks);
    }
    )
