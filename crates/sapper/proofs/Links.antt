-- The clause of `link` follows from what it asks.
use Rattle.sap_lemmas.proofs.Common.{◌≡◌, ◌≢◌, ◌⊎◌, ℕ, List, [], ◌∷◌, ◌++◌, refl, sym, ◌∙◌, ap, subst, inr, arith, Option, Some, None, IfSome, AllZip}
use Rattle.sap_desk.specs.Desk.{Told}
use Rattle.sap_desk.specs.Whole.{Between, Gained}
use Rattle.sap_desk.proofs.Steps.{at_name-same}
use Rattle.sap_lattice.specs.Levels.{Levels}
use Rattle.sap_tree.specs.Syntax.{DesignTree}
use Rattle.sap_system.specs.Listing.{Listing}
use Rattle.sap_system.specs.SystemFile.{IsSystemOfFile}
use Rattle.sap_system.specs.Wires.{FirstLinkFault, KeepsWires}
use Rattle.sap_system.specs.declared.file.Part.{Part}
use Rattle.sap_system.specs.declared.file.WireText.{WireText}
use Rattle.sap_system.specs.declared.link_fault.LinkFault.{LinkFault}
use Rattle.sap_system.proofs.LinkAnswered.{none_where_kept}
use Rattle.sap_linked.specs.Designs.{NamedDesign}
use Rattle.sap_linker.specs.Given.{surroundings}
use Rattle.sap_words.specs.Words.{Words, link}
use Rattle.sap_files.specs.Prelude.{Ending, Refusal, done, refused, wires_refused, status_of, line_of, Has, IsLatticeFile, IsWellFormedText, lattice_file, Asks, file, Cause, Files, Leaves, Written}
use Rattle.sap_files.proofs.Lattices.{lattice_lawful}
use Rattle.sap_files.proofs.Modules.{one_module}
use Rattle.sap_files.specs.Kinds.{part_file, system_file}
use Rattle.sap_commands.specs.Link.{IsLinkedText, asks_parts, asks_wired}
use Rattle.sap_files.proofs.Systems.{part_lawful, system_lawful}
use Rattle.sap_commands.specs.Commands.{asks, asks_for, asks_if}
use Rattle.sap_commands.proofs.CommandLaws.{one_cause_lem}
use Rattle.sapper.specs.Answers.{Answers}
use Rattle.sapper.specs.Exact.{Exact}
use Rattle.sapper.specs.Links.{AreForLink, HasDesign, HasNoDesign, Links, MeansSystem}
use Rattle.sapper.proofs.Headline.{by_cause, done_alone}
use Rattle.sapper.proofs.Waves.{past_file, refused_at, zero_of}

means : (ls : Levels) (designs : List NamedDesign) (wires : List WireText) (text : List ℕ) → IsLinkedText ls designs wires text → MeansSystem ls designs wires text
means ls designs wires text (net, is, linked, small, explained) = record {
  net = net;
  is_module = is;
  no_other = λ other other_is. one_module text other net other_is is;
  wires = linked.wires;
  of_texts = linked.of_texts;
  stands = linked.is_module.stands.stands;
  starts = linked.is_module.stands.starts;
  one_run = linked.is_module.one_run;
  composites = linked.is_module.composites;
  agree = linked.is_module.agree;
  look_alike = linked.is_module.look_alike;
}

-- ---- a cause, part by part

abbrev under : Part → DesignTree → NamedDesign
under p d = record { name = p.name; design = d }

-- what is asked behind the file of a part
abbrev pub behind_part : Levels → Part → List Part → (List NamedDesign → Asks) → DesignTree → Asks
behind_part ls p ps rest d = asks_parts ls ps (λ designs. rest (under p d ∷ designs))

module _ (t : Told) (ls : Levels) where
  pub as_part : (p : Part) (d : NamedDesign) → HasDesign ls t p d → Has t p.file (IsWellFormedText ls) d.design
  as_part p d is = record { bytes = is.has.bytes; file = is.has.file; stands = is.has.stands }

  as_design : (p : Part) (d : DesignTree) → Has t p.file (IsWellFormedText ls) d → HasDesign ls t p (under p d)
  as_design p d has = record { name = refl; has = record { bytes = has.bytes; file = has.file; stands = has.stands } }

  -- a design that has the part's name is one under it
  pub renamed : (P : NamedDesign → Type 0) (p : Part) (d : NamedDesign) → d.name ≡ p.name → P (under p d.design) → P d
  renamed P p d is = subst (λ (name : List ℕ). P (record { name = name; design = d.design })) (sym is)

  named_by : (P : NamedDesign → Type 0) (p : Part) (d : NamedDesign) → d.name ≡ p.name → P d → P (under p d.design)
  named_by P p d is = subst (λ (name : List ℕ). P (record { name = name; design = d.design })) is

  -- behind the file of a part that has a design
  past_part : (p : Part) (ps : List Part) (rest : List NamedDesign → Asks) (e : Ending) (d : NamedDesign) → HasDesign ls t p d → Cause (asks_parts ls (p ∷ ps) rest) t e
      → Cause (behind_part ls p ps rest d.design) t e
  past_part p ps rest e d is cause = past_file t p.file (part_file ls p.name) (behind_part ls p ps rest) e (part_lawful ls p.name) d.design (as_part p d is) cause

  past_parts : (parts : List Part) (designs : List NamedDesign) (rest : List NamedDesign → Asks) (e : Ending) → AllZip (HasDesign ls t) parts designs
      → Cause (asks_parts ls parts rest) t e → Cause (rest designs) t e
  past_parts [] [] rest e have cause = cause
  past_parts [] (d ∷ ds) rest e have cause = absurd have
  past_parts (p ∷ ps) [] rest e have cause = absurd have
  past_parts (p ∷ ps) (d ∷ ds) rest e have cause =
      renamed (λ (x : NamedDesign). Cause (rest (x ∷ ds)) t e) p d have.0.name
      (past_parts ps ds (λ designs. rest (under p d.design ∷ designs)) e have.1 (past_part p ps rest e d have.0 cause))

  -- at the file of a part that is no design that is well formed
  at_part : (before behind : List Part) (p : Part) (designs : List NamedDesign) (rest : List NamedDesign → Asks) (e : Ending) (source : List ℕ)
      → AllZip (HasDesign ls t) before designs → t.files p.file ≡ Some source → ((d : DesignTree) → ¬ (IsWellFormedText ls source d))
      → Cause (asks_parts ls (before ++ p ∷ behind) rest) t e → (why : Refusal) × (e ≡ refused why) × (part_file ls p.name).Refused source why
  at_part [] behind p [] rest e source have there none cause = refused_at t p.file (part_file ls p.name) (behind_part ls p behind rest) e source there none cause
  at_part [] behind p (d ∷ ds) rest e source have there none cause = absurd have
  at_part (q ∷ qs) behind p [] rest e source have there none cause = absurd have
  at_part (q ∷ qs) behind p (d ∷ ds) rest e source have there none cause =
      at_part qs behind p ds (λ designs. rest (under q d.design ∷ designs)) e source have.1 there none (past_part q (qs ++ p ∷ behind) rest e d have.0 cause)

  -- where all parts have designs, what causes an ending behind them does
  caused_behind : (parts : List Part) (designs : List NamedDesign) (rest : List NamedDesign → Asks) (e : Ending) → AllZip (HasDesign ls t) parts designs → Cause (rest designs) t e
      → Cause (asks_parts ls parts rest) t e
  caused_behind [] [] rest e have cause = cause
  caused_behind [] (d ∷ ds) rest e have cause = absurd have
  caused_behind (p ∷ ps) [] rest e have cause = absurd have
  caused_behind (p ∷ ps) (d ∷ ds) rest e have cause = inr (
    d.design,
    as_part p d have.0,
    caused_behind ps ds (λ designs. rest (under p d.design ∷ designs)) e have.1 (named_by (λ (x : NamedDesign). Cause (rest (x ∷ ds)) t e) p d have.0.name cause),
  )

  -- where something is written all parts have designs
  written_behind : (parts : List Part) (rest : List NamedDesign → Asks) (files : Files) → Written (asks_parts ls parts rest) t files
      → (designs : List NamedDesign) × AllZip (HasDesign ls t) parts designs × Written (rest designs) t files
  written_behind [] rest files written = ([], tt, written)
  written_behind (p ∷ ps) rest files (d, has, more) =
      let r = written_behind ps (λ designs. rest (under p d ∷ designs)) files more in (under p d ∷ r.0, (as_design p d has, r.1), r.2)

-- ---- the clause

module _ (lattice system out : List ℕ) (answer : ℕ) (t n : Told) where
  abbrev behind_system : Levels → Listing → Asks
  behind_system ls s = asks_parts ls s.parts (asks_wired ls s.wires out)

  abbrev behind_lattice : Levels → Asks
  behind_lattice ls = file system system_file (behind_system ls)

  abbrev IsCaused : Ending → Type 0
  IsCaused e = Cause (asks (link lattice system out)) t e

  past_lattice : (ls : Levels) (e : Ending) → Has t lattice IsLatticeFile ls → IsCaused e → Cause (behind_lattice ls) t e
  past_lattice ls e has cause = past_file t lattice lattice_file behind_lattice e lattice_lawful ls has cause

  past_system : (ls : Levels) (s : Listing) (e : Ending) → Has t lattice IsLatticeFile ls → Has t system IsSystemOfFile s → IsCaused e → Cause (behind_system ls s) t e
  past_system ls s e has is cause = past_file t system system_file (behind_system ls) e system_lawful s is (past_lattice ls e has cause)

  -- where the files are such, what causes an ending behind them does
  caused : (ls : Levels) (s : Listing) (designs : List NamedDesign) (e : Ending) → AreForLink lattice system t ls s designs
      → Cause (asks_wired ls s.wires out designs) t e → IsCaused e
  caused ls s designs e are cause = inr (ls, are.levels, inr (s, are.lists, caused_behind t ls s.parts designs (asks_wired ls s.wires out) e are.parts cause))

  -- where it is done the wires break no rule
  pub no_fault : (ls : Levels) (s : Listing) (designs : List NamedDesign) (fault : LinkFault) → AreForLink lattice system t ls s designs
      → FirstLinkFault (surroundings ls designs) s.wires fault → IsCaused done → ⊥
  no_fault ls s designs fault are first cause =
      of_verdict (past_parts t ls s.parts designs (asks_wired ls s.wires out) done are.parts (past_system ls s done are.levels are.lists cause))
    where
      of_verdict : Cause (asks_wired ls s.wires out designs) t done → ⊥
      of_verdict (None, keeps, is) = none_where_kept (surroundings ls designs) s.wires fault keeps first
      of_verdict (Some other, broken, is) = cc

  abbrev Done : Type 0
  Done =
      (ls : Levels) × (s : Listing) × (designs : List NamedDesign) × AreForLink lattice system t ls s designs × KeepsWires (surroundings ls designs) s.wires
      × ((text : List ℕ) × (n.files out ≡ Some text) × MeansSystem ls designs s.wires text)

  at_wires : IsCaused done → (ls : Levels) (s : Listing) (designs : List NamedDesign) → AreForLink lattice system t ls s designs
      → Written (asks_wired ls s.wires out designs) t n.files → Done
  at_wires cause ls s designs are (Some fault, first, same) = absurd (no_fault ls s designs fault are first cause)
  at_wires cause ls s designs are (None, keeps, (text, linked, files)) = (
    ls,
    s,
    designs,
    are,
    keeps,
    (text, ap (λ (fs : Files). fs out) files ∙ at_name-same out (Some text) t.files, means ls designs s.wires text linked),
  )

  written : IsCaused done → Written (asks (link lattice system out)) t n.files → Done
  written cause (ls, has, (s, is, more)) =
      let r = written_behind t ls s.parts (asks_wired ls s.wires out) n.files more in
      at_wires cause ls s r.0 (record { levels = has; lists = is; parts = r.1 }) r.2

  always : ((e : Ending) → IsCaused e → (answer ≡ status_of e) ⊎ ((answer ≡ 6) ⊎ (answer ≡ 7)))
      → (ls : Levels) (s : Listing) (designs : List NamedDesign) → AreForLink lattice system t ls s designs → KeepsWires (surroundings ls designs) s.wires
      → answer ≢ 6 → answer ≢ 7 → answer ≡ 0
  always exact ls s designs are keeps = zero_of answer (exact done (caused ls s designs done are (None, keeps, refl)))

  no_system : (e : Ending) × IsCaused e × (answer ≡ status_of e) → (ls : Levels) (bytes : List ℕ) → Has t lattice IsLatticeFile ls → t.files system ≡ Some bytes
      → ((s : Listing) → ¬ (IsSystemOfFile bytes s)) → answer ≡ 9
  no_system (e, cause, is) ls bytes has there none =
      let r = refused_at t system system_file (behind_system ls) e bytes there none (past_lattice ls e has cause) in
      is ∙ ap status_of r.1 ∙ ap (λ (w : Refusal). status_of (refused w)) r.2.1

  no_design : (e : Ending) × IsCaused e × (answer ≡ status_of e) → (ls : Levels) (s : Listing) (p : Part) → HasNoDesign lattice system t ls s p → answer ≡ 1
  no_design (e, cause, is) ls s p lacks =
      let rest : List NamedDesign → Asks = asks_wired ls s.wires out in
      let behind : Cause (asks_parts ls (lacks.before ++ p ∷ lacks.behind) rest) t e
      = subst (λ (parts : List Part). Cause (asks_parts ls parts rest) t e) lacks.is_part (past_system ls s e lacks.levels lacks.lists cause) in
      let r = at_part t ls lacks.before lacks.behind p lacks.designs rest e lacks.source lacks.parts lacks.file lacks.none behind in
      is ∙ ap status_of r.1 ∙ ap (λ (w : Refusal). status_of (refused w)) r.2.1

  wires_caused : (ls : Levels) (s : Listing) (designs : List NamedDesign) (fault : LinkFault) → AreForLink lattice system t ls s designs
      → FirstLinkFault (surroundings ls designs) s.wires fault → IsCaused (refused (wires_refused fault))
  wires_caused ls s designs fault are first = caused ls s designs (refused (wires_refused fault)) are (Some fault, first, refl)

links : (words : List (List ℕ)) (lost now answer : ℕ) (t n : Told) → Answers words lost now answer t n → Exact words t answer → Links words lost now answer t n
links words lost now answer t n a exact = λ lattice system out is.
    let caused_by = λ (no_failure : answer ≢ 6) (no_want : answer ≢ 7).
    subst (λ (c : Option Words). Cause (asks_if c) t a.ending) is (by_cause words t answer a.ending a.status a.cause no_failure no_want) in
    record {
      only = λ zero.
          let ended : a.ending ≡ done = done_alone a.ending (sym zero ∙ a.status) in
          let left : Leaves (asks_for words) t n.files done = subst (λ (e : Ending). Leaves (asks_for words) t n.files e) ended a.leaves in
          let cause : Cause (asks (link lattice system out)) t done =
          subst (λ (e : Ending). Cause (asks (link lattice system out)) t e) ended
          (caused_by (λ six. apart answer 6 zero six (λ e. omega (arith, e))) (λ seven. apart answer 7 zero seven (λ e. omega (arith, e)))) in
          written lattice system out answer t n cause (subst (λ (c : Option Words). Written (asks_if c) t n.files) is left);
      always = always lattice system out answer t n
          (subst (λ (c : Option Words). (e : Ending) → Cause (asks_if c) t e → (answer ≡ status_of e) ⊎ ((answer ≡ 6) ⊎ (answer ≡ 7))) is exact.always);
      no_system = λ ls bytes has there none no_failure no_want.
          no_system lattice system out answer t n (a.ending, caused_by no_failure no_want, a.status) ls bytes has there none;
      no_design = λ ls s p lacks no_failure no_want.
          no_design lattice system out answer t n (a.ending, caused_by no_failure no_want, a.status) ls s p lacks;
      wires = λ ls s designs fault are first no_failure no_want.
          let ends : a.ending ≡ refused (wires_refused fault) =
          one_cause_lem (link lattice system out) t a.ending (refused (wires_refused fault)) (caused_by no_failure no_want)
          (wires_caused lattice system out answer t n ls s designs fault are first) in
          (a.status ∙ ap status_of ends, subst (λ (e : Ending). Gained (line_of e) lost now t n) ends a.line);
    }
  where
    apart : (x y : ℕ) → x ≡ 0 → x ≡ y → (0 ≡ y → ⊥) → ⊥
    apart x y zero same other = other (sym zero ∙ same)

-- ---- between what a desk tells before and after

pub links_told : (words : List (List ℕ)) (lost now answer : ℕ) (old new : Option Told) → Between old new (Answers words lost now answer) → IfSome old (λ t. Exact words t answer)
    → Between old new (Links words lost now answer)
links_told words lost now answer None new a e = tt
links_told words lost now answer (Some t) None a e = absurd a
links_told words lost now answer (Some t) (Some n) a e = links words lost now answer t n a e
