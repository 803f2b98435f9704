-- What each command asks is lawful.
use Rattle.std.proofs.Common.{◌≡◌, ℕ, List, [], ◌∷◌, refl, sym, ◌∙◌, ap, inl, inr, ◌⊎◌, arith}
use Rattle.std.specs.Prelude.{Option, Some, None}
use Rattle.sap_lattice.specs.Prelude.{Levels, order_of, Order}
use Rattle.sap_meaning.specs.Cycle.{Tagged}
use Rattle.sap_tree.specs.Syntax.{DesignTree}
use Rattle.sap_stim.specs.declared.fault.StimFault.{StimFault}
use Rattle.sap_stream.specs.declared.apart.Apart.{Apart}
use Rattle.sap_stream.proofs.Agreeing.{at_most_one}
use Rattle.sap_sim.specs.Labelled.RunOf.{read_for as design_stimulus}
use Rattle.sap_sim.specs.Simulated.{read_for as module_stimulus}
use Rattle.sap_files.specs.Prelude.{Ending, Refusal, done, refused, failed, no_memory, taint_refused, wires_refused, status_of, status_of_refusal, IsFree, assembly_file, design_file, design_text_file, lattice_file, module_file, module_stream_file, stream_file, wave_file, Asks, file, with_the, AreLawful, MayEnd, end_of}
use Rattle.sap_commands.specs.Twin.{IsVerdict, at_level, compared}
use Rattle.sap_commands.specs.Taint.{FirstClash, tagged_or_refused}
use Rattle.sap_commands.specs.Commands.{asks_programs, OneCause, OneOutput, asks, asks_for, asks_if}
use Rattle.sap_taint_pass.specs.declared.fault.TaintFault.TheVariants.{Clash}
use Rattle.sap_taint.proofs.Clashes.{no_clash_with_room, one_clash}
use Rattle.sap_net.specs.Net.{Net}
use Rattle.sap_words.specs.Words.{Words, IsTwin, compile, link, run, trace, fmt, sim, taint, wave, unwave, report, twin, gen, machine, asm, cpu, command_of}
use Rattle.sap_machine.specs.Text.{stimulus_text, users_text}
use Rattle.sap_system.specs.declared.file.Part.{Part}
use Rattle.sap_system.specs.declared.file.WireText.{WireText}
use Rattle.sap_linked.specs.Designs.{NamedDesign}
use Rattle.sap_commands.specs.Link.{asks_parts, asks_wired}
use Rattle.sap_files.specs.Kinds.{part_file, system_file}
use Rattle.sap_commands.proofs.LinkLawful.{lawful_link}
use Rattle.sap_files.proofs.Lattices.{lattice_lawful}
use Rattle.sap_files.proofs.Designs.{design_lawful, text_lawful}
use Rattle.sap_files.proofs.Modules.{module_lawful}
use Rattle.sap_files.proofs.Netlists.{module_netlist}
use Rattle.sap_files.proofs.NetsAlike.{one_rows}
use Rattle.sap_files.proofs.Streams.{module_stream_lawful, stream_lawful}
use Rattle.sap_files.proofs.Dumps.{wave_lawful}
use Rattle.sap_files.proofs.Assemblies.{assembly_lawful}
use Rattle.sap_files.proofs.Lawful.{one_cause, one_text}

-- two streams

one_verdict : (o : Order) (l : ℕ) (one other : List (List Tagged)) (v w : Option Apart) → IsVerdict o l one other v → IsVerdict o l one other w → v ≡ w
one_verdict o l one other None None a b = refl
one_verdict o l one other None (Some x) a b = absurd (at_most_one.none o l one other x a b)
one_verdict o l one other (Some x) None a b = absurd (at_most_one.none o l one other x b a)
one_verdict o l one other (Some x) (Some y) a b = ap Some (at_most_one.same o l one other x y a b)

lawful_compared : (ls : Levels) (d : DesignTree) (l : ℕ) (word : List ℕ) (one other : List (List Tagged)) (v : Option Apart)
    → AreLawful (compared ls d l word one other v)
lawful_compared ls d l word one other None = λ text others x y. x.is_line ∙ sym y.is_line
lawful_compared ls d l word one other (Some apart) = tt

lawful_at : (word : List ℕ) (rest : ℕ → Asks) (named : Option ℕ) → ((l : ℕ) → AreLawful (rest l)) → AreLawful (at_level word rest named)
lawful_at word rest None law = tt
lawful_at word rest (Some l) law = law l

lawful_streams : (ls : Levels) (first second word : List ℕ) (d : DesignTree) (l : ℕ)
    → AreLawful (file first (stream_file 1 ls d) (λ one. file second (stream_file 2 ls d) (λ other.
    with_the (Option Apart) (IsVerdict (order_of ls) l one other) (compared ls d l word one other))))
lawful_streams ls first second word d l = (
  stream_lawful 1 ls d,
  λ bytes one a. (
    stream_lawful 2 ls d,
    λ more other b.
        (one_verdict (order_of ls) l one other, λ v holds. lawful_compared ls d l word one other v),
  ),
)

-- two programs

lawful_programs : (text_of : (a b : List ℕ) → List ℕ) (first second : List ℕ) → AreLawful (asks_programs text_of first second)
lawful_programs text_of first second =
    (assembly_lawful 1, λ bytes a is. (assembly_lawful 2, λ more b was. λ text other x y. x ∙ sym y))

-- a module with tags

lawful_tags : (ls : Levels) (net : Net) (out : List ℕ) (clash : Option (List ℕ)) → AreLawful (tagged_or_refused ls net out clash)
lawful_tags ls net out None = tt
lawful_tags ls net out (Some x) = tt

one_first_clash : (net : Net) (v w : Option (List ℕ)) → FirstClash net v → FirstClash net w → v ≡ w
one_first_clash net None None a b = refl
one_first_clash net None (Some x) a b = absurd (no_clash_with_room net x b a)
one_first_clash net (Some x) None a b = absurd (no_clash_with_room net x a b)
one_first_clash net (Some x) (Some y) a b = ap (λ (z : List ℕ). Some z) (one_clash net x y a b)

-- each command

lawful : (c : Words) → AreLawful (asks c)
lawful (compile lattice design out) = (lattice_lawful, λ bytes ls a. (design_lawful ls, λ source d b. tt))
lawful (link lattice system out) = lawful_link lattice system out
lawful (run lattice design stimulus) =
    (lattice_lawful, λ bytes ls a. (design_lawful ls, λ source d b. λ found text other x y. x.1.text ∙ sym y.1.text))
lawful (trace lattice design stimulus) =
    (lattice_lawful, λ bytes ls a. (design_lawful ls, λ source d b. λ found text other x y. x.1.text ∙ sym y.1.text))
lawful (fmt design) = (text_lawful, λ source d a text other x y. x ∙ sym y)
lawful (sim lattice verilog stimulus) =
    (lattice_lawful, λ bytes ls a. (module_lawful, λ text net b. λ found. one_rows ls net (module_netlist text net b) found))
lawful (taint lattice verilog out) =
    (lattice_lawful, λ bytes ls a. (module_lawful, λ text net b. (one_first_clash net, λ clash is. lawful_tags ls net out clash)))
lawful (wave lattice verilog stimulus out) =
    (lattice_lawful, λ bytes ls a. (module_lawful, λ text net b. (module_stream_lawful ls net, λ lines stream d. tt)))
lawful (unwave lattice dump) = (lattice_lawful, λ bytes ls a. (wave_lawful, λ text w b one other x y. x ∙ sym y))
lawful (report lattice design) = (lattice_lawful, λ bytes ls a. (design_lawful ls, λ source d b text other x y. x ∙ sym y))
lawful (twin lattice design first second level) = (
  lattice_lawful,
  λ bytes ls a. (
    (λ v w is was. is ∙ sym was),
    λ named is. lawful_at level _ named (λ l.
        (design_lawful ls, λ source d b. lawful_streams ls first second level d l)),
  ),
)
lawful (gen n) = λ text other x y. x ∙ sym y
lawful machine = λ text other x y. x ∙ sym y
lawful (asm first second n) = lawful_programs (λ a b. stimulus_text a b n) first second
lawful (cpu first second n) = lawful_programs (λ a b. users_text a b n) first second

lawful_if : (o : Option Words) → AreLawful (asks_if o)
lawful_if None = tt
lawful_if (Some c) = lawful c

pub lawful_words : (words : List (List ℕ)) → AreLawful (asks_for words)
lawful_words words = lawful_if (command_of words)

-- status 2: the words are no command, or `twin` names no level

not_two : (e : Ending) (why : Refusal) (status : ℕ) → e ≡ refused why → status_of_refusal why ≡ status → (status ≡ 2 → ⊥) → status_of e ≡ 2 → ⊥
not_two e why status is that other two = other (sym that ∙ sym (ap status_of is) ∙ two)

rows_end : (fault : Option StimFault) (e : Ending) → e ≡ end_of fault → status_of e ≡ 2 → ⊥
rows_end None e is two = let zero : 0 ≡ 2 = sym (ap status_of is) ∙ two in omega (arith, zero)
rows_end (Some fault) e is two = let four : 4 ≡ 2 = sym (ap status_of is) ∙ two in omega (arith, four)

is_done : (e : Ending) → e ≡ done → status_of e ≡ 2 → ⊥
is_done e is two = let zero : 0 ≡ 2 = sym (ap status_of is) ∙ two in omega (arith, zero)

-- the file of a lattice, of a design, of a module is refused
lattice_two : (e : Ending) (bytes : List ℕ) (why : Refusal) → e ≡ refused why → lattice_file.Refused bytes why → status_of e ≡ 2 → ⊥
lattice_two e bytes why is refusal two = not_two e why 3 is (ap status_of_refusal refusal.1) (λ x. omega (arith, x)) two

design_two : (ls : Levels) (e : Ending) (bytes : List ℕ) (why : Refusal) → e ≡ refused why → (design_file ls).Refused bytes why → status_of e ≡ 2 → ⊥
design_two ls e bytes why is refusal two = not_two e why 1 is (ap status_of_refusal refusal.1) (λ x. omega (arith, x)) two

text_two : (e : Ending) (bytes : List ℕ) (why : Refusal) → e ≡ refused why → design_text_file.Refused bytes why → status_of e ≡ 2 → ⊥
text_two e bytes why is refusal two = not_two e why 1 is (ap status_of_refusal refusal.1) (λ x. omega (arith, x)) two

module_two : (e : Ending) (bytes : List ℕ) (why : Refusal) → e ≡ refused why → module_file.Refused bytes why → status_of e ≡ 2 → ⊥
module_two e bytes why is refusal two = not_two e why 5 is (ap status_of_refusal refusal.1) (λ x. omega (arith, x)) two

stream_two : (ls : Levels) (net : Net) (e : Ending) (bytes : List ℕ) (why : Refusal) → e ≡ refused why → (module_stream_file ls net).Refused bytes why → status_of e ≡ 2 → ⊥
stream_two ls net e bytes why is refusal two = not_two e why 4 is (ap status_of_refusal refusal.1) (λ x. omega (arith, x)) two

wave_two : (e : Ending) (bytes : List ℕ) (why : Refusal) → e ≡ refused why → wave_file.Refused bytes why → status_of e ≡ 2 → ⊥
wave_two e bytes why is refusal two = not_two e why 10 is (ap status_of_refusal refusal.1) (λ x. omega (arith, x)) two

assembly_two : (place : ℕ) (e : Ending) (bytes : List ℕ) (why : Refusal) → e ≡ refused why → (assembly_file place).Refused bytes why → status_of e ≡ 2 → ⊥
assembly_two place e bytes why is refusal two = not_two e why 11 is (ap status_of_refusal refusal.1) (λ x. omega (arith, x)) two

-- and of a system, or of a part of one, or what its wires come to

system_two : (e : Ending) (bytes : List ℕ) (why : Refusal) → e ≡ refused why → system_file.Refused bytes why → status_of e ≡ 2 → ⊥
system_two e bytes why is refusal two = not_two e why 9 is (ap status_of_refusal refusal.1) (λ x. omega (arith, x)) two

part_two : (ls : Levels) (part : List ℕ) (e : Ending) (bytes : List ℕ) (why : Refusal) → e ≡ refused why → (part_file ls part).Refused bytes why → status_of e ≡ 2 → ⊥
part_two ls part e bytes why is refusal two = not_two e why 1 is (ap status_of_refusal refusal.1) (λ x. omega (arith, x)) two

wired_two : (ls : Levels) (texts : List WireText) (out : List ℕ) (ds : List NamedDesign) (e : Ending) → MayEnd (asks_wired ls texts out ds) e → status_of e ≡ 2 → ⊥
wired_two ls texts out ds e (None, keeps, is) two = is_done e is two
wired_two ls texts out ds e (Some fault, first, is) two = not_two e (wires_refused fault) 9 is refl (λ nine. omega (arith, nine)) two

parts_two : (ls : Levels) (ps : List Part) (rest : List NamedDesign → Asks) (e : Ending) → ((ds : List NamedDesign) → MayEnd (rest ds) e → status_of e ≡ 2 → ⊥)
    → MayEnd (asks_parts ls ps rest) e → status_of e ≡ 2 → ⊥
parts_two ls [] rest e other may two = other [] may two
parts_two ls (p ∷ ps) rest e other (inl (source, why, is, r)) two = part_two ls p.name e source why is r two
parts_two ls (p ∷ ps) rest e other (inr (source, d, a, may)) two = parts_two ls ps _ e (λ ds. other (record { name = p.name; design = d } ∷ ds)) may two

programs_two : (text_of : (a b : List ℕ) → List ℕ) (first second : List ℕ) (e : Ending) → MayEnd (asks_programs text_of first second) e → status_of e ≡ 2 → ⊥
programs_two text_of first second e (inl (bytes, why, is, r)) two = assembly_two 1 e bytes why is r two
programs_two text_of first second e (inr (bytes, words, a, inl (text, why, is, r))) two = assembly_two 2 e text why is r two
programs_two text_of first second e (inr (bytes, words, a, inr (text, others, b, is))) two = is_done e is two

two_twin : (c : Words) (e : Ending) → MayEnd (asks c) e → status_of e ≡ 2 → IsTwin (Some c)
two_twin (twin lattice design first second level) e may two = (lattice, design, first, second, level, refl)
two_twin (compile lattice design out) e (inl (bytes, why, is, r)) two = absurd (lattice_two e bytes why is r two)
two_twin (compile lattice design out) e (inr (bytes, ls, a, inl (source, why, is, r))) two = absurd (design_two ls e source why is r two)
two_twin (compile lattice design out) e (inr (bytes, ls, a, inr (source, d, b, is))) two = absurd (is_done e is two)
two_twin (link lattice system out) e (inl (bytes, why, is, r)) two = absurd (lattice_two e bytes why is r two)
two_twin (link lattice system out) e (inr (bytes, ls, a, inl (text, why, is, r))) two = absurd (system_two e text why is r two)
two_twin (link lattice system out) e (inr (bytes, ls, a, inr (text, s, b, may))) two =
    absurd (parts_two ls s.parts (asks_wired ls s.wires out) e (λ ds. wired_two ls s.wires out ds e) may two)
two_twin (run lattice design stimulus) e (inl (bytes, why, is, r)) two = absurd (lattice_two e bytes why is r two)
two_twin (run lattice design stimulus) e (inr (bytes, ls, a, inl (source, why, is, r))) two = absurd (design_two ls e source why is r two)
two_twin (run lattice design stimulus) e (inr (bytes, ls, a, inr (source, d, b, (found, is)))) two = absurd (rows_end (design_stimulus ls d found).fault e is two)
two_twin (trace lattice design stimulus) e (inl (bytes, why, is, r)) two = absurd (lattice_two e bytes why is r two)
two_twin (trace lattice design stimulus) e (inr (bytes, ls, a, inl (source, why, is, r))) two = absurd (design_two ls e source why is r two)
two_twin (trace lattice design stimulus) e (inr (bytes, ls, a, inr (source, d, b, (found, is)))) two = absurd (rows_end (design_stimulus ls d found).fault e is two)
two_twin (fmt design) e (inl (source, why, is, r)) two = absurd (text_two e source why is r two)
two_twin (fmt design) e (inr (source, d, a, is)) two = absurd (is_done e is two)
two_twin (sim lattice verilog stimulus) e (inl (bytes, why, is, r)) two = absurd (lattice_two e bytes why is r two)
two_twin (sim lattice verilog stimulus) e (inr (bytes, ls, a, inl (text, why, is, r))) two = absurd (module_two e text why is r two)
two_twin (sim lattice verilog stimulus) e (inr (bytes, ls, a, inr (text, net, b, (found, is)))) two = absurd (rows_end (module_stimulus ls net found).fault e is two)
two_twin (taint lattice verilog out) e (inl (bytes, why, is, r)) two = absurd (lattice_two e bytes why is r two)
two_twin (taint lattice verilog out) e (inr (bytes, ls, a, inl (text, why, is, r))) two = absurd (module_two e text why is r two)
two_twin (taint lattice verilog out) e (inr (bytes, ls, a, inr (text, net, b, (None, room, is)))) two = absurd (is_done e is two)
two_twin (taint lattice verilog out) e (inr (bytes, ls, a, inr (text, net, b, (Some x, clash, is)))) two =
    absurd (not_two e (taint_refused (Clash x)) 5 is refl (λ five. omega (arith, five)) two)
two_twin (wave lattice verilog stimulus out) e (inl (bytes, why, is, r)) two = absurd (lattice_two e bytes why is r two)
two_twin (wave lattice verilog stimulus out) e (inr (bytes, ls, a, inl (text, why, is, r))) two = absurd (module_two e text why is r two)
two_twin (wave lattice verilog stimulus out) e (inr (bytes, ls, a, inr (text, net, b, inl (lines, why, is, r)))) two = absurd (stream_two ls net e lines why is r two)
two_twin (wave lattice verilog stimulus out) e (inr (bytes, ls, a, inr (text, net, b, inr (lines, stream, d, is)))) two = absurd (is_done e is two)
two_twin (unwave lattice dump) e (inl (bytes, why, is, r)) two = absurd (lattice_two e bytes why is r two)
two_twin (unwave lattice dump) e (inr (bytes, ls, a, inl (text, why, is, r))) two = absurd (wave_two e text why is r two)
two_twin (unwave lattice dump) e (inr (bytes, ls, a, inr (text, w, b, is))) two = absurd (is_done e is two)
two_twin (report lattice design) e (inl (bytes, why, is, r)) two = absurd (lattice_two e bytes why is r two)
two_twin (report lattice design) e (inr (bytes, ls, a, inl (source, why, is, r))) two = absurd (design_two ls e source why is r two)
two_twin (report lattice design) e (inr (bytes, ls, a, inr (source, d, b, is))) two = absurd (is_done e is two)
two_twin (gen n) e is two = absurd (is_done e is two)
two_twin machine e is two = absurd (is_done e is two)
two_twin (asm first second n) e may two = absurd (programs_two (λ a b. stimulus_text a b n) first second e may two)
two_twin (cpu first second n) e may two = absurd (programs_two (λ a b. users_text a b n) first second e may two)

free_two : (e : Ending) → IsFree e → status_of e ≡ 2 → ⊥
free_two done free two = free
free_two (refused why) free two = free
free_two (failed name) free two = omega (arith, two)
free_two no_memory free two = omega (arith, two)

pub two_if : (o : Option Words) (e : Ending) → IsFree e ⊎ MayEnd (asks_if o) e → status_of e ≡ 2 → (o ≡ None) ⊎ IsTwin o
two_if o e (inl free) two = absurd (free_two e free two)
two_if None e (inr may) two = inl refl
two_if (Some c) e (inr may) two = inr (two_twin c e may two)

pub one_output_lem : OneOutput
one_output_lem = λ c t text other a b. one_text (asks c) (lawful c) t a.0 b.0 text other a.1 b.1

pub one_cause_lem : OneCause
one_cause_lem = λ c t e other a b. one_cause (asks c) (lawful c) t e other a b
