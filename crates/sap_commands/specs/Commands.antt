-- What each command asks: the files that it reads, each as one kind, and what it writes.
use Rattle.std.specs.Prelude.{◌≡◌, ℕ, List, Option, Some, None}
use Rattle.sap_desk.specs.Desk.{Told}
use Rattle.sap_lattice.specs.Levels.{Levels}
use Rattle.sap_tree.specs.Syntax.{DesignTree}
use Rattle.sap_net.specs.Net.{Net}
use Rattle.sap_show.specs.Canonical.{canonical_text}
use Rattle.sap_sim.specs.Labelled.RunOf.{read_for as design_stimulus}
use Rattle.sap_sim.specs.Numbers.{numbers_of}
use Rattle.sap_sim.specs.Simulated.{read_for as module_stimulus}
use Rattle.sap_compile.specs.Compiles.{IsModuleFor}
use Rattle.sap_report.specs.Report.{report_text}
use Rattle.sap_wave_rows.specs.Rows.{rows_of_wave}
use Rattle.sap_wave_run.specs.Dumped.{IsDumpOn}
use Rattle.sap_machine.specs.DesignText.{machine_text}
use Rattle.sap_machine.specs.Text.{stimulus_text, users_text}
use Rattle.sap_explain.specs.Explained.{IsExplained}
use Rattle.sap_explain.specs.Explanation.{explanation}
use Rattle.sap_gen.specs.Text.{generated_text}
use Rattle.sap_words.specs.Words.{Words, compile, link, run, trace, fmt, sim, taint, wave, unwave, report, twin, gen, machine, asm, cpu, command_of}
use Rattle.sap_files.specs.Ending.{Ending, no_command}
use Rattle.sap_files.specs.Kinds.{assembly_file, lattice_file, design_file, design_text_file, module_file, module_stream_file, wave_file}
use Rattle.sap_files.specs.StimulusTexts.{AreDesignRows, AreModuleRows, AreTraceLines}
use Rattle.sap_files.specs.Asks.{Asks, file, gives, prints, writes, stops, Cause, IsOutput}
use Rattle.sap_commands.specs.Link.{asks_link}
use Rattle.sap_commands.specs.Taint.{asks_taint}
use Rattle.sap_commands.specs.Twin.{asks_twin}

-- The text is one of a module for the design, and begins with the lines that explain it.
abbrev pub IsModuleText : Levels → DesignTree → (text : List ℕ) → Type 0
IsModuleText ls d text = (net : Net) × IsModuleFor ls d net text × IsExplained (explanation ls d) text net

-- What `compile` asks.
abbrev pub asks_compile : (lattice design out : List ℕ) → Asks
asks_compile lattice design out =
    file lattice lattice_file (λ ls. file design (design_file ls) (λ d. writes out (IsModuleText ls d)))

-- What `run` asks.
abbrev pub asks_run : (lattice design stimulus : List ℕ) → Asks
asks_run lattice design stimulus =
    file lattice lattice_file (λ ls. file design (design_file ls) (λ d.
    prints stimulus (AreDesignRows ls d) (λ bytes. (design_stimulus ls d bytes).fault)))

-- What `trace` asks.
abbrev pub asks_trace : (lattice design stimulus : List ℕ) → Asks
asks_trace lattice design stimulus =
    file lattice lattice_file (λ ls. file design (design_file ls) (λ d.
    prints stimulus (AreTraceLines ls d) (λ bytes. (design_stimulus ls d bytes).fault)))

-- What `sim` asks.
abbrev pub asks_sim : (lattice verilog stimulus : List ℕ) → Asks
asks_sim lattice verilog stimulus =
    file lattice lattice_file (λ ls. file verilog module_file (λ net.
    prints stimulus (AreModuleRows ls net) (λ bytes. (module_stimulus ls net bytes).fault)))

-- What `wave` asks.
abbrev pub asks_wave : (lattice verilog stimulus out : List ℕ) → Asks
asks_wave lattice verilog stimulus out =
    file lattice lattice_file (λ ls. file verilog module_file
    (λ net. file stimulus (module_stream_file ls net) (λ stream.
    writes out (IsDumpOn net (numbers_of ls net) stream))))

-- What `unwave` asks.
abbrev pub asks_unwave : (lattice dump : List ℕ) → Asks
asks_unwave lattice dump =
    file lattice lattice_file (λ ls. file dump wave_file (λ wave. gives (λ text. text ≡ rows_of_wave ls wave)))

-- What `report` asks.
abbrev pub asks_report : (lattice design : List ℕ) → Asks
asks_report lattice design =
    file lattice lattice_file (λ ls. file design (design_file ls) (λ d. gives (λ text. text ≡ report_text ls d)))

-- What `fmt` asks.
abbrev pub asks_fmt : (design : List ℕ) → Asks
asks_fmt design = file design design_text_file (λ d. gives (λ text. text ≡ canonical_text d))

-- What `gen` asks.
abbrev pub asks_gen : (n : ℕ) → Asks
asks_gen n = gives (λ text. text ≡ generated_text n)

-- What `machine` asks.
abbrev pub asks_machine : Asks
asks_machine = gives (λ text. text ≡ machine_text)

-- What `asm` and `cpu` ask: they read two assembly files, and give a text of the machine words of both.
abbrev pub asks_programs : (text_of : (a b : List ℕ) → List ℕ) → (first second : List ℕ) → Asks
asks_programs text_of first second =
    file first (assembly_file 1) (λ a. file second (assembly_file 2) (λ b. gives (λ text. text ≡ text_of a b)))

-- What `asm` asks.
abbrev pub asks_asm : (first second : List ℕ) → (n : ℕ) → Asks
asks_asm first second n = asks_programs (λ a b. stimulus_text a b n) first second

-- What `cpu` asks.
abbrev pub asks_cpu : (first second : List ℕ) → (n : ℕ) → Asks
asks_cpu first second n = asks_programs (λ a b. users_text a b n) first second

-- What each command asks.
abbrev pub asks : Words → Asks
asks (compile lattice design out) = asks_compile lattice design out
asks (link lattice system out) = asks_link lattice system out
asks (run lattice design stimulus) = asks_run lattice design stimulus
asks (trace lattice design stimulus) = asks_trace lattice design stimulus
asks (fmt design) = asks_fmt design
asks (sim lattice verilog stimulus) = asks_sim lattice verilog stimulus
asks (taint lattice verilog out) = asks_taint lattice verilog out
asks (wave lattice verilog stimulus out) = asks_wave lattice verilog stimulus out
asks (unwave lattice dump) = asks_unwave lattice dump
asks (report lattice design) = asks_report lattice design
asks (twin lattice design first second level) = asks_twin lattice design first second level
asks (gen n) = asks_gen n
asks machine = asks_machine
asks (asm first second n) = asks_asm first second n
asks (cpu first second n) = asks_cpu first second n

-- What arguments ask: what their command asks, or a refusal if they are no command.
abbrev pub asks_if : Option Words → Asks
asks_if None = stops no_command
asks_if (Some c) = asks c

-- What words ask.
abbrev pub asks_for : List (List ℕ) → Asks
asks_for words = asks_if (command_of words)

-- The words and files of a command ask for at most one text.
abbrev pub OneOutput : Type 0
OneOutput = (c : Words) (t : Told) (text other : List ℕ) → IsOutput (asks c) t text
    → IsOutput (asks c) t other → text ≡ other

-- The words and files of a command have at most one cause: by them it ends in one way, with one status and one line.
abbrev pub OneCause : Type 0
OneCause = (c : Words) (t : Told) (e other : Ending) → Cause (asks c) t e → Cause (asks c) t other → e ≡ other
