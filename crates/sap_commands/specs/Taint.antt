-- What `taint` asks, and what its steps come to.
use Rattle.std.specs.Prelude.{◌≡◌, ◌⊎◌, ℕ, List, Option, Some, None, Result, Ok, Err}
use Rattle.sap_lattice.specs.Levels.{Levels, order_of}
use Rattle.sap_net.specs.Net.{Net}
use Rattle.sap_taint.specs.TagNames.{IsClash, HasRoomForTags}
use Rattle.sap_taint_pass.specs.declared.fault.TaintFault.{TaintFault}
use Rattle.sap_taint_pass.specs.declared.fault.TaintFault.TheVariants as taint_fault
use Rattle.sap_files.specs.Ending.{refused, no_memory, taint_refused}
use Rattle.sap_files.specs.Kinds.{lattice_file, module_file}
use Rattle.sap_files.specs.Tainting.{HasTaintOf, IsTaintedText}
use Rattle.sap_files.specs.Asks.{Asks, file, with_the, writes, stops}
use Rattle.sap_files.specs.Steps.{ending}
use Rattle.sap_files.specs.declared.failure.Failure.{Failure}
use Rattle.sap_files.specs.declared.failure.Failure.TheVariants.{Refused, Memory}
use Rattle.sap_files.specs.declared.refusal.Refusal.TheVariants.{Taint}

-- The first declared name whose tag has no name of its own, where there is one.
abbrev pub FirstClash : Net → Option (List ℕ) → Type 0
FirstClash net None = HasRoomForTags net
FirstClash net (Some x) = IsClash net x

-- What is written of a module, by its first clash.
abbrev pub tagged_or_refused : Levels → Net → (out : List ℕ) → Option (List ℕ) → Asks
tagged_or_refused ls net out None = writes out (IsTaintedText ls net)
tagged_or_refused ls net out (Some x) = stops (taint_refused (taint_fault.Clash x))

-- What `taint` asks.
abbrev pub asks_taint : (lattice verilog out : List ℕ) → Asks
asks_taint lattice verilog out =
    file lattice lattice_file (λ ls. file verilog module_file
    (λ net. with_the (Option (List ℕ)) (FirstClash net) (tagged_or_refused ls net out)))

-- The steps of the command.

-- How a command fails whose module has no room for tags.
abbrev pub taint_failure : TaintFault → Failure
taint_failure taint_fault.Memory = Memory
taint_failure fault = Refused (Taint fault)

-- What a module gives to which tags are added: the netlist with tags, or why there is none.
abbrev pub Tags : Levels → Net → Result Net Failure → Type 0
Tags ls net (Ok tagged) = HasRoomForTags net × HasTaintOf (order_of ls) net tagged
Tags ls net (Err e) = (ending e ≡ no_memory)
    ⊎ ((x : List ℕ) × IsClash net x × (ending e ≡ refused (taint_refused (taint_fault.Clash x))))

-- What a module gives to which tags are added: the text of the module with tags, or why there is none.
abbrev pub Taints : Levels → Net → Result (List ℕ) Failure → Type 0
Taints ls net (Ok text) = HasRoomForTags net × IsTaintedText ls net text
Taints ls net (Err e) = (ending e ≡ no_memory)
    ⊎ ((x : List ℕ) × IsClash net x × (ending e ≡ refused (taint_refused (taint_fault.Clash x))))
