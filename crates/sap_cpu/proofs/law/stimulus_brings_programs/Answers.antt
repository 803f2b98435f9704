use Rattle.sap_cpu.proofs.Streams.{asm_brings_programs, stimulus_brings_programs}
use Rattle.sap_cpu.proofs.law.stimulus_brings_programs.Goals as goal

pub returns : goal.returns
returns c = record { words = stimulus_brings_programs; asm = asm_brings_programs }
