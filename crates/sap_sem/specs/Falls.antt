-- The root's fall.
use Rattle.sap_meaning.specs.Cycle.{root_fall}
use Rattle.sap_meaning.specs.Program.{root, listed}
use Rattle.sap_meaning.specs.Runs.{run_state}
use Rattle.sap_meaning.specs.Store.{Store, After, child}
use Rattle.sap_store.specs.declared.environment.Environment.{Environment}
use Rattle.sap_store.specs.Code.{program_of}

-- The root's fall into its current child.
unfoldable pub fallen : Environment → Store → After
fallen d s =
    let p = program_of d in
    root_fall p.world (listed p.hang) (λ t. run_state p.world t (root p.world)) p.states (child (root p.world) s) s
