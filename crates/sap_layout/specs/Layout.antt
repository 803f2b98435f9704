-- Designs that are the same, places aside: what they mean is the same.
use Rattle.std.specs.Prelude.{◌≡◌}
use Rattle.sap_lattice.specs.Levels.{Levels}
use Rattle.sap_tree.specs.Syntax.{DesignTree}
use Rattle.sap_tree.specs.Bare.{bare}
use Rattle.sap_shape.specs.WellFormed.{WellFormed}
use Rattle.sap_resolved.specs.Fill.{program_of}

-- Where one is well formed, so is the other.
abbrev pub FormedAlike : Type 0
FormedAlike = (ls : Levels) (one other : DesignTree) → bare one ≡ bare other → WellFormed ls one → WellFormed ls other

-- Both have one program, and so one labelled meaning.
abbrev pub OneProgram : Type 0
OneProgram = (ls : Levels) (one other : DesignTree) → bare one ≡ bare other → program_of ls one ≡ program_of ls other
