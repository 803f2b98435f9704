-- The check sites and points of small designs, worked out.
use Rattle.std.specs.Prelude.{◌≡◌, ℕ, [], ◌∷◌, Some, codes}
use Rattle.sap_tree.specs.Making.{on, at, spot, mention, numeral_at}
use Rattle.sap_tree.specs.declared.syntax.Decl.TheVariants.{Register}
use Rattle.sap_tree.specs.Syntax.{variable, assign, go_to, fall_to_child, Command, lone, try, if_else, CommandBlock, with_else, state_node, no_state, and_state, DesignTree, and_command, no_command}
use Rattle.sap_tree.specs.declared.version.Version.TheVariants.{One}
use Rattle.sap_check.specs.declared.point.PointKind.TheVariants as points
use Rattle.sap_check.specs.declared.site.Site.{Site}
use Rattle.sap_check.specs.declared.site.SiteKind.{SiteKind}
use Rattle.sap_check.specs.declared.site.SiteKind.TheVariants as sites
use Rattle.sap_check.specs.Points.{point, points_of}
use Rattle.sap_check.specs.Sites.{sites_of}
use Rattle.sap_shape.specs.Examples.{number, block, one, low, leaf, home, decided}

-- A check site at a column, for examples.
abbrev pub site : ℕ → SiteKind → ℕ → Site
site column kind entity = record { place = at column; kind = kind; entity = entity }

-- The text `x := 0; goto S;`.
abbrev pub assigning : CommandBlock
assigning = block 56 (and_command (lone (assign (mention (at 40) (codes "x")) (number 45 0)))
    (and_command (home 48) no_command))

-- The text `goto S otherwise { goto S; }`.
abbrev pub leaving : CommandBlock
leaving = one 87 (try (go_to (at 60) (mention (at 65) (codes "S"))) (at 67) (one 85 (home 77)))

-- The text `if (x) { x := 0; goto S; } else { goto S otherwise { goto S; } }`.
abbrev pub choosing : Command
choosing = if_else (at 30) (variable (spot (at 34)) (codes "x")) assigning (with_else leaving)

-- The text `reg x : 1 enforced low = START; state S enforced low { .. }`.
abbrev pub small : ℕ → DesignTree
small start = record {
  version = One;
  declarations = Register (at 1) (mention (at 5) (codes "x")) (numeral_at (at 9) 1) low
      (Some (numeral_at (at 21) start)) ∷ [];
  states = and_state (leaf (codes "S") low (one 90 choosing)) no_state;
}

-- The check sites of the small design are its write and its three `goto`s.
abbrev pub SmallSites : Type 0
SmallSites = sites_of (small 0) ≡ site 40 sites.Write 0 ∷ site 48 sites.Goto 1 ∷ site 60 sites.Goto 1
    ∷ site 77 sites.Goto 1 ∷ []

-- Its points are its `if` and its `otherwise`.
abbrev pub SmallPoints : Type 0
SmallPoints = points_of (small 0) ≡ point points.If (at 30) ∷ point points.Otherwise (at 67) ∷ []

-- The text `state P enforced low { fall otherwise { goto P; } state S enforced low { goto S; } }`.
abbrev pub nested : DesignTree
nested = record {
  version = One;
  declarations = [];
  states = and_state
      (state_node (at 1) (mention (at 7) (codes "P")) low
      (one 60 (try (fall_to_child (at 25)) (at 30) (one 50 (lone (go_to (at 42) (mention (at 47) (codes "P")))))))
      (and_state (leaf (codes "S") low (one 90 (home 80))) no_state))
      no_state;
}

-- A `fall` is a site of its own state.
abbrev pub NestedSites : Type 0
NestedSites = sites_of nested ≡ site 25 sites.Fall 0 ∷ site 42 sites.Goto 0 ∷ site 80 sites.Goto 1 ∷ []

-- The points of the nested design are its `fall` and the `otherwise` of it.
abbrev pub NestedPoints : Type 0
NestedPoints = points_of nested ≡ point points.Fall (at 25) ∷ point points.Otherwise (at 30) ∷ []

-- The design of version 2 in `sap_shape`, `Examples`, with entities a, x, y, P and C. Sites stand at the first tokens
-- of commands, also in the blocks of a `then` and of a `case`.
abbrev pub site_on : (line column : ℕ) → SiteKind → ℕ → Site
site_on l c kind entity = record { place = on l c; kind = kind; entity = entity }

-- The check sites of the design with a `case`.
abbrev pub DecidedSites : Type 0
DecidedSites = sites_of decided
    ≡ site_on 3 1 sites.Write 2
    ∷ site_on 3 31 sites.Fall 3
    ∷ site_on 3 46 sites.Goto 3
    ∷ site_on 4 13 sites.Write 2
    ∷ site_on 4 42 sites.Goto 3
    ∷ site_on 5 24 sites.Goto 4
    ∷ []

-- The `otherwise` behind the `then` is no point, but the one in its block is.
abbrev pub DecidedPoints : Type 0
DecidedPoints = points_of decided ≡ point points.Then (on 3 8) ∷ point points.Case (on 3 15)
    ∷ point points.Fall (on 3 31) ∷ point points.Otherwise (on 4 20) ∷ []
