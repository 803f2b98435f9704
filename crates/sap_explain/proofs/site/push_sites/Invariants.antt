use Rattle.std.proofs.Common.{◌≡◌, ◌++◌, ◌+◌, drop}
use Rattle.sap_check.specs.Checked.{tree_in}
use Rattle.sap_check.specs.Sites.{sites_of}
use Rattle.sap_names.specs.Entities.{entities_of}
use Rattle.sap_explain.specs.Explanation.{site_comments}
use Rattle.sap_explain.proofs.site.push_sites.Given as goal

-- with the sites that are left
abbrev pub invariant-loop-place : goal.invariant-loop-place
invariant-loop-place l =
    l.out.items ++ site_comments l.part (entities_of (tree_in l.checked)) (l.place + 1) (drop l.place (sites_of (tree_in l.checked)))
    ≡ l.fn.out.items ++ site_comments l.part (entities_of (tree_in l.checked)) 1 (sites_of (tree_in l.checked))
