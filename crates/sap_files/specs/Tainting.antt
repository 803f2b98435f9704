-- What a module becomes to which tags are added.
use Rattle.std.specs.Prelude.{ℕ, List}
use Rattle.sap_lattice.specs.Order.{Order}
use Rattle.sap_lattice.specs.Codes.{width_of}
use Rattle.sap_lattice.specs.Levels.{Levels, order_of}
use Rattle.sap_net.specs.Net.{Net}
use Rattle.sap_vtext.specs.Modules.{IsModule}
use Rattle.sap_taint.specs.Carries.{TakesTags, OneTaggedRun, ShowsTaint, TagsStayCodes, RunsWithTagsAgree}
use Rattle.sap_taint.specs.TaggedForm.{HasTaggedForm}

-- `tagged` is the netlist `net` with tags. It has the names and ports of `net`, each followed by its tag, which is as
-- wide as codes of levels. It takes what `net` takes, with tags, and has exactly one run on it. There the names have
-- the numbers of the run of `net`, and the tags its taint. Codes stay codes, and on streams that agree at a level its
-- runs agree there in every cycle.
pub record HasTaintOf (o : Order) (net tagged : Net) : Type 0 where
  pub form : HasTaggedForm (width_of o) net tagged
  pub takes : TakesTags (width_of o) net tagged
  pub one_run : OneTaggedRun (width_of o) net tagged
  pub shows : ShowsTaint net tagged
  pub codes : TagsStayCodes o net tagged
  pub agree : RunsWithTagsAgree o net tagged

-- The text is one of the module with tags.
pub record IsTaintedText (ls : Levels) (net : Net) (text : List ℕ) : Type 0 where
  pub tagged : Net
  pub is_module : IsModule text tagged
  pub taint : HasTaintOf (order_of ls) net tagged
