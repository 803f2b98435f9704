-- What a check site does, as a text: its word, and the name of its entity.
use Rattle.std.specs.Prelude.{ℕ, List, [], ◌++◌, codes, unwrap_or, option_map, slice_get}
use Rattle.sap_names.specs.declared.entity.Entity.{Entity}
use Rattle.sap_check.specs.declared.site.Site.{Site}
use Rattle.sap_check.specs.declared.site.SiteKind.{SiteKind}
use Rattle.sap_check.specs.declared.site.SiteKind.TheVariants as sites

-- The name of the entity of a number.
abbrev pub entity_name : List Entity → ℕ → List ℕ
entity_name es n = unwrap_or (option_map (λ e. e.name.name) (slice_get es n)) []

-- The word for a kind of site in the report.
abbrev pub site_word : SiteKind → List ℕ
site_word sites.Write = codes "write"
site_word sites.SetTag = codes "setTag"
site_word sites.Goto = codes "goto"
site_word sites.Fall = codes "fall"

-- The word and the entity of a site, as the report has them.
unfoldable pub site_target : List Entity → Site → List ℕ
site_target es s = site_word s.kind ++ codes " " ++ entity_name es s.entity
