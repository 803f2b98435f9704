use Rattle.sap_show.proofs.PlacesAside.{places_aside}
use Rattle.sap_show.proofs.Shown.{shown_again}
use Rattle.sap_show.proofs.law.one_text.Goals as goal

pub returns-clause-places_aside : goal.returns-clause-places_aside
returns-clause-places_aside c = places_aside

pub returns-clause-shown_again : goal.returns-clause-shown_again
returns-clause-shown_again c = shown_again c.one_reading.ensures.one_design
