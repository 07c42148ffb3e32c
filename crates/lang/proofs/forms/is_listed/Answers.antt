use Rattle.lang.proofs.FormLaws.{listing_laws}
use Rattle.lang.proofs.forms.is_listed.Goals as goal

pub returns-then-not-may_stand_in_box : goal.returns-then-not-may_stand_in_box
returns-then-not-may_stand_in_box c = search listing_laws
