use Rattle.phoneme_builder.proofs.UniteLaws.{unite_laws}
use Rattle.phoneme_builder.proofs.unite.unite_row.Goals as goal

pub offset_bounds-slots-p : goal.offset_bounds-slots-p
offset_bounds-slots-p c = search unite_laws

pub bounds-slots-p : goal.bounds-slots-p
bounds-slots-p c = search unite_laws

pub offset_bounds-slots-p-in-Ok : goal.offset_bounds-slots-p-in-Ok
offset_bounds-slots-p-in-Ok c = search unite_laws

pub bounds-slots-p-in-Ok : goal.bounds-slots-p-in-Ok
bounds-slots-p-in-Ok c = search unite_laws

pub returns-then-count-ge-MOST : goal.returns-then-count-ge-MOST
returns-then-count-ge-MOST c = search unite_laws

pub insert_row-requires : goal.insert_row-requires
insert_row-requires c = search unite_laws

pub returns-in-Ok : goal.returns-in-Ok
returns-in-Ok c = search unite_laws

pub returns-else-count-ge-MOST : goal.returns-else-count-ge-MOST
returns-else-count-ge-MOST c = search unite_laws
