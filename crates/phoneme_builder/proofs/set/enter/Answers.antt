use Rattle.phoneme_builder.proofs.EnterLaws.{enter_laws}
use Rattle.phoneme_builder.proofs.set.enter.Goals as goal

pub offset_bounds-slots-p : goal.offset_bounds-slots-p
offset_bounds-slots-p c = search enter_laws

pub bounds-slots-p : goal.bounds-slots-p
bounds-slots-p c = search enter_laws

pub offset_bounds-slots-p-in-Ok : goal.offset_bounds-slots-p-in-Ok
offset_bounds-slots-p-in-Ok c = search enter_laws

pub bounds-slots-p-in-Ok : goal.bounds-slots-p-in-Ok
bounds-slots-p-in-Ok c = search enter_laws

pub insert_text-requires : goal.insert_text-requires
insert_text-requires c = search enter_laws

pub returns-in-Ok : goal.returns-in-Ok
returns-in-Ok c = search enter_laws

pub returns-in-Err : goal.returns-in-Err
returns-in-Err c = search enter_laws
