use Rattle.pack.proofs.SectionLaws.{survey_laws}
use Rattle.pack.proofs.sections.survey.Goals as goal

pub returns-in_default : goal.returns-in_default
returns-in_default c = search survey_laws

pub returns-in_default-guess_section : goal.returns-in_default-guess_section
returns-in_default-guess_section c = search survey_laws

pub rest_section-requires : goal.rest_section-requires
rest_section-requires c = search survey_laws

pub returns-in-Ok : goal.returns-in-Ok
returns-in-Ok c = search survey_laws

pub returns-in-Err : goal.returns-in-Err
returns-in-Err c = search survey_laws
