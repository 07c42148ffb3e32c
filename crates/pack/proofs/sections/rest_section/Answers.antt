use Rattle.std.proofs.lemmas.Result.{err_from_is_err_and}
use Rattle.pack.proofs.SectionLaws.{rest_laws}
use Rattle.pack.proofs.sections.rest_section.Goals as goal

pub returns-then-pack-at : goal.returns-then-pack-at
returns-then-pack-at c = search rest_laws

pub returns-then-count-languages : goal.returns-then-count-languages
returns-then-count-languages c = search rest_laws

pub returns-in_err-end : goal.returns-in_err-end
returns-in_err-end c =
    let p = err_from_is_err_and c.from_residual.result c.from_residual.ensures.1 in
    rw (p.1, p.2) (search (rest_laws, c.in_err-end.was))

pub returns-then-end-pack : goal.returns-then-end-pack
returns-then-end-pack c = search (rest_laws, c.in_ok-end.was)

pub returns-else-end-pack : goal.returns-else-end-pack
returns-else-end-pack c = search (rest_laws, c.in_ok-end.was)
