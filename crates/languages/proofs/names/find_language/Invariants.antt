use Rattle.languages.proofs.NameLaws.{Seen}
use Rattle.languages.proofs.names.find_language.Given as goal

abbrev pub invariant-loop-place : goal.invariant-loop-place
invariant-loop-place l = Seen l.names l.name l.at l.place
