use Rattle.std.proofs.Common.{◌∙◌, rules, tests}
use Rattle.std.proofs.lemmas.Iterator.{YieldsList-from_slice}
use Rattle.std.proofs.lemmas.Iterator.Search.{any_from_yields_List}
use Rattle.letters.specs.Order.{same_text}
use Rattle.prefixes.proofs.PrefixLaws.{among_any}
use Rattle.prefixes.proofs.prefixes.is_among.Goals as goal

pub returns : goal.returns
returns c =
    any_from_yields_List (λ p. same_text p.now c.args.w.now) _ _ c.any.result c.any.ensures.ran (YieldsList-from_slice c.args.table.now cc) (λ x b q k. search (rules, tests))
    ∙ among_any c.args.w.now c.args.table.now
