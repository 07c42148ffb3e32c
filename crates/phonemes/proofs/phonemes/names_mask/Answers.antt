use Rattle.std.proofs.Common.{◌∙◌, ap, eqb, rules, tests}
use Rattle.std.proofs.lemmas.Iterator.Splits.{YieldsList-from_slice_split}
use Rattle.std.proofs.lemmas.Iterator.Consumers.{YieldsList-turn, YieldsList-end}
use Rattle.std.proofs.lemmas.List.{length_push}
use Rattle.languages.specs.Numbers.{listed_numbers}
use Rattle.languages.proofs.NumberLaws.{listed_one}
use Rattle.phonemes.specs.Expressions.{plus}
use Rattle.phonemes.proofs.CutLaws.{naming_next, naming_stop, naming_done}
use Rattle.phonemes.proofs.phonemes.names_mask.Goals as goal

pub loop-name-preserved : goal.loop-name-preserved
loop-name-preserved c =
    let t = YieldsList-turn (YieldsList-from_slice_split _ (λ x. eqb x plus) {f = c.split-name-items.result.pred} c.args.joined.now (cc) (cc) (cc) (λ x b q k. search (rules, tests))) c.loop-name.yielded _ c.loop-name.yielded_by _ _ c.in-Some.name c.in-Some.is c.next.ensures.steps in
    rw length_push (naming_next c.loop-name.invariant c.in-Some.name.now t.0 t.1 _ (listed_one _ _ c.find_language.ensures) _ c.in_ok-mask.was)

pub returns-in_err-mask : goal.returns-in_err-mask
returns-in_err-mask c =
    let t = YieldsList-turn (YieldsList-from_slice_split _ (λ x. eqb x plus) {f = c.split-name-items.result.pred} c.args.joined.now (cc) (cc) (cc) (λ x b q k. search (rules, tests))) c.loop-name.yielded _ c.loop-name.yielded_by _ _ c.in-Some.name c.in-Some.is c.next.ensures.steps in
    ap listed_numbers (c.from_residual.ensures ∙ naming_stop c.loop-name.invariant c.in-Some.name.now t.0 t.1 _ (listed_one _ _ c.find_language.ensures) c.in_err-mask.was)

pub returns : goal.returns
returns c =
    let t = YieldsList-end (YieldsList-from_slice_split _ (λ x. eqb x plus) {f = c.split-name-items.result.pred} c.args.joined.now (cc) (cc) (cc) (λ x b q k. search (rules, tests))) c.loop-name.yielded _ c.loop-name.yielded_by _ _ c.in-None.is c.next.ensures.steps in
    ap listed_numbers (naming_done c.loop-name.invariant t.1)
