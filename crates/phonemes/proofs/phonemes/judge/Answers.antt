use Rattle.std.proofs.Common.{◌∙◌, ap, eqb, rules, tests, arith}
use Rattle.std.proofs.lemmas.Iterator.Splits.{YieldsList-from_slice_split}
use Rattle.std.proofs.lemmas.Iterator.Consumers.{YieldsList-turn, YieldsList-end}
use Rattle.std.proofs.lemmas.List.{length_push}
use Rattle.phonemes.specs.Expressions.{bar, formed_piece}
use Rattle.phonemes.specs.InnerContracts.{listed_piece}
use Rattle.phonemes.proofs.CutLaws.{judging_next, judging_stop, judging_done, judging_fits}
use Rattle.phonemes.proofs.phonemes.judge.Goals as goal

pub returns-then-not-is_formed : goal.returns-then-not-is_formed
returns-then-not-is_formed c =
    let t = YieldsList-turn (YieldsList-from_slice_split _ (λ x. eqb x bar) {f = c.split-part-items.result.pred} c.args.t.now (cc) (cc) (cc) (λ x b q k. search (rules, tests))) c.loop-part.yielded _ c.loop-part.yielded_by _ _ c.in-Some.part c.in-Some.is c.next.ensures.steps in
    judging_stop c.loop-part.invariant c.in-Some.part.now t.0 t.1 _ (c.is_formed.ensures ∙ ap formed_piece c.of-piece.ensures) (search rules)

pub overflow_add-count : goal.overflow_add-count
overflow_add-count c =
    let t = YieldsList-turn (YieldsList-from_slice_split _ (λ x. eqb x bar) {f = c.split-part-items.result.pred} c.args.t.now (cc) (cc) (cc) (λ x b q k. search (rules, tests))) c.loop-part.yielded _ c.loop-part.yielded_by _ _ c.in-Some.part c.in-Some.is c.next.ensures.steps in
    judging_fits c.loop-part.invariant c.in-Some.part.now t.0 t.1 c.requires (omega arith)

pub loop-part-preserved : goal.loop-part-preserved
loop-part-preserved c =
    let t = YieldsList-turn (YieldsList-from_slice_split _ (λ x. eqb x bar) {f = c.split-part-items.result.pred} c.args.t.now (cc) (cc) (cc) (λ x b q k. search (rules, tests))) c.loop-part.yielded _ c.loop-part.yielded_by _ _ c.in-Some.part c.in-Some.is c.next.ensures.steps in
    rw length_push
    (judging_next c.loop-part.invariant c.in-Some.part.now t.0 t.1 _ (c.is_formed.ensures ∙ ap formed_piece c.of-piece.ensures) (search rules) _
    (c.is_listed-known.ensures ∙ ap (listed_piece c.args.names.now) c.of-piece.ensures))

pub returns : goal.returns
returns c =
    let t = YieldsList-end (YieldsList-from_slice_split _ (λ x. eqb x bar) {f = c.split-part-items.result.pred} c.args.t.now (cc) (cc) (cc) (λ x b q k. search (rules, tests))) c.loop-part.yielded _ c.loop-part.yielded_by _ _ c.in-None.is c.next.ensures.steps in
    judging_done c.loop-part.invariant t.1 _ c.told_of.ensures
