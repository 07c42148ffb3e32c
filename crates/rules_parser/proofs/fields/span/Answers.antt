use borrow.Author.Rules.{rules}
use Rattle.rules_parser.proofs.FieldLaws.{span_more, span_stop, span_past}
use Rattle.rules_parser.proofs.fields.span.Goals as goal

pub returns-then-not-passes : goal.returns-then-not-passes
returns-then-not-passes g c = λ k h. span_stop k _ _ _ _ c.loop-i-test.true (h _ _ (c.type_inv.s c.loop-i.i).fits c.passes.ensures) (search rules) (c.loop-i.invariant k h)

pub loop-i-preserved : goal.loop-i-preserved
loop-i-preserved g c = λ k h. span_more k _ _ _ _ c.loop-i-test.true (h _ _ (c.type_inv.s c.loop-i.i).fits c.passes.ensures) (search rules) (c.loop-i.invariant k h)

pub returns : goal.returns
returns g c = λ k h. span_past k _ _ _ _ c.loop-i-test.false c.loop-i.auto.i-end (c.loop-i.invariant k h) c.max.ensures
