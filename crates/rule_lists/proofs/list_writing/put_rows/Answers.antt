use Rattle.std.proofs.Common.{arith, rules}
use Rattle.rule_lists.proofs.WritingLaws.{rows_laws, key_fits, putting_next}
use Rattle.rule_lists.proofs.list_writing.put_rows.Goals as goal

pub loop-i-init : goal.loop-i-init
loop-i-init c = search rows_laws

pub put_at-place-requires : goal.put_at-place-requires
put_at-place-requires c = (omega arith, key_fits _ _ _ _ c.requires.n_bound.0 c.requires.n_bound.1 (search rules) c.requires.some_kept _ c.loop-i-test.true)

pub loop-i-preserved : goal.loop-i-preserved
loop-i-preserved c =
    let k = c.requires.n_bound in
    (search rules, putting_next _ _ _ _ k.0 k.1 (search rules) _ _ _ c.loop-i-test.true c.loop-i.invariant.1 _ _ c.put_at-place.ensures)

pub returns : goal.returns
returns c = search rows_laws
