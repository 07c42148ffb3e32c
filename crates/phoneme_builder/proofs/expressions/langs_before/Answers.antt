use lib.ListN.{length-take}
use native.Mathlib.Omega.{arith}
use Prim.Native.Nat.{◌<◌}
use Rattle.phoneme_builder.specs.declared.expressions.Candidate.{Candidate}
use Rattle.phoneme_builder.proofs.TableLaws.{looking_next, looking_laws}
use Rattle.phoneme_builder.proofs.expressions.langs_before.Goals as goal

pub loop-y-init : goal.loop-y-init
loop-y-init c = search looking_laws

pub loop-y-preserved : goal.loop-y-preserved
loop-y-preserved c =
    let h : c.loop-y.y-index < c.args.n = omega (arith, length-take {A = Candidate}) in
    looking_next c.requires _ h c.loop-y.invariant _ c.langs_if_alike.ensures _ c.merge_codes-langs.ensures
