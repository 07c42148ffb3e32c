use Rattle.phoneme_builder.proofs.WordLaws.{given_past, given_over, given_in, giving_laws}
use Rattle.phoneme_builder.proofs.words.give.Goals as goal
use Rattle.phoneme_builder.proofs.words.give.Goals.{else-at-out-via-then-at-out+else-length-out, else-at-out-via-else-at-out}

pub returns-then-n-eq0 : goal.returns-then-n-eq0
returns-then-n-eq0 c = search giving_laws

pub returns-then-length-out : goal.returns-then-length-out
returns-then-length-out c =
    given_in c.requires c.if-n-eq0.false _ c.bytes_barred-length.ensures _ _ c.if-at-out.true c.if-length-out.true _ c.put_joined.ensures

pub returns-else-at-out : goal.returns-else-at-out
returns-else-at-out c =
    elim c.else-at-out.branch [
      | else-at-out-via-then-at-out+else-length-out w ↦ given_over c.requires c.if-n-eq0.false _ c.bytes_barred-length.ensures _ _ w.if-at-out.true w.if-length-out.false
      | else-at-out-via-else-at-out w ↦ given_past c.requires c.if-n-eq0.false _ c.bytes_barred-length.ensures _ _ w.if-at-out.false
    ]
