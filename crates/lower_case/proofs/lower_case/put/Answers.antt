use Rattle.lower_case.proofs.LowerLaws.{put_is}
use Rattle.lower_case.proofs.lower_case.put.Goals as goal

pub returns : goal.returns
returns c = put_is _ _ _ _ c.requires c.copy_from_slice.ensures.after
