use Rattle.pack_bytes.proofs.PutLaws.{put_laws}
use Rattle.pack_bytes.proofs.put_mask.Goals as goal

pub returns : goal.returns
returns c = search put_laws
