use Rattle.loader.proofs.LoadingLaws.{answers, answer_copied}
use Rattle.loader.proofs.loading.load_pack.Goals as goal

pub returns-then-out-length : goal.returns-then-out-length
returns-then-out-length c = search answers

-- what was made in the call's own buffer is copied
pub returns-then-length-le-OWN : goal.returns-then-length-le-OWN
returns-then-length-le-OWN c =
    answer_copied _ _ _ _ c.write_pack.ensures _ _ _ (search answers) (search answers) _ (search answers) c.copy.ensures

pub returns-else-length-le-OWN : goal.returns-else-length-le-OWN
returns-else-length-le-OWN c = search answers

pub returns-in-Err : goal.returns-in-Err
returns-in-Err c = search answers
