use Rattle.loader.proofs.LoadingLaws.{files}
use Rattle.loader.proofs.loading.load_files.Goals as goal

pub returns-in-Ok : goal.returns-in-Ok
returns-in-Ok c = search files

pub returns-in-Err : goal.returns-in-Err
returns-in-Err c = search files
