use Rattle.phoneme_builder.proofs.TableLaws.{keep_laws}
use Rattle.phoneme_builder.proofs.expressions.keep.Goals as goal

pub returns-then-merge_codes-before : goal.returns-then-merge_codes-before
returns-then-merge_codes-before c = search keep_laws
