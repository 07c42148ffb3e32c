use Rattle.phoneme_builder.proofs.FinalLaws.{text_ran}
use Rattle.phoneme_builder.proofs.finals.run_text.Goals as goal

pub returns : goal.returns
returns c = text_ran c.requires _ c.begin-count.ensures _ _ _ _ _ c.copy_text-e.ensures c.langs_at-langs.ensures _ c.run.ensures
