use Rattle.run_laws.proofs.LastSavePointLemmas.{saved_is_unmodified, unmodified_is_told, unmodified_is_the_last_saved_text, told_unmodified_is_the_last_saved_text}
use Rattle.run_laws.proofs.save_point_laws.an_unmodified_document_has_its_last_saved_text.Goals as goal

pub returns : goal.returns
returns c =
    let fits = c.plans_are_fit.ensures.in_range in
    let before = c.an_unmodified_document_has_its_saved_text.ensures in
    let last = unmodified_is_the_last_saved_text fits before.text c.soundness_is_kept.ensures.by_commands c.session_is_sound.ensures.new_session in
    record {
      saved = saved_is_unmodified fits;
      told = unmodified_is_told;
      text = last;
      asked = told_unmodified_is_the_last_saved_text last before.told;
    }
