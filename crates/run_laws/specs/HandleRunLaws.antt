-- Each handle is given once: if no marker of the document has a handle any more, none ever has it again.
use Rattle.std.specs.Prelude.{◌≡◌, ℕ, ◌<◌, List, Some}
use Rattle.ed_types.specs.declared.script.Command.{Command}
use Rattle.ed_model.specs.Session.{Document, document_at}
use Rattle.ed_model.specs.SoundLaws.{IsSound, occurrences, handles_in}
use Rattle.ed_model.specs.Run.{Running, run_to}

-- the handle was given, and no marker of the document has it
abbrev pub IsGone : ℕ → Document → Type 0
IsGone handle d = (handle < d.next_handle) × (occurrences handle (handles_in d.rows) ≡ 0)

abbrev pub HandlesNeverComeBack : Type 0
HandlesNeverComeBack =
    (files : List (List ℕ)) (commands : List Command) (s : Running) (id handle : ℕ) (d e : Document) →
    IsSound s.session → document_at s.session.documents id ≡ Some d → IsGone handle d →
    document_at (run_to files commands s).session.documents id ≡ Some e → IsGone handle e
