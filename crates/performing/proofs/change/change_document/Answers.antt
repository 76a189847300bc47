use Rattle.performing.proofs.Changes.{◌≡◌, err_from_is_err_and, false, refl, ap, sym, ◌∙◌, rules, inl, inr, Gathered, new_view, new_document, is_of_types, changed_and_told, fits_in, free_is_ready, untold_if_full}
use Rattle.performing.proofs.change.change_document.Goals as goal

pub returns-in-SetLineEndTypes-clause-changed : goal.returns-in-SetLineEndTypes-clause-changed
returns-in-SetLineEndTypes-clause-changed c = rw c.in-SetLineEndTypes.is (c.set_line_end_types.ensures.changed c.args.text.now c.args.sender c.args.notes.now)

pub returns-in-SetLineEndTypes-clause-same : goal.returns-in-SetLineEndTypes-clause-same
returns-in-SetLineEndTypes-clause-same c = rw c.in-SetLineEndTypes.is (c.set_line_end_types.ensures.same c.args.notes.now)

pub returns-in_err-reserve-clause-same : goal.returns-in_err-reserve-clause-same
returns-in_err-reserve-clause-same c =
    rw ((err_from_is_err_and c.from_residual.result c.from_residual.ensures.1).1, c.in_err-reserve.ensures.err) (record { document = refl; reserved = inl refl; views = refl; notes = refl })

pub returns-in_err-note-clause-same : goal.returns-in_err-note-clause-same
returns-in_err-note-clause-same c =
    let reserved = rw c.change_note_need.ensures at c.in_ok-reserve.ensures.ok in let refused = c.in_err-note.ensures in
    rw (err_from_is_err_and c.from_residual-in_err-note.result c.from_residual-in_err-note.ensures.1).1
    (record { document = refused.1; reserved = inr refused.2; views = refl; notes = ap (λ (g : Gathered). g.notes) reserved })

pub returns-in_err-note-clause-free : goal.returns-in_err-note-clause-free
returns-in_err-note-clause-free c = λ no none. absurd (c.in_err-note.ensures.0 (free_is_ready c.args.change.now c.args.document.now no))

pub tell-requires : goal.tell-requires
tell-requires c =
    let a = c.args in let made = c.in_ok-note.ensures in let alone : is_of_types a.change.now ≡ false = search rules in let reserved = rw c.change_note_need.ensures at c.in_ok-reserve.ensures.ok in
    record {
      fits = made.fits;
      named = c.requires.watched.named;
      room = fits_in a.text.now a.change.now a.document.now c.make.new.document c.in_ok-note.note a.views.now alone c.requires.watched made a.notes.now c.reserve.new.self reserved;
    }

pub returns-then-is_full-clause-changed : goal.returns-then-is_full-clause-changed
returns-then-is_full-clause-changed c =
    let a = c.args in let alone : is_of_types a.change.now ≡ false = search rules in let reserved = rw c.change_note_need.ensures at c.in_ok-reserve.ensures.ok in
    untold_if_full a.text.now a.change.now a.document.now c.make.new.document c.in_ok-note.note a.views.now alone c.requires.watched c.in_ok-note.ensures a.notes.now c.reserve.new.self reserved a.sender
    (sym c.is_full.ensures ∙ c.if-is_full.true)

pub returns-clause-changed : goal.returns-clause-changed
returns-clause-changed c =
    let a = c.args in let alone : is_of_types a.change.now ≡ false = search rules in
    changed_and_told a.text.now a.change.now a.document.now c.make.new.document c.in_ok-note.note a.views.now alone c.requires.watched c.in_ok-note.ensures a.sender a.notes.now c.reserve.new.self c.tell.new.notes
    (ap (λ (g : Gathered). g.notes) c.in_ok-reserve.ensures.ok) c.tell.ensures

pub returns-clause-notes : goal.returns-clause-notes
returns-clause-notes c =
    let sender = (let v = new_view 0 (new_document 0 0) in record v { id = c.args.sender }) in let reserved = rw c.change_note_need.ensures at c.in_ok-reserve.ensures.ok in
    rw (c.tell.ensures sender refl, reserved) (refl, inr refl)
