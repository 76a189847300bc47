use Rattle.scene.proofs.Names.{◌≡◌, sym, ap, ◌∙◌, bit_and, outline_of, watchers, masks_of, bits_of, outline_kinds}
use Rattle.scene.proofs.KindLemmas.{none_by_masks}
use Rattle.scene.proofs.ChangeSteps.{needs_no_note}
use Rattle.scene.proofs.undoing.change_note_need.Goals as goal

pub returns-then-masks-kinds_of-eq0 : goal.returns-then-masks-kinds_of-eq0
returns-then-masks-kinds_of-eq0 c = λ change e.
    let W = watchers c.args.document.now.document c.args.views.now in
    let who = bits_of c.args.direction in
    let kinds = outline_kinds who (outline_of change) in
    let is : c.kinds_of.result ≡ kinds = c.kinds_of.ensures ∙ ap (outline_kinds who) e in
    let apart : bit_and (masks_of W) kinds ≡ 0 =
    ap (λ m. bit_and m kinds) (sym c.requires.masks) ∙ ap (bit_and c.args.masks) (sym is) ∙ c.if-masks-kinds_of-eq0.true in
    c.none.ensures ∙ needs_no_note who change W (none_by_masks kinds W apart)
