-- The document that lent its bytes is as it was, and so is the table.
use Rattle.editor_session.proofs.Names.{◌≡◌, refl, ap, sym, subst, IfSome, ◌+◌, slice_range, text_of, staying, document_of, id_of_document}
use Rattle.editor_session.proofs.lending.lend_in.Goals as goal

pub returns : goal.returns
returns c =
    let documents = c.args.documents.now in
    let at = c.at_mut-document.ensures.value in
    let whole = ap (λ es. record documents { entries = es })
    (staying document_of id_of_document documents.entries c.args.document documents.next c.requires.named c.requires.rise c.at_mut-document.result.now c.lend.follows.lender-at-none at c.lend.follows.holds-at-none) in (
      (refl, (λ _. tt), whole),
      record {
        back = tt;
        value = subst (λ o. IfSome o (λ k. c.lend.result.now ≡ slice_range (text_of k.document) c.args.start (c.args.start + c.args.count))) (sym at) c.lend.ensures.value;
      },
    )
