use Rattle.editor_session.proofs.Names.{◌≡◌, ℕ, ◌+◌, ◌<◌, ◌≤◌, ap, ◌∙◌, arith, Some, length, Ok, Err, slice_range, nat_le, BadArgument, Session, Document, View, document_at, view_at, text_of, value_at, sym, subst, IfSome, session_in, lt-leb, le-leb}
use Rattle.editor_session.specs.Lent.{lent_range, lent_from, lent_of, lent_if}
use Rattle.editor_session.proofs.lending.document_with.Goals as goal

-- What is lent, by the table of documents and that of views.
module _ (s : Session) (view start count : ℕ) (v : View) (d : Document) (seen : view_at s.views view ≡ Some v) (there : document_at s.documents v.document ≡ Some d) where
  lends_if : lent_range s view start count ≡ lent_if (nat_le (start + count) (length d.cells)) start count d
  lends_if = ap (lent_from s start count) seen ∙ ap (lent_of start count) there

  past_end : length d.cells < start + count → lent_range s view start count ≡ Err BadArgument
  past_end h = lends_if ∙ ap (λ b. lent_if b start count d) (lt-leb (start + count) (length d.cells) h)

  range_lent : start + count ≤ length d.cells → lent_range s view start count ≡ Ok (slice_range (text_of d) start (start + count))
  range_lent h = lends_if ∙ ap (λ b. lent_if b start count d) (le-leb (start + count) (length d.cells) h)

pub returns-in_default-clause-refused : goal.returns-in_default-clause-refused
returns-in_default-clause-refused c = ap (lent_from (session_in c.args.state.now) c.args.start c.args.count) c.in_default.ensures.none

pub returns-then-length-start-clause-refused : goal.returns-then-length-start-clause-refused
returns-then-length-start-clause-refused c =
    let a = c.args in let f = c.in-Some.found in
    let past : length f.document.now.document.cells < a.start + a.count = omega (arith, c.if-length-start.true, c.len-length.ensures.len) in
    past_end (session_in a.state.now) a.view a.start a.count f.view.now.view f.document.now.document c.in-Some.ensures.view c.in-Some.ensures.document past

pub returns-then-length-start-2-clause-refused : goal.returns-then-length-start-2-clause-refused
returns-then-length-start-2-clause-refused c =
    let a = c.args in let f = c.in-Some.found in
    let past : length f.document.now.document.cells < a.start + a.count = omega (arith, c.if-length-start.false, c.if-length-start-2.true, c.len-length.ensures.len) in
    past_end (session_in a.state.now) a.view a.start a.count f.view.now.view f.document.now.document c.in-Some.ensures.view c.in-Some.ensures.document past

pub returns-clause-bytes : goal.returns-clause-bytes
returns-clause-bytes c =
    let a = c.args in let f = c.in-Some.found in
    let within : a.start + a.count ≤ length f.document.now.document.cells = omega (arith, c.if-length-start.false, c.if-length-start-2.false, c.len-length.ensures.len) in
    let lent = range_lent (session_in a.state.now) a.view a.start a.count f.view.now.view f.document.now.document c.in-Some.ensures.view c.in-Some.ensures.document within in
    subst (λ o. IfSome o (λ x. lent_range (session_in a.state.now) a.view a.start a.count ≡ Ok (slice_range (text_of x.document) a.start (a.start + a.count))))
    (sym (ap (value_at a.state.now.documents.entries) c.document.ensures ∙ c.in-Some.ensures.entry)) lent
