-- A reference to the document is released, and the document stays or is dropped.
use Rattle.std.proofs.Common.{sym, ap}
use Rattle.document.specs.Kept.{Kept}
use Rattle.document_table.specs.Leaving.{released}
use Rattle.document_table.proofs.LeavingLemmas.{nothing_there, still_there, gone, other_with, other_gone, rest_with, rest_without}
use Rattle.document_table.proofs.table.DocumentTable.release.Goals as goal

pub returns-in_default-clause-documents : goal.returns-in_default-clause-documents
returns-in_default-clause-documents c = nothing_there c.args.id released c.args.self.now.entries (sym c.in_default.ensures.value)

pub returns-then-not-has_references-clause-documents : goal.returns-then-not-has_references-clause-documents
returns-then-not-has_references-clause-documents c =
    rw c.remove.ensures (gone c.args.id released c.args.self.now.entries c.in-Some.document.now c.release.new.self (sym c.in-Some.ensures.value) (ap (λ (k : Kept). k.document) c.release.ensures) (sym c.if-not-has_references.ensures))

pub returns-then-not-has_references-clause-others : goal.returns-then-not-has_references-clause-others
returns-then-not-has_references-clause-others c other differs =
    rw c.remove.ensures (other_gone c.args.id other c.release.new.self c.args.self.now.entries differs)

pub returns-then-not-has_references-clause-rest : goal.returns-then-not-has_references-clause-rest
returns-then-not-has_references-clause-rest c =
    rw c.remove.ensures (rest_without c.args.id c.release.new.self c.args.self.now.entries)

pub returns-else-not-has_references-clause-documents : goal.returns-else-not-has_references-clause-documents
returns-else-not-has_references-clause-documents c =
    still_there c.args.id released c.args.self.now.entries c.in-Some.document.now c.release.new.self (sym c.in-Some.ensures.value) (ap (λ (k : Kept). k.document) c.release.ensures) (sym c.if-not-has_references.ensures)

pub returns-else-not-has_references-clause-others : goal.returns-else-not-has_references-clause-others
returns-else-not-has_references-clause-others c other differs =
    other_with c.args.id other c.release.new.self c.args.self.now.entries differs

pub returns-else-not-has_references-clause-rest : goal.returns-else-not-has_references-clause-rest
returns-else-not-has_references-clause-rest c =
    rest_with c.args.id c.in-Some.document.now c.release.new.self _ c.args.self.now.entries (sym c.in-Some.ensures.value) c.release.ensures
