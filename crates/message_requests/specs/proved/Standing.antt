-- In a sound request, the positions and lines of the view are those of its document.
use Rattle.std.proofs.Common.{◌≡◌, ℕ, ◌≤◌, ◌∙◌, List, ap, sym, length, ◌++◌, ◌+◌, length-append}
use Rattle.ed_model.specs.Requests.{Request, line_total, size, text}
use Rattle.ed_model.specs.Text.{Cell}
use Rattle.std.proofs.lemmas.List.{length-map}
use Rattle.ed_model.specs.PlansFit.{IsSoundRequest}
use Rattle.ed_model.specs.proved.Requests.{request_stands, request_document}

pub caret_in_text : (r : Request) → IsSoundRequest r → r.view.caret ≤ size r
caret_in_text r s = (request_stands r s).caret

pub styled_in_text : (r : Request) → IsSoundRequest r → r.document.end_styled ≤ size r
styled_in_text r s = (request_document r s).styled

pub anchor_in_text : (r : Request) → IsSoundRequest r → r.view.anchor ≤ size r
anchor_in_text r s = (request_stands r s).anchor

pub target_start_in_text : (r : Request) → IsSoundRequest r → r.view.target_start ≤ size r
target_start_in_text r s = (request_stands r s).target_start

pub target_end_in_text : (r : Request) → IsSoundRequest r → r.view.target_end ≤ size r
target_end_in_text r s = (request_stands r s).target_end

-- the two halves of a text are together as long as the text
pub length_text : (first second : List ℕ) (r : Request) → first ++ second ≡ text r → length first + length second ≡ size r
length_text first second r e =
    sym (length-append first second) ∙ ap length e ∙ length-map r.document.cells (λ (c : Cell). c.byte)

pub flags_of_lines : (r : Request) → IsSoundRequest r → length r.view.flags ≡ line_total r
flags_of_lines r s = (request_stands r s).lines
