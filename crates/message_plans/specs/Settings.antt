-- Changes of a view alone: its settings (selection, target, search flags, indicator, mask of what it hears, whether it converts what is pasted and
-- records) and the lines that it shows, which answer 0, and the search in its target. Changes of a document other than edits of its text: of styles,
-- markers, indicators, levels and states of lines, of its modes, and of its undo history.
use Rattle.std.specs.Prelude.{ℕ, if◌then◌else◌, Bool, List, [], ◌∷◌, Ok, Option, Some, None, is_some}
use Rattle.ed_types.specs.declared.kind.Kind.{Kind}
use Rattle.ed_types.specs.declared.kind.Kind.TheVariants as kinds
use Rattle.ed_types.specs.Messages.{number_of, kind_among}
use Rattle.ed_model.specs.declared.plan.Plan.TheVariants as plan
use Rattle.ed_model.specs.Requests.{Request, Planned}
use Rattle.ed_model.specs.Table.{plan_of}
use Rattle.message_requests.specs.declared.answers.ChangePlan.{ChangePlan}
use Rattle.message_requests.specs.declared.answers.ViewPlan.{ViewPlan}

-- the changes of a view, in rising order of their numbers
abbrev pub view_changes : List Kind
view_changes = kinds.SelectAll ∷ kinds.GotoLine ∷ kinds.GotoPos ∷ kinds.SetAnchor ∷ kinds.SetCurrentPos ∷ kinds.SetSelectionStart ∷
    kinds.SetSelectionEnd ∷ kinds.SetSel ∷ kinds.SetTargetStart ∷ kinds.SetTargetEnd ∷ kinds.SearchInTarget ∷ kinds.SetSearchFlags ∷
    kinds.ShowLines ∷ kinds.HideLines ∷ kinds.SetFoldExpanded ∷ kinds.ToggleFold ∷ kinds.EnsureVisible ∷ kinds.FoldLine ∷
    kinds.TargetFromSelection ∷ kinds.CharLeft ∷ kinds.CharLeftExtend ∷ kinds.CharRight ∷ kinds.CharRightExtend ∷ kinds.Home ∷ kinds.HomeExtend ∷
    kinds.LineEnd ∷ kinds.LineEndExtend ∷ kinds.DocumentStart ∷ kinds.DocumentStartExtend ∷ kinds.DocumentEnd ∷ kinds.DocumentEndExtend ∷
    kinds.SetModEventMask ∷ kinds.SetPasteConvertEndings ∷ kinds.SetIndicatorCurrent ∷ kinds.SetIndicatorValue ∷ kinds.SetEmptySelection ∷
    kinds.SetTargetRange ∷ kinds.TargetWholeDocument ∷ kinds.StartRecord ∷ kinds.StopRecord ∷ []

-- the one with this number
abbrev pub view_change_at : ℕ → Option Kind
view_change_at number = kind_among view_changes number

abbrev pub is_view_change : Kind → Bool
is_view_change kind = is_some (view_change_at (number_of kind))

-- what a plan changes in the view, or that it changes nothing; none for other plans
abbrev pub view_change_planned : Planned → Option ViewPlan
view_change_planned (Ok (plan.ChangeView change value)) = Some (record { change = Some change; value = value })
view_change_planned (Ok (plan.Answer value)) = Some (record { change = None; value = value })
view_change_planned other = None

-- what the plan of such a message changes; none for all other messages, and if the message is refused
abbrev pub view_change_asked : Kind → Request → Option ViewPlan
view_change_asked kind r = if is_view_change kind then view_change_planned (plan_of kind r) else None

-- the changes of a document, in rising order of their numbers
abbrev pub document_changes : List Kind
document_changes = kinds.SetUndoCollection ∷ kinds.SetSavePoint ∷ kinds.MarkerDeleteHandle ∷ kinds.SetEolMode ∷ kinds.StartStyling ∷
    kinds.SetStyling ∷ kinds.MarkerAdd ∷ kinds.MarkerDelete ∷ kinds.MarkerDeleteAll ∷ kinds.SetStylingEx ∷ kinds.BeginUndoAction ∷
    kinds.EndUndoAction ∷ kinds.SetLineState ∷ kinds.SetReadOnly ∷ kinds.EmptyUndoBuffer ∷ kinds.SetFoldLevel ∷ kinds.MarkerAddSet ∷
    kinds.IndicatorFillRange ∷ kinds.IndicatorClearRange ∷ kinds.AddUndoAction ∷ kinds.SetLineEndTypesAllowed ∷ kinds.Colourise ∷ []

-- the one with this number
abbrev pub document_change_at : ℕ → Option Kind
document_change_at number = kind_among document_changes number

abbrev pub is_document_change : Kind → Bool
is_document_change kind = is_some (document_change_at (number_of kind))

-- what a plan changes in the document, or that it changes nothing; none for other plans
abbrev pub document_change_planned : Planned → Option ChangePlan
document_change_planned (Ok (plan.ChangeDocument change value)) = Some (record { change = Some change; value = value })
document_change_planned (Ok (plan.Answer value)) = Some (record { change = None; value = value })
document_change_planned other = None

-- what the plan of such a message changes; none for all other messages, and if the message is refused
abbrev pub document_change_asked : Kind → Request → Option ChangePlan
document_change_asked kind r = if is_document_change kind then document_change_planned (plan_of kind r) else None
