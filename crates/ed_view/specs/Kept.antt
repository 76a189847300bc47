-- What a contract sees of a `View`.
use Rattle.std.specs.Prelude.{◌≡◌, ℕ, ◌+◌, Bool, List, length}
use Rattle.ed_model.specs.declared.plan.ViewChange.{ViewChange}
use Rattle.ed_model.specs.Changes.{changed_view}
use Rattle.ed_model.specs.Session.{Document, View, lines_in, new_view}
use Rattle.selection.specs.declared.selections.Selection.{Selection}
use Rattle.contraction.specs.ViewLines.{FoldCapacity}
use Rattle.ed_view.specs.Flags.{AreFewLines}
use Rattle.ed_view.specs.declared.view.Target.{Target}

-- the view, whether its line numbers have 64 bits, and not 32, and its capacity for hidden and contracted lines
pub record KeptView : Type 0 where
  pub view : View
  pub large : Bool
  pub capacity : FoldCapacity

-- it could count one line more
abbrev pub HasFewLines : KeptView → Type 0
HasFewLines kept = AreFewLines kept.large (length kept.view.flags + 1)

-- the view without its width and its capacity
abbrev pub view_in : KeptView → View
view_in kept = kept.view

-- the view is the model's new one of any document with this id and so many lines
abbrev pub IsNewView : (id document lines : ℕ) → View → Type 0
IsNewView id document lines v = (d : Document) → d.id ≡ document → lines_in d ≡ lines → v ≡ new_view id d

-- the view with this anchor and caret
abbrev pub with_selection : Selection → KeptView → KeptView
with_selection selection kept =
    record kept { view = record kept.view { anchor = selection.anchor; caret = selection.caret } }

-- the view with this target
abbrev pub with_target : Target → KeptView → KeptView
with_target target kept =
    record kept { view = record kept.view { target_start = target.start; target_end = target.end } }

-- the view after a change, with the width and the capacity that it had
abbrev pub with_change : List ℕ → ViewChange → KeptView → KeptView
with_change levels change kept = record kept { view = changed_view levels change kept.view }
