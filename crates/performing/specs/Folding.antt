-- Changes of a view, and the capacity that they need in it.
use Rattle.std.specs.Prelude.{◌≡◌, ℕ, ◌+◌, ◌*◌, ◌≤◌, max, Bool, true, false, not, List, IfSome, IsSomeAnd}
use Rattle.ed_model.specs.declared.plan.ViewChange.{ViewChange}
use Rattle.ed_model.specs.declared.plan.ViewChange.TheVariants.{HideLines, SetExpanded, Contract, Expand, EnsureVisible}
use Rattle.ed_view.specs.Folding.{fold_need, HasFoldRoom}
use Rattle.ed_view.specs.Kept.{KeptView}
use Rattle.id_table.specs.Entries.{Entry, value_at}
use Rattle.scene.specs.Scenes.{AreNamed, KeepWidths}
use Rattle.message_requests.specs.declared.state.SessionState.{SessionState}
use Rattle.performing.specs.Kept.{OthersStay}

-- whether the change may need an allocation, for lines that it hides or contracts
abbrev pub takes_fold_room : ViewChange → Bool
takes_fold_room (HideLines first past) = true
takes_fold_room (SetExpanded line on) = not on
takes_fold_room (Contract line) = true
takes_fold_room (Expand line) = true
takes_fold_room (EnsureVisible line) = true
takes_fold_room other = false

-- The view has room for the change. For one that takes no room, it always has.
abbrev pub HasRoomFor : ViewChange → KeptView → Type 0
HasRoomFor change v = HasFoldRoom v.capacity (fold_need v.view.flags change)

-- the view with this id exists, and has room for the change
abbrev pub HasFoldRoomAt : List (Entry KeptView) → ℕ → ViewChange → Type 0
HasFoldRoomAt entries view change = IsSomeAnd (value_at entries view) (HasRoomFor change)

-- Its line numbers keep their width. What fits into the view stays if there is room for the change. Otherwise it is at most what the change needs, or about twice what it was.
pub record GrowsAtMost (change : ViewChange) (old new : KeptView) : Type 0 where
  pub width : new.large ≡ old.large
  pub enough : HasRoomFor change old → new.capacity ≡ old.capacity
  pub hidden : new.capacity.hidden ≤ max (fold_need old.view.flags change).hidden (2 * old.capacity.hidden + 1)
  pub contracted : new.capacity.contracted ≤ max (fold_need old.view.flags change).contracted (2 * old.capacity.contracted + 1)

-- Only the view with this id changes, and what fits into it grows at most as the change needs. All views are kept under their own ids, and keep
-- document and width.
pub record OnlyViewChanges (view : ℕ) (change : ViewChange) (old new : SessionState) : Type 0 where
  pub rest : new ≡ record old { views = record old.views { entries = new.views.entries } }
  pub views : AreNamed new.views.entries
  pub widths : KeepWidths old.views new.views
  pub others : OthersStay view old.views.entries new.views.entries
  pub room : IfSome (value_at old.views.entries view) (λ was. IfSome (value_at new.views.entries view) (GrowsAtMost change was))
