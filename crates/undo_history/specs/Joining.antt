-- Which steps join, as the code decides it: by the places of steps and the number of their bytes.
use Rattle.std.specs.Prelude.{◌≡◌, ℕ, ◌+◌, ◌==◌, nat_le, ◌&&◌, ◌||◌, Bool, true, false, List, length, Option, Some, None, option_map}
use Rattle.ed_model.specs.History.{Transaction, first_changes, latest_text_step, with_change}
use Rattle.ed_model.specs.Steps as model
use Rattle.undo_history.specs.declared.records.StepKind.{StepKind}
use Rattle.undo_history.specs.declared.records.StepKind.TheVariants.{Insert, Delete}
use Rattle.undo_history.specs.declared.records.ChangeKind.{ChangeKind}
use Rattle.undo_history.specs.declared.records.ChangeKind.TheVariants.{Text, Container}
use Rattle.undo_history.specs.declared.records.StepOutline.{StepOutline}
use Rattle.undo_history.specs.Records.{change_of, LastIsOpen}

abbrev pub outline : StepKind → ℕ → ℕ → StepOutline
outline kind place count = record { kind = kind; place = place; count = count }

abbrev pub outline_of : model.Step → StepOutline
outline_of (model.Insert place bytes) = outline Insert place (length bytes)
outline_of (model.Delete place bytes) = outline Delete place (length bytes)

-- it is the latest step of the text in the last of these transactions, unless no change joins that
abbrev pub IsLatest : List Transaction → Option StepOutline → Type 0
IsLatest ts latest = LastIsOpen ts → latest ≡ option_map outline_of (latest_text_step (first_changes ts))

-- if it is `latest`, then it is `after` once a change has been appended
abbrev pub IsLatestAfter : Option StepOutline → Bool → ChangeKind → ℕ → Option StepOutline → Type 0
IsLatestAfter latest joined kind count after =
    (ts : List Transaction) (bytes : List ℕ) → IsLatest ts latest → (joined ≡ true → LastIsOpen ts) → count ≡ length bytes
    → IsLatest (with_change joined (change_of kind bytes) ts) after

abbrev pub by_kinds : StepKind → StepKind → StepOutline → StepOutline → Bool
by_kinds Insert Insert step earlier = step.place == earlier.place + earlier.count
by_kinds Insert Delete step earlier = false
by_kinds Delete Insert step earlier = false
by_kinds Delete Delete step earlier = nat_le step.count 2 && (step.place + step.count == earlier.place || step.place == earlier.place)

-- whether the step continues the earlier one
abbrev pub steps_go_on : StepOutline → StepOutline → Bool
steps_go_on step earlier = by_kinds step.kind earlier.kind step earlier

-- whether the change belongs to a transaction by its kind, if this is the latest step of the text there
abbrev pub belongs_after : ChangeKind → ℕ → Option StepOutline → Bool
belongs_after kind count None = true
belongs_after (Text kind place) count (Some earlier) = steps_go_on (outline kind place count) earlier
belongs_after (Container coalesce token) count (Some earlier) = coalesce
