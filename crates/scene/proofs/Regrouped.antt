-- The flags of views follow the lines of their document when other line ends count.
use Rattle.scene.proofs.Names.{◌≡◌, ℕ, zero, suc, ◌+◌, ◌-◌, ◌^◌, ◌<◌, true, cond, List, [], ◌∷◌, map, length, length-take, length-drop, refl, ap, sym, ◌∙◌, arith, ◌==◌, nat_le, slice_range, AllByRecursion, all_append, cond_both, LineEdit, after_edit, after_edits, Movement, LineEndTypes, Default, Unicode, JoinsRows, View, Document, text_of, lines_in, is_large, StandsOn, length_text, Entries, KeptView, FitsWidth, view_moved, views_of, IsWatched, CanFollow, CanAllFollow, HaveFollowed}
use Rattle.line_index.specs.declared.edit.LineEdit.TheVariants.{Come, Join, Restart}
use Rattle.line_index.specs.Settings.{edits_of_setting, inside_edits, all_inside_edits, line_past, lines_inside, SettingsBringFewLines, SettingsCarryRows, SettingsFitLines}
use Rattle.selection.specs.declared.movements.Movement.TheVariants.{Inserted}
use Rattle.ed_model.specs.declared.plan.DocumentChange.TheVariants as change
use Rattle.ed_model.specs.Carry.{regrouped}
use Rattle.ed_model.specs.CarryLaws.{RegroupingLeavesARowForEachLine}
use Rattle.ed_model.specs.Changes.{changed_lines}
use Rattle.ed_model.specs.Folding.{is_visible}
use Rattle.ed_model.specs.Lines.{line_starts}
use Rattle.ed_model.specs.Rows.{Row, Flags, flags_together}
use Rattle.std.proofs.lemmas.List.{nil_from_length}
use Rattle.scene.proofs.Watching.{watched_can, watched_as, watched_again}
use Rattle.scene.proofs.StepScenes.{few_enough}

-- Line 0 stays visible, since the edits insert no line before it.

abbrev IsBehind : LineEdit → Type 0
IsBehind (Come line count) = 0 < line
IsBehind (Join line count) = Unit {0}
IsBehind Restart = ⊥

abbrev nothing : List Flags
nothing = []

no_range : (a b : ℕ) → slice_range nothing a b ≡ []
no_range a b = nil_from_length (slice_range nothing a b) (simp (length-take, length-drop) (omega arith))

first_of_range : (count : ℕ) (flags : List Flags) → is_visible flags 0 ≡ true → (flags_together (slice_range flags 0 (0 + (count + 1)))).visible ≡ true
first_of_range count [] v = rw (no_range 0 (0 + (count + 1))) refl
first_of_range count (f ∷ fs) v = let e : 0 + (count + 1) - 0 ≡ suc count = omega arith in rw e v

edit_keeps_first : (edit : LineEdit) (flags : List Flags) → IsBehind edit → is_visible flags 0 ≡ true → is_visible (after_edit flags_together flags edit) 0 ≡ true
edit_keeps_first (Come zero count) flags h v = absurd (omega arith)
edit_keeps_first (Come (suc line) zero) [] h v = refl
edit_keeps_first (Come (suc line) (suc count)) [] h v = refl
edit_keeps_first (Come (suc line) count) (f ∷ fs) h v = v
edit_keeps_first (Join zero count) flags h v = first_of_range count flags v
edit_keeps_first (Join (suc line) count) [] h v = rw (no_range (suc line) (suc line + (count + 1))) refl
edit_keeps_first (Join (suc line) count) (f ∷ fs) h v = v
edit_keeps_first Restart flags h v = refl

edits_keep_first : (edits : List LineEdit) (flags : List Flags) → AllByRecursion IsBehind edits → is_visible flags 0 ≡ true → is_visible (after_edits flags_together edits flags) 0 ≡ true
edits_keep_first [] flags all v = v
edits_keep_first (edit ∷ edits) flags all v = edits_keep_first edits (after_edit flags_together flags edit) all.1 (edit_keeps_first edit flags all.0 v)

inside_behind : (types : LineEndTypes) (line count : ℕ) → AllByRecursion IsBehind (inside_edits types line count)
inside_behind Default line count = cond_both (count == 0) [] (Join line count ∷ []) (AllByRecursion IsBehind) (λ _. tt) (λ _. (tt, tt))
inside_behind Unicode line count = cond_both (count == 0) [] (Come (line + 1) count ∷ []) (AllByRecursion IsBehind) (λ _. tt) (λ _. (omega arith, tt))

all_behind : (types : LineEndTypes) (line : ℕ) (counts : List ℕ) → AllByRecursion IsBehind (all_inside_edits types line counts)
all_behind types line [] = tt
all_behind types line (count ∷ counts) =
    all_append IsBehind (inside_edits types line count) (all_inside_edits types (line_past types line count) counts) (inside_behind types line count)
    (all_behind types (line_past types line count) counts)

setting_behind : (old new : LineEndTypes) (text : List ℕ) → AllByRecursion IsBehind (edits_of_setting old new text)
setting_behind Default Default text = tt
setting_behind Unicode Unicode text = tt
setting_behind Default Unicode text = all_behind Unicode 0 (lines_inside text (line_starts Default text))
setting_behind Unicode Default text = all_behind Default 0 (lines_inside text (line_starts Default text))

-- One view.

module _ (d : Document) (to : LineEndTypes) where
  abbrev pub setting : List LineEdit
  setting = edits_of_setting d.line_end_types to (text_of d)

  abbrev pub nowhere : Movement
  nowhere = Inserted 0 0

  abbrev pub regrouped_view : View → View
  regrouped_view v = record v { flags = regrouped flags_together d.line_end_types to (text_of d) v.flags }

  unmoved : (q : ℕ) → cond (nat_le q 0) q (q + 0) ≡ q
  unmoved q = cond_both (nat_le q 0) q (q + 0) (λ x. x ≡ q) (λ _. refl) (λ _. omega arith)

  moved_nowhere : (v : View) → JoinsRows flags_together → SettingsCarryRows Flags → length v.flags ≡ lines_in d → view_moved nowhere setting v ≡ regrouped_view v
  moved_nowhere v joins law lines =
      rw (unmoved v.anchor, unmoved v.caret, unmoved v.target_start, unmoved v.target_end)
      (ap (λ f. record v { flags = f }) (sym (law flags_together joins d.line_end_types to (text_of d) v.flags lines)))

  pub regrouped_can : (v : View) → SettingsFitLines → SettingsBringFewLines → length d.cells < 2 ^ 61 → FitsWidth d (length d.cells) → StandsOn d v
      → CanFollow nowhere setting (is_large d) v
  regrouped_can v fit few small wide on =
      let a = on.anchor in
      let c = on.caret in
      let s = on.target_start in
      let e = on.target_end in
      let n = on.lines in
      let f = few d.line_end_types to (text_of d) in
      let l = length_text d in
      record {
        anchor = omega arith;
        caret = omega arith;
        target_start = omega arith;
        target_end = omega arith;
        lines = rw on.lines (fit d.line_end_types to (text_of d));
        few = few_enough (is_large d) (length d.cells) _ wide (omega arith);
      }

  regrouped_stands : (rows : List Row) (v : View) → JoinsRows flags_together → SettingsCarryRows Flags → RegroupingLeavesARowForEachLine Flags → StandsOn d v
      → StandsOn (record d { line_end_types = to; rows = rows }) (regrouped_view v)
  regrouped_stands rows v joins law count on = record {
    anchor = on.anchor;
    caret = on.caret;
    target_start = on.target_start;
    target_end = on.target_end;
    lines = count flags_together d.line_end_types to (text_of d) v.flags;
    first_line = rw (law flags_together joins d.line_end_types to (text_of d) v.flags on.lines) (edits_keep_first setting v.flags (setting_behind d.line_end_types to (text_of d)) on.first_line);
    indicator = on.indicator;
    listed = on.listed;
  }

  -- All views.

  module _ (table : Entries KeptView) (w : IsWatched d table) where
    pub regrouped_can_all : SettingsFitLines → SettingsBringFewLines → length d.cells < 2 ^ 61 → FitsWidth d (length d.cells) → CanAllFollow nowhere setting d.views table
    regrouped_can_all fit few small wide = watched_can d table w nowhere setting (λ v on. regrouped_can v fit few small wide on)

    module _ (new : Entries KeptView) (joins : JoinsRows flags_together) (law : SettingsCarryRows Flags) (follow : HaveFollowed nowhere setting d.views table new) where
      pub regrouped_views : views_of new.entries ≡ map (changed_lines (change.SetLineEndTypes to) d) (views_of table.entries)
      regrouped_views = follow.views ∙ watched_as d table w nowhere setting regrouped_view (λ v on. moved_nowhere v joins law on.lines)

      pub regrouped_watched : (rows : List Row) → RegroupingLeavesARowForEachLine Flags → IsWatched (record d { line_end_types = to; rows = rows }) new
      regrouped_watched rows count =
          watched_again d table w (record d { line_end_types = to; rows = rows }) regrouped_view new refl refl refl (λ v. refl) (λ v. refl) (λ v. regrouped_stands rows v joins law count)
          regrouped_views follow.named follow.stay
