-- A document that keeps what positions of views depend on is watched as it was: its views stand as they stood, with the widths that they had.
use Rattle.std.proofs.Common.{◌≡◌, length, map, refl, ap, sym, ◌∙◌}
use Rattle.ed_model.specs.History.{History}
use Rattle.ed_model.specs.Session.{Document, View, is_large, lines_in}
use Rattle.ed_model.specs.SoundLaws.{occurrences}
use Rattle.ed_model.specs.proved.Elements.{all_weaker}
use Rattle.id_table.specs.Entries.{Entries}
use Rattle.ed_view.specs.Kept.{KeptView}
use Rattle.scene.specs.Scenes.{views_of, width_at, StandsIfOn, IsWatched}
use Rattle.scene.specs.proved.ViewWidths.{has_still}

-- the document keeps all that positions of views depend on
pub record KeepsPlaces (old new : Document) : Type 0 where
  pub id : new.id ≡ old.id
  pub views : new.views ≡ old.views
  pub size : length new.cells ≡ length old.cells
  pub lines : lines_in new ≡ lines_in old
  pub large : is_large new ≡ is_large old

stands_again : (old new : Document) (v : View) → KeepsPlaces old new → StandsIfOn old v → StandsIfOn new v
stands_again old new v same stand on =
    let s = stand (on ∙ same.id) in
    record {
      anchor = rw same.size s.anchor;
      caret = rw same.size s.caret;
      target_start = rw same.size s.target_start;
      target_end = rw same.size s.target_end;
      lines = s.lines ∙ sym same.lines;
      first_line = s.first_line;
      indicator = s.indicator;
      listed = ap (occurrences v.id) same.views ∙ s.listed;
    }

pub watched_still : (old new : Document) (table : Entries KeptView) → KeepsPlaces old new → IsWatched old table → IsWatched new table
watched_still old new table same w = record {
  named = w.named;
  rise = w.rise;
  listed = rw (same.id, same.views) w.listed;
  stand = all_weaker (StandsIfOn old) (StandsIfOn new) (λ v. stands_again old new v same) (views_of table.entries) w.stand;
  widths = has_still (map width_at table.entries) old new same.id same.large w.widths;
}

pub watched_with_history : (d : Document) (h : History) (table : Entries KeptView) → IsWatched d table → IsWatched (record d { history = h }) table
watched_with_history d h table w = watched_still d (record d { history = h }) table (record { id = refl; views = refl; size = refl; lines = refl; large = refl }) w
