-- The search in the target.
use Rattle.std.specs.Prelude.{ℕ, List, Option}
use Rattle.ed_model.specs.Matches.{match_in}
use Rattle.ed_model.specs.Requests.{Request, text}

-- where the pattern matches in the target of the view, by the view's search flags
abbrev pub match_in_target : Request → List ℕ → Option ℕ
match_in_target r pattern = match_in r.view.search_flags (text r) pattern r.view.target_start r.view.target_end
