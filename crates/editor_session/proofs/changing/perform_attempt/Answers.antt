use Rattle.editor_session.proofs.Names.{rules, ℕ, ◌≡◌, ◌≤◌, ◌++◌, List, [], ◌∷◌, length, filter_map, cons_option, sym, ap, subst, ◌∙◌, arith, Option, Some, None, IfSome, told, modify_attempt, blank, View, view_at, watching, Gathered, CanPut, views_of}
use Rattle.editor_session.proofs.changing.perform_attempt.Goals as goal

-- no more views watch than the document lists
watched_few : (views : List View) (ids : List ℕ) → length (filter_map (view_at views) ids) ≤ length ids
watched_few views [] = omega arith
watched_few views (id ∷ ids) =
    let rest = watched_few views ids in
    elim (view_at views id) as (λ (o : Option View). length (cons_option o (filter_map (view_at views) ids)) ≤ length (id ∷ ids)) [ None ↦ omega (arith, rest) | Some v ↦ omega (arith, rest) ]

pub attempt-requires-clause-room : goal.attempt-requires-clause-room
attempt-requires-clause-room c =
    let d = c.at-document.result.now.document in
    let few = watched_few (views_of c.args.state.now.views.entries) d.views in
    let room : CanPut (length d.views) c.reserve.new.self = search rules in
    omega (arith, few, room)

pub returns : goal.returns
returns c =
    let a = c.args in let s = a.state.now in let old = c.at-document.result.now in let n = c.attempt.new.notes in
    let at = c.at-document.ensures in
    let same : c.reserve.new.self.notes ≡ a.notes.now.notes = search rules in
    let put : n.notes ≡ a.notes.now.notes ++ told (watching (views_of s.views.entries) old.document) (blank modify_attempt) =
    ap (λ (g : Gathered). g.notes) c.attempt.ensures ∙ ap (λ ns. ns ++ told (watching (views_of s.views.entries) old.document) (blank modify_attempt)) same in
    record { told = subst (λ o. IfSome o (λ k. n.notes ≡ a.notes.now.notes ++ told (watching (views_of s.views.entries) k.document) (blank modify_attempt))) (sym at) put }
