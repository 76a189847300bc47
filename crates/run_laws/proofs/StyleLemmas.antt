-- A document that keeps no styles: no change gives a cell one.
use Rattle.run_laws.proofs.Names.{◌≡◌, ℕ, zero, suc, List, [], ◌∷◌, ◌++◌, take, drop, replicate, refl, sym, subst, arith, AllByRecursion, DocumentChange, Cell, plain_cells, Step, Insert, Delete, edited_cells, Document, new_session, changed_document, styled, starting, CommandKeepsSound, NewSessionIsSound, PlansFit, all_append}
use Rattle.ed_model.specs.declared.plan.DocumentChange.TheVariants as change
use Rattle.run_laws.specs.StyleLaws.{HasNoStyles, DocumentsWithoutStylesHaveNone}
use Rattle.run_laws.proofs.Invariants.{run_holds}

abbrev IsPlain : Cell → Type 0
IsPlain c = c.style ≡ 0

abbrev Plain : List Cell → Type 0
Plain cells = AllByRecursion IsPlain cells

plain_taken : (n : ℕ) (cells : List Cell) → Plain cells → Plain (take n cells)
plain_taken zero cells all = tt
plain_taken (suc n) [] all = tt
plain_taken (suc n) (c ∷ cs) all = (all.0, plain_taken n cs all.1)

plain_dropped : (n : ℕ) (cells : List Cell) → Plain cells → Plain (drop n cells)
plain_dropped zero cells all = all
plain_dropped (suc n) [] all = tt
plain_dropped (suc n) (c ∷ cs) all = plain_dropped n cs all.1

plain_fresh : (bytes : List ℕ) → Plain (plain_cells bytes)
plain_fresh [] = tt
plain_fresh (b ∷ bs) = (refl, plain_fresh bs)

plain_edited : (step : Step) (cells : List Cell) → Plain cells → Plain (edited_cells step cells)
plain_edited (Insert p bytes) cells all =
    all_append IsPlain (take p cells ++ plain_cells bytes) (drop p cells) (all_append IsPlain (take p cells) (plain_cells bytes) (plain_taken p cells all) (plain_fresh bytes)) (plain_dropped p cells all)
plain_edited (Delete p bytes) cells all = all_append IsPlain (take p cells) _ (plain_taken p cells all) (plain_dropped _ cells all)

-- styling such a document changes no style
plain_styled : (new : List ℕ) (d : Document) → HasNoStyles d → HasNoStyles (styled new d)
plain_styled new d h none = rw none (h none)

changed_plain : (bytes : List ℕ) (change : DocumentChange) (d : Document) → HasNoStyles d → HasNoStyles (changed_document bytes change d)
changed_plain bytes (change.StyleRun count style) d h = plain_styled (replicate count style) d h
changed_plain bytes (change.StyleBytes count) d h = plain_styled (take count bytes) d h
changed_plain bytes _ d h = h

pub documents_without_styles_have_none : PlansFit → CommandKeepsSound → NewSessionIsSound → DocumentsWithoutStylesHaveNone
documents_without_styles_have_none fits keeps new files commands limits =
    run_holds HasNoStyles 0 (λ e le made. subst HasNoStyles (sym made.1) (λ none. tt)) (λ e views held_by_callers h. h)
    (λ step d h none. plain_edited step d.cells (h none)) (λ h d was. was) changed_plain
    fits keeps files commands (starting (new_session limits)) (new limits) (omega arith) (λ id d e. absurd (cc))
