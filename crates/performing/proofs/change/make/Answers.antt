use Rattle.performing.proofs.Names.{[], rules, subst, w32, w64, to_z-of_z, SFits, ℤ, Makes, AppendContainer, SetState}
use Rattle.performing.specs.Fit.{IsFitChange}
use Rattle.performing.proofs.change.make.Goals as goal

pub add_markers-requires-clause-handles : goal.add_markers-requires-clause-handles
add_markers-requires-clause-handles c = (subst (IsFitChange c.args.document.now.document) c.in-AddMarkers.is c.requires.fits).1

pub returns-in-AddMarkers : goal.returns-in-AddMarkers
returns-in-AddMarkers c = rw c.in-AddMarkers.is c.add_markers.ensures

pub returns-in-AppendContainer : goal.returns-in-AppendContainer
returns-in-AppendContainer c =
    let fits : SFits w64 c.in-AppendContainer.token = search rules in
    rw c.in-AppendContainer.is (subst (λ (z : ℤ). Makes [] (AppendContainer z c.in-AppendContainer.coalesce) c.args.document.now c.append_container.new.document c.append_container.result) (to_z-of_z w64 c.in-AppendContainer.token fits)
    c.append_container.ensures)

pub returns-in-SetState : goal.returns-in-SetState
returns-in-SetState c =
    let fits : SFits w32 c.in-SetState.state = search rules in
    rw c.in-SetState.is (subst (λ (z : ℤ). Makes [] (SetState c.in-SetState.line z) c.args.document.now c.set_state.new.document c.set_state.result) (to_z-of_z w32 c.in-SetState.state fits) c.set_state.ensures)

pub returns-in_default : goal.returns-in_default
returns-in_default c = c.make_free.ensures c.args.text.now
