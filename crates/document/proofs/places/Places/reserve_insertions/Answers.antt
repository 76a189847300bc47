use Rattle.document.proofs.Names.{ap, true, false, places_of}
use Rattle.document.proofs.places.Places.reserve_insertions.Goals.{in-Small, in-Large}
use Rattle.document.proofs.places.Places.reserve_insertions.Goals as goal

pub returns-clause-reserved : goal.returns-clause-reserved
returns-clause-reserved c =
    elim c.match-self.branch [
      | in-Small w ↦ (
          let told = w.reserve.ensures.reserved in
          rw (w.result-is, w.self-inside-is, ← c.self.view_is, w.in-Small.is) (told.0, λ room. let there = told.1 room in (there.0, ap (λ d. places_of w.in-Small.places.lines d false) there.1))
          )
      | in-Large w ↦ (
          let told = w.reserve-in-Large.ensures.reserved in
          rw (w.result-is, w.self-inside-is, ← c.self.view_is, w.in-Large.is) (told.0, λ room. let there = told.1 room in (there.0, ap (λ d. places_of w.in-Large.places.lines d true) there.1))
          )
    ]
