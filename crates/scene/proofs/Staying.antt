-- What stays as it was in two calls, one after the other, stays in both.
use Rattle.scene.proofs.Names.{refl, ap, ◌∙◌, Entries, KeptView, Gathered, Kept, RoomsStay, ViewsStay}
use Rattle.document.specs.Kept.{DocumentCapacity}

pub views_same : {v : Entries KeptView} → ViewsStay v v
views_same = record { ids = refl; next = refl; view_capacity = refl; widths = refl; fold_capacities = refl }

pub views_stay : {v0 v v' : Entries KeptView} → ViewsStay v0 v → ViewsStay v v' → ViewsStay v0 v'
views_stay so then = record {
  ids = then.ids ∙ so.ids;
  next = then.next ∙ so.next;
  view_capacity = then.view_capacity ∙ so.view_capacity;
  widths = then.widths ∙ so.widths;
  fold_capacities = then.fold_capacities ∙ so.fold_capacities;
}

pub stay_both : {k0 k k' : Kept} {v0 v v' : Entries KeptView} {n0 n n' : Gathered} → RoomsStay k0 k v0 v n0 n → RoomsStay k k' v v' n n' → RoomsStay k0 k' v0 v' n0 n'
stay_both {k' = k'} so then = record {
  memory = then.memory ∙ ap (λ (x : DocumentCapacity). record x { indicators = k'.capacity.indicators }) so.memory;
  capacity = then.capacity ∙ so.capacity;
  table = views_stay so.table then.table;
}
