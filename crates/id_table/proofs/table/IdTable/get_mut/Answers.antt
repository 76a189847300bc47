-- The slab lends the value, and only the entry of its id changes.
use Rattle.id_table.proofs.Names.{inl, rules, refl, sym, ◌∙◌, vec_capacity, table_of, table_capacity, IsAt}
use Rattle.id_table.proofs.EntryLemmas.{table_ordered, value_found, value_missing, has_key, written_table}
use Rattle.id_table.proofs.table.IdTable.get_mut.Goals as goal

pub position_of-requires : goal.position_of-requires
position_of-requires g c = rw c.deref.ensures.value (table_ordered _ _ _ c.self.invariant)

pub returns-in_err-at : goal.returns-in_err-at
returns-in_err-at g c =
    let none = value_missing _ _ _ c.self.invariant c.args.id (rw (← c.deref.ensures.value) c.in_err-at.ensures.missing) in
    rw (c.from_residual.ensures, ← c.self.view_is) (refl, record { writes_back = tt; value = sym none })

pub index-requires : goal.index-requires
index-requires g c = search rules

pub index_mut-requires : goal.index_mut-requires
index_mut-requires g c =
    let is_at : IsAt c.args.id c.self.inside.order.items c.in_ok-at.at = rw (← c.deref.ensures.value) c.in_ok-at.ensures.found in
    has_key _ _ _ c.self.invariant c.args.id c.in_ok-at.at c.index.result.now is_at c.index.ensures

pub invariant_of-self-lent : goal.invariant_of-self-lent
invariant_of-self-lent g c w =
    let is_at : IsAt c.args.id c.self.inside.order.items c.in_ok-at.at = rw (← c.deref.ensures.value) c.in_ok-at.ensures.found in
    (written_table _ _ _ c.self.invariant c.args.id c.in_ok-at.at c.index.result.now w is_at c.index.ensures).1

pub returns : goal.returns
returns g c =
    let is_at : IsAt c.args.id c.self.inside.order.items c.in_ok-at.at = rw (← c.deref.ensures.value) c.in_ok-at.ensures.found in
    let value = value_found _ _ _ c.self.invariant c.args.id c.in_ok-at.at c.index.result.now is_at c.index.ensures in
    let written = λ (w : g.row.T.Denot). (written_table _ _ _ c.self.invariant c.args.id c.in_ok-at.at c.index.result.now w is_at c.index.ensures).0 in
    rw (← c.self.view_is) (
      (λ i. inl (c.index_mut.result.ghost_name, λ w. table_of (written w i) c.self.inside.next (table_capacity c.self.inside.slab.capacity (vec_capacity c.self.inside.order)))),
      record { writes_back = tt; value = sym (value ∙ c.index_mut.ensures.value) },
    )
