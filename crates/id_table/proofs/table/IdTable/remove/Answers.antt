-- The place of the id is removed, and the value with it.
use Rattle.id_table.proofs.Names.{List, rules, sym, ap, ◌∙◌, vec_capacity, Entry, table_of, table_capacity, IsAt}
use Rattle.id_table.proofs.EntryLemmas.{table_ordered, value_found, value_missing, without_missing, has_key, removed_table}
use Rattle.id_table.proofs.table.IdTable.remove.Goals as goal

pub position_of-requires : goal.position_of-requires
position_of-requires g c = rw c.deref.ensures.value (table_ordered _ _ _ c.self.invariant)

pub returns-in_err-at-clause-value : goal.returns-in_err-at-clause-value
returns-in_err-at-clause-value g c =
    rw (← c.self.view_is, value_missing _ _ _ c.self.invariant c.args.id (rw (← c.deref.ensures.value) c.in_err-at.ensures.missing)) (search rules)

pub returns-in_err-at-clause-rest : goal.returns-in_err-at-clause-rest
returns-in_err-at-clause-rest g c =
    let same = without_missing _ _ _ c.self.invariant c.args.id (rw (← c.deref.ensures.value) c.in_err-at.ensures.missing) in
    rw (← c.self.view_is) (ap (λ (es : List (Entry g.row.T.Denot)). table_of es c.self.inside.next (table_capacity c.self.inside.slab.capacity (vec_capacity c.self.inside.order))) (sym same))

pub remove-requires : goal.remove-requires
remove-requires g c =
    let is_at : IsAt c.args.id c.self.inside.order.items c.in_ok-at.at = rw (← c.deref.ensures.value) c.in_ok-at.ensures.found in
    has_key _ _ _ c.self.invariant c.args.id c.in_ok-at.at c.remove-key.result is_at c.remove-key.ensures.value

pub invariant_of-self : goal.invariant_of-self
invariant_of-self g c =
    let is_at : IsAt c.args.id c.self.inside.order.items c.in_ok-at.at = rw (← c.deref.ensures.value) c.in_ok-at.ensures.found in
    let less = removed_table _ _ _ c.self.invariant c.args.id c.in_ok-at.at c.remove-key.result c.remove.new.self is_at c.remove-key.ensures.value c.remove.ensures.updates c.remove.ensures.len in
    rw c.remove-key.ensures.items less.1

pub returns-clause-value : goal.returns-clause-value
returns-clause-value g c =
    let is_at : IsAt c.args.id c.self.inside.order.items c.in_ok-at.at = rw (← c.deref.ensures.value) c.in_ok-at.ensures.found in
    let value = value_found _ _ _ c.self.invariant c.args.id c.in_ok-at.at c.remove-key.result is_at c.remove-key.ensures.value in
    rw (← c.self.view_is) (sym (value ∙ c.remove.ensures.value))

pub returns-clause-rest : goal.returns-clause-rest
returns-clause-rest g c =
    let is_at : IsAt c.args.id c.self.inside.order.items c.in_ok-at.at = rw (← c.deref.ensures.value) c.in_ok-at.ensures.found in
    let less = removed_table _ _ _ c.self.invariant c.args.id c.in_ok-at.at c.remove-key.result c.remove.new.self is_at c.remove-key.ensures.value c.remove.ensures.updates c.remove.ensures.len in
    rw (← c.self.view_is, c.remove-key.ensures.items, c.remove-key.ensures.capacity, c.remove.ensures.capacity) (ap (λ (es : List (Entry g.row.T.Denot)). table_of es c.self.inside.next (table_capacity c.self.inside.slab.capacity (vec_capacity c.self.inside.order))) less.0)
