-- The last place has the id, or the binary search finds it.
use Rattle.std.proofs.Common.{rules}
use Rattle.std.proofs.lemmas.List.Sorted.{answers_always}
use Rattle.id_table.proofs.PlaceLemmas.{searched}
use Rattle.id_table.proofs.table.position_of.Goals as goal

pub returns-clause-found : goal.returns-clause-found
returns-clause-found c =
    let facts = c.binary_search_by_key.ensures in
    let by_id = facts.position (λ place. place.id) (answers_always _ _ _ (λ f a r g called. search rules)) in
    rw c.ok.ensures.value (searched c.args.order.now c.requires c.args.id _ facts.bound by_id).found

pub returns-clause-missing : goal.returns-clause-missing
returns-clause-missing c =
    let facts = c.binary_search_by_key.ensures in
    let by_id = facts.position (λ place. place.id) (answers_always _ _ _ (λ f a r g called. search rules)) in
    rw c.ok.ensures.value (searched c.args.order.now c.requires c.args.id _ facts.bound by_id).missing
