-- Room lasts: an append takes up no more than its own step, since what it drops only makes room, and a seal takes up none.
use Rattle.std.proofs.Common.{◌≡◌, ◌+◌, ℕ, ℤ, Bool, true, false, not, ◌||◌, ◌==◌, List, [], ◌∷◌, ◌++◌, length, reverse, flat_map, sum_by, refl, ap, ◌∙◌, sym, arith}
use Rattle.std.proofs.lemmas.Bool.{cond_both}
use Rattle.std.proofs.lemmas.Grind.{flat_map-append}
use Rattle.std.proofs.lemmas.List.{length-append}
use Rattle.std.proofs.lemmas.List.Sums.{sum_by-cons, sum_by-append}
use Rattle.ed_model.specs.Steps.{Step, step_bytes}
use Rattle.ed_model.specs.History.{Change, TextStep, ContainerStep, Transaction, joins, with_change, reachable, appended, seal_first, with_last_sealed, sealed_outside_groups, with_container_step}
use Rattle.undo_history.specs.Kept.{Kept, HasRoom, changes_of, all_changes, byte_count}

changes_with : (joined : Bool) (c : Change) (ts : List Transaction) → flat_map changes_of (with_change joined c ts) ≡ c ∷ flat_map changes_of ts
changes_with joined c [] = refl
changes_with true c (t ∷ ts) = refl
changes_with false c (t ∷ ts) = refl

changes_sealed : (ts : List Transaction) → flat_map changes_of (seal_first ts) ≡ flat_map changes_of ts
changes_sealed [] = refl
changes_sealed (t ∷ ts) = refl

room_after_change : (later : Bool) (c : Change) (k : Kept) (steps bytes : ℕ) → HasRoom (1 + steps) (byte_count c + bytes) k → HasRoom steps bytes (record k { history = appended later c k.history })
room_after_change later c k steps bytes room =
    let h = k.history in
    let new = record h { past = with_change (joins later c h) c h.past; future = []; save_point = reachable (length h.past) h.save_point } in
    let past = flat_map changes_of h.past in
    let undone = flat_map changes_of (reverse h.future) in
    let old_changes : all_changes h ≡ undone ++ past = flat_map-append changes_of (reverse h.future) h.past in
    let new_changes : all_changes new ≡ c ∷ past = changes_with (joins later c h) c h.past in
    cond_both h.collecting new h (λ g. HasRoom steps bytes (record k { history = g }))
    (λ collecting _. let r = room collecting in (
      omega (arith, r.0, ap length new_changes, ap length old_changes, length-append undone past),
      omega (arith, r.1, ap (λ cs. sum_by byte_count cs) new_changes, sum_by-cons byte_count c past, ap (λ cs. sum_by byte_count cs) old_changes, sum_by-append byte_count undone past),
    ))
    (λ _ collecting. let r = room collecting in (omega (arith, r.0), omega (arith, r.1)))

-- after a step of the text is appended, there is room for the steps and bytes for which there was room besides its own
pub room_after_step : (later : Bool) (step : Step) (k : Kept) (steps bytes : ℕ) →
    HasRoom (1 + steps) (length (step_bytes step) + bytes) k → HasRoom steps bytes (record k { history = appended later (TextStep step) k.history })
room_after_step later step k steps bytes room = room_after_change later (TextStep step) k steps bytes room

-- a seal takes up no room
pub room_after_seal : (k : Kept) (steps bytes : ℕ) → HasRoom steps bytes k → HasRoom steps bytes (record k { history = sealed_outside_groups k.history })
room_after_seal k steps bytes room =
    let h = k.history in
    let same : all_changes (with_last_sealed h) ≡ all_changes h =
    flat_map-append changes_of (reverse h.future) (seal_first h.past)
    ∙ ap (λ cs. flat_map changes_of (reverse h.future) ++ cs) (changes_sealed h.past)
    ∙ sym (flat_map-append changes_of (reverse h.future) h.past) in
    cond_both (h.depth == 0) (with_last_sealed h) h (λ g. HasRoom steps bytes (record k { history = g }))
    (λ _ collecting. let r = room collecting in (omega (arith, r.0, ap length same), omega (arith, r.1, ap (λ cs. sum_by byte_count cs) same))) (λ _. room)

-- a container's step has no bytes
pub room_after_container : (token : ℤ) (coalesce : Bool) (k : Kept) (steps bytes : ℕ) →
    HasRoom (1 + steps) bytes k → HasRoom steps bytes (record k { history = with_container_step token coalesce k.history })
room_after_container token coalesce k steps bytes room =
    let a = appended false (ContainerStep token coalesce) k.history in
    let more : HasRoom steps bytes (record k { history = a }) = room_after_change false (ContainerStep token coalesce) k steps bytes (λ collecting. let r = room collecting in (r.0, omega (arith, r.1))) in
    cond_both (coalesce || not k.history.collecting) a (sealed_outside_groups a) (λ g. HasRoom steps bytes (record k { history = g })) (λ _. more) (λ _. room_after_seal (record k { history = a }) steps bytes more)
