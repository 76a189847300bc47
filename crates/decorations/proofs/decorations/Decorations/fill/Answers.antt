use Rattle.decorations.proofs.Names.{◌≡◌, ◌<◌, length, set, ap, sym, ◌∙◌, arith, get_or-set_same, get_or-set_other, filled, length_filled, Decorated, decorated, values_of, slot_at, shown, None, stored, seen, source_capacity}
use Rattle.decorations.proofs.Kept.{filled_slots, filled_all}
use Rattle.decorations.proofs.Memory.{can_fill, filled_capacity, filled_runs}
use Rattle.decorations.proofs.Values.{shown_length}
use Rattle.decorations.proofs.SlotLists.{slot_read}
use Rattle.decorations.proofs.Shown.{values_are}
use Rattle.decorations.proofs.decorations.Decorations.fill.Goals as goal

pub add_slots-requires : goal.add_slots-requires
add_slots-requires g c = λ past.
    let d = c.self.inside in
    let can = can_fill d.size c.args.indicator (stored d.slots d.spare) c.requires.indicator (omega (arith, d.slots.ok.0, d.slots.ok.1)) (c.self.invariant.kept c.args.indicator) (rw (← c.self.view_is) at c.requires.room) in
    omega (arith, can.0)

pub fill_slot-requires-clause-kept : goal.fill_slot-requires-clause-kept
fill_slot-requires-clause-kept g c =
    let i = c.args.indicator in
    let slots = c.add_slots.new.slots.items in
    let before : c.index_mut-slot.result.now ≡ slot_at c.self.inside.slots.items i =
    sym (slot_read slots i c.index_mut-slot.result.now (omega (arith, c.add_slots.ensures.there)) c.index_mut-slot.ensures.value) ∙ c.add_slots.ensures.same i in
    rw before (c.self.invariant.kept i)

pub fill_slot-requires-clause-room : goal.fill_slot-requires-clause-room
fill_slot-requires-clause-room g c =
    let d = c.self.inside in
    let i = c.args.indicator in
    let slots = c.add_slots.new.slots.items in
    let before : c.index_mut-slot.result.now ≡ slot_at d.slots.items i =
    sym (slot_read slots i c.index_mut-slot.result.now (omega (arith, c.add_slots.ensures.there)) c.index_mut-slot.ensures.value) ∙ c.add_slots.ensures.same i in
    let can = can_fill d.size i (stored d.slots d.spare) c.requires.indicator (omega (arith, d.slots.ok.0, d.slots.ok.1)) (c.self.invariant.kept i) (rw (← c.self.view_is) at c.requires.room) in
    rw before can.1

pub invariant_of-self : goal.invariant_of-self
invariant_of-self g c =
    let d = c.self.inside in
    let i = c.args.indicator in
    let slots = c.add_slots.new.slots.items in
    let slot = c.index_mut-slot.result.now in
    let before : slot ≡ slot_at d.slots.items i = sym (slot_read slots i slot (omega (arith, c.add_slots.ensures.there)) c.index_mut-slot.ensures.value) ∙ c.add_slots.ensures.same i in
    let size_is : d.size ≡ c.args.self.now.length = ap (λ (v : Decorated). v.length) c.self.view_is in
    let full : length (shown d.size slot) ≡ d.size = shown_length d.size slot (rw before (c.self.invariant.kept i)) in
    let long = length_filled c.args.start c.args.count c.args.value (shown d.size slot) (omega arith) in
    filled_slots d.size i (filled c.args.start c.args.count c.args.value (shown d.size slot)) d.slots.items slots c.fill_slot.new.slot c.add_slots.ensures.same (omega (arith, c.add_slots.ensures.there))
    (long ∙ full) c.fill_slot.ensures.filled g.P.Place.GREATEST c.self.invariant (c.add_slots.ensures.few 32 c.self.invariant.few (omega (arith, c.requires.indicator)))

pub returns-clause-values : goal.returns-clause-values
returns-clause-values g c =
    let d = c.self.inside in
    let i = c.args.indicator in
    let slots = c.add_slots.new.slots.items in
    let slot = c.index_mut-slot.result.now in
    let before : slot ≡ slot_at d.slots.items i = sym (slot_read slots i slot (omega (arith, c.add_slots.ensures.there)) c.index_mut-slot.ensures.value) ∙ c.add_slots.ensures.same i in
    let size_is : d.size ≡ c.args.self.now.length = ap (λ (v : Decorated). v.length) c.self.view_is in
    let full : length (shown d.size slot) ≡ d.size = shown_length d.size slot (rw before (c.self.invariant.kept i)) in
    let long = length_filled c.args.start c.args.count c.args.value (shown d.size slot) (omega arith) in
    let values = values_are c.args.self.now d.size d.slots.items i slot c.requires.indicator c.self.view_is before in
    let now = (seen d.size (record (stored c.add_slots.new.slots c.fill_slot.new.spare) { slots = set slots i c.fill_slot.new.slot })).capacity in
    ap (λ vs. decorated d.size vs now)
    (filled_all d.size i (filled c.args.start c.args.count c.args.value (shown d.size slot)) d.slots.items slots c.fill_slot.new.slot c.add_slots.ensures.same (omega (arith, c.add_slots.ensures.there))
    (long ∙ full) c.fill_slot.ensures.filled c.requires.indicator)
    ∙ rw (← values) (ap (λ (v : Decorated). decorated v.length (set v.values i (filled c.args.start c.args.count c.args.value (values_of c.args.self.now.values i))) now) c.self.view_is)

pub returns-clause-changed : goal.returns-clause-changed
returns-clause-changed g c =
    let d = c.self.inside in
    let i = c.args.indicator in
    let slots = c.add_slots.new.slots.items in
    let slot = c.index_mut-slot.result.now in
    let before : slot ≡ slot_at d.slots.items i = sym (slot_read slots i slot (omega (arith, c.add_slots.ensures.there)) c.index_mut-slot.ensures.value) ∙ c.add_slots.ensures.same i in
    rw (values_are c.args.self.now d.size d.slots.items i slot c.requires.indicator c.self.view_is before) c.fill_slot.ensures.changed

pub returns-clause-capacity : goal.returns-clause-capacity
returns-clause-capacity g c =
    let d = c.self.inside in
    let i = c.args.indicator in
    let slots = c.add_slots.new.slots.items in
    let slot = c.index_mut-slot.result.now in
    let new = c.fill_slot.new.slot in
    let inside : i < length slots = omega (arith, c.add_slots.ensures.there) in
    let before : slot ≡ slot_at d.slots.items i = sym (slot_read slots i slot inside c.index_mut-slot.ensures.value) ∙ c.add_slots.ensures.same i in
    let has = filled_capacity d.size (source_capacity slot d.spare) (filled c.args.start c.args.count c.args.value (shown d.size slot)) new c.fill_slot.ensures.filled c.fill_slot.ensures.capacity.0 in
    let left = c.fill_slot.ensures.capacity.1 in
    rw (← c.self.view_is)
    (filled_runs d.size i (stored d.slots d.spare) (record (stored c.add_slots.new.slots c.fill_slot.new.spare) { slots = set slots i new }) c.requires.indicator (c.self.invariant.kept i)
    (λ k apart. get_or-set_other slots i k new None apart ∙ c.add_slots.ensures.same k) (rw (get_or-set_same slots i new None inside, ← before) has) (rw (← before) left) c.add_slots.ensures.capacity)
