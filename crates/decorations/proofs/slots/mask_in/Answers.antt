use Rattle.decorations.proofs.Names.{◌≡◌, ℕ, ◌<◌, Option, length, subst, sym, ◌∙◌, arith, pos, at_place, values_of, Runs, all_shown, IsKept}
use Rattle.decorations.proofs.SlotLists.{slot_read}
use Rattle.decorations.proofs.Values.{kept_place}
use Rattle.decorations.proofs.Masks.{mask_none, mask_slots, mask_past, mask_step, mask_same, mask_room, slot_value}
use Rattle.decorations.proofs.slots.mask_in.Goals as goal
use Rattle.decorations.proofs.slots.mask_in.Goals.{then-value_in-ne0, else-value_in-ne0}

pub returns-then-place-size : goal.returns-then-place-size
returns-then-place-size g c = mask_past c.args.size c.args.place c.args.slots.now c.if-place-size.true c.requires.kept

pub loop-indicator-init : goal.loop-indicator-init
loop-indicator-init g c = sym (mask_none (all_shown c.args.size c.args.slots.now) c.args.place)

pub value_in-requires : goal.value_in-requires
value_in-requires g c =
    let slots = c.args.slots.now in
    let i = c.loop-indicator.indicator in
    let slot = c.index-slots-indicator.result in
    let inside : i < length slots = omega arith in
    let Q : Option (Runs ℕ) → Type 0 = IsKept c.args.size in
    kept_place c.args.size c.args.place slot (omega arith) (subst Q (slot_read slots i slot inside c.index-slots-indicator.is) (c.requires.kept i))

pub overflow_add-mask : goal.overflow_add-mask
overflow_add-mask g c =
    omega (arith, mask_room c.loop-indicator.indicator c.loop-indicator.mask (all_shown c.args.size c.args.slots.now) c.args.place (omega arith) c.loop-indicator.invariant)

pub loop-indicator-preserved : goal.loop-indicator-preserved
loop-indicator-preserved g c =
    let slots = c.args.slots.now in
    let i = c.loop-indicator.indicator in
    let slot = c.index-slots-indicator.result in
    let inside : i < length slots = omega arith in
    let low : i < 32 = omega arith in
    let values = all_shown c.args.size slots in
    let value : c.value_in.result ≡ at_place (values_of values i) (pos c.args.place) =
    slot_value c.args.size c.args.place i c.value_in.result slots slot low (slot_read slots i slot inside c.index-slots-indicator.is) (c.value_in.ensures c.args.size) in
    elim c.if-value_in-ne0.branch [
      | then-value_in-ne0 w ↦ w.mask-is ∙ mask_step i c.value_in.result c.loop-indicator.mask values c.args.place low value w.if-value_in-ne0.true c.loop-indicator.invariant
      | else-value_in-ne0 w ↦ w.mask-is ∙ mask_same i c.value_in.result c.loop-indicator.mask values c.args.place value w.if-value_in-ne0.false c.loop-indicator.invariant
    ]

pub returns : goal.returns
returns g c =
    let slots = c.args.slots.now in
    let all : c.loop-indicator.indicator ≡ length slots = omega arith in
    c.loop-indicator.invariant ∙ rw all (mask_slots c.args.size c.args.place slots c.requires.few)
