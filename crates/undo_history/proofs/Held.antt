-- How much a history holds, by its records and its bytes.
use Rattle.undo_history.proofs.Names.{◌≡◌, ◌≤◌, ◌+◌, ◌-◌, ℕ, List, [], ◌∷◌, ◌++◌, length, take, drop, map, refl, ap, ap₂, sym, ◌∙◌, arith, reverse, Option, Bool, slice_range, cond_both, length-drop, length-map, length-take-le, length-reverse, reverse-append, reverse-reverse, map-append, take-append-drop, Change, Transaction, ChangeKind, Text, Container, Insert, Delete, StepRecord, Entry, alone, joined, pushed, transactions, history_of, entries_from, entries_in, change_in, change_of, AreParts, HasItsPart, IsInOrder, Inside, Kept, held_steps, held_bytes, Fits, ItemsFit}
use Rattle.std.specs.Prelude.{sum_by, flat_map}
use Rattle.std.proofs.lemmas.Grind.{flat_map-append}
use Rattle.std.proofs.lemmas.List.Sums.{sum_by-cons, sum_by_push}
use Rattle.std.proofs.lemmas.Slice.{between_is}
use Rattle.undo_history.specs.Kept.{changes_of, all_changes, byte_count}
use Rattle.undo_history.proofs.Moving.{seen}
use Rattle.undo_history.proofs.Parts.{parts_above, entries_length, reverse_more, map_reverse}

-- All changes are those of the records, the latest first.

changes_pushed : (e : Entry) (ts : List Transaction) → flat_map changes_of (pushed e ts) ≡ e.change ∷ flat_map changes_of ts
changes_pushed e [] = refl
changes_pushed e (t ∷ ts) = cond_both e.starts (alone e ∷ t ∷ ts) (joined e t ∷ ts) (λ us. flat_map changes_of us ≡ e.change ∷ flat_map changes_of (t ∷ ts)) (λ _. refl) (λ _. refl)

changes_of_entries : (es : List Entry) → flat_map changes_of (transactions es) ≡ map change_in es
changes_of_entries [] = refl
changes_of_entries (e ∷ es) = changes_pushed e (transactions es) ∙ ap (λ cs. e.change ∷ cs) (changes_of_entries es)

all_changes_are : (es : List Entry) (past depth : ℕ) (save_point : Option ℕ) (collecting : Bool) → all_changes (history_of es past save_point depth collecting) ≡ reverse (map change_in es)
all_changes_are es past depth save_point collecting =
    let front = reverse (take past es) in
    let back = reverse (drop past es) in
    ap (λ f. flat_map changes_of (f ++ transactions front)) (reverse-reverse (transactions back))
    ∙ flat_map-append changes_of (transactions back) (transactions front)
    ∙ ap₂ (λ a b. a ++ b) (changes_of_entries back) (changes_of_entries front)
    ∙ sym (map-append change_in back front)
    ∙ ap (λ xs. map change_in xs) (sym (reverse-append (take past es) (drop past es)) ∙ ap (λ xs. reverse xs) (take-append-drop past es))
    ∙ map_reverse change_in es

-- The bytes of changes.

bytes_reverse : (cs : List Change) → sum_by byte_count (reverse cs) ≡ sum_by byte_count cs
bytes_reverse [] = refl
bytes_reverse (c ∷ cs) =
    omega (arith, ap (λ t. sum_by byte_count t) (reverse_more c cs), sum_by_push byte_count (reverse cs) c, bytes_reverse cs, sum_by-cons byte_count c cs)

part_length : (bytes : List ℕ) (from end : ℕ) → end ≤ length bytes → length (slice_range bytes from end) ≡ end - from
part_length bytes from end h =
    ap length (between_is bytes from end) ∙ length-drop from (take end bytes) ∙ ap (λ n. n - from) (length-take-le end bytes h)

part_bytes : (kind : ChangeKind) (bytes : List ℕ) (from end : ℕ) → end ≤ length bytes → HasItsPart kind from end → from + byte_count (change_of kind (slice_range bytes from end)) ≡ end
part_bytes (Text Insert place) bytes from end h p = omega (arith, p, part_length bytes from end h)
part_bytes (Text Delete place) bytes from end h p = omega (arith, p, part_length bytes from end h)
part_bytes (Container coalesce token) bytes from end h p = omega (arith, p)

parts_bytes : (from : ℕ) (rs : List StepRecord) (bytes : List ℕ) → AreParts from rs (length bytes) → from + sum_by byte_count (map change_in (entries_from from rs bytes)) ≡ length bytes
parts_bytes from [] bytes h = omega (arith, h)
parts_bytes from (r ∷ rs) bytes h =
    let c = change_of r.kind (slice_range bytes from r.bytes_end) in
    omega (arith, sum_by-cons byte_count c (map change_in (entries_from r.bytes_end rs bytes)), part_bytes r.kind bytes from r.bytes_end (parts_above r.bytes_end rs (length bytes) h.1) h.0, parts_bytes r.bytes_end rs bytes h.1)

-- What fits in is what fits into the blocks.

pub held_in : (i : Inside) (k : Kept) → IsInOrder i.steps.items i.bytes.items i.past i.transactions → seen i ≡ k →
    (held_steps k.history ≡ length i.steps.items) × (held_bytes k.history ≡ length i.bytes.items)
held_in i k o e =
    let es = entries_in i.steps.items i.bytes.items in
    let all = ap (λ (k : Kept). all_changes k.history) (sym e) ∙ all_changes_are es i.past i.depth i.save_point i.is_collecting in (
      ap length all ∙ length-reverse (map change_in es) ∙ length-map es change_in ∙ entries_length 0 i.steps.items i.bytes.items,
      omega (arith, ap (λ t. sum_by byte_count t) all, bytes_reverse (map change_in es), parts_bytes 0 i.steps.items i.bytes.items o.parts),
    )

module _ (i : Inside) (k : Kept) (steps bytes : ℕ) (o : IsInOrder i.steps.items i.bytes.items i.past i.transactions) (e : seen i ≡ k) where
  pub fits_in_blocks : Fits steps bytes k → ItemsFit steps i.steps × ItemsFit bytes i.bytes
  fits_in_blocks fits =
      let held = held_in i k o e in
      (omega (arith, held.0, fits.0, ap (λ (k : Kept). k.capacity.steps) e), omega (arith, held.1, fits.1, ap (λ (k : Kept). k.capacity.bytes) e))

  pub blocks_fit : ItemsFit steps i.steps → ItemsFit bytes i.bytes → Fits steps bytes k
  blocks_fit s b =
      let held = held_in i k o e in
      (omega (arith, held.0, s, ap (λ (k : Kept). k.capacity.steps) e), omega (arith, held.1, b, ap (λ (k : Kept). k.capacity.bytes) e))
