-- Line starts inserted part by part.
use Rattle.line_index.proofs.Names.{◌≡◌, ℕ, ◌+◌, ◌-◌, ◌<◌, ◌≤◌, Bool, true, false, List, [], ◌∷◌, ◌++◌, length, get_or, take, drop, insert, refl, sym, ap, ◌∙◌, inl, inr, arith, append_assoc, append-nil, length-append, length-drop, bit_at, cases_lt, cases_order, bit_at-zero, take_at, drop_at, length-take-le, get_or-take, get_or-drop, get_or-append-add, take-append-drop, get_or-append, LineEndTypes, is_line_start, Partitions, IsFree, CanAdd, WereAdded, MarkStarts, starts_near}
use Rattle.line_index.proofs.StartLists.{lie_between, passing_apart, none_passing, one_passing}

-- whether a line starts at a place, by the bytes near it
abbrev near_test : LineEndTypes → List ℕ → ℕ → ℕ → Bool
near_test types near base k = is_line_start types near (k - base)

near_apart : (types : LineEndTypes) (near : List ℕ) (base from mid to : ℕ) → from ≤ mid → mid ≤ to → length (starts_near types near base from to) ≡ length (starts_near types near base from mid) + length (starts_near types near base mid to)
near_apart types near base from mid to a b =
    ap length (passing_apart (near_test types near base) from mid to a b) ∙ length-append (starts_near types near base from mid) (starts_near types near base mid to)

-- more starts can be inserted behind those that were inserted
module _ (types : LineEndTypes) (text : List ℕ) (base : ℕ) (starts now : List ℕ) (end from mid last to at next : ℕ) (free : IsFree starts end from to at)
    (a : from ≤ mid) (b : mid ≤ last) (d : last ≤ to)
    (line : next ≡ at + length (starts_near types text base from mid))
    (same : now ≡ take at starts ++ starts_near types text base from mid ++ drop at starts) where
  front : length (take at starts) ≡ at
  front = length-take-le at starts free.within

  joined : length (take at starts ++ starts_near types text base from mid) ≡ next
  joined = omega (arith, front, length-append (take at starts) (starts_near types text base from mid))

  whole : length now ≡ next + (length starts - at)
  whole = omega (arith, ap length same, joined, length-append (take at starts ++ starts_near types text base from mid) (drop at starts), length-drop at starts)

  below_at : (k : ℕ) → k < next → get_or now k 0 < mid
  below_at k h =
      rw (same, get_or-append (take at starts ++ starts_near types text base from mid) (drop at starts) 0 k (omega (arith, joined)))
      (elim (cases_lt k at) [
        | inl l ↦
            rw (get_or-append (take at starts) (starts_near types text base from mid) 0 k (omega (arith, front)), get_or-take at starts k 0 l)
            (omega (arith, free.below k l))
        | inr m ↦
            let e : k ≡ length (take at starts) + (k - at) = omega (arith, front) in
            rw (e, get_or-append-add (take at starts) (starts_near types text base from mid) (k - at) 0)
            (lie_between (near_test types text base) from mid (k - at) a (omega arith)).1
      ])

  above_at : (k : ℕ) → next ≤ k → k < length now → last ≤ get_or now k 0
  above_at k h l =
      let e : k ≡ length (take at starts ++ starts_near types text base from mid) + (k - next) = omega (arith, joined) in
      rw (same, e, get_or-append-add (take at starts ++ starts_near types text base from mid) (drop at starts) (k - next) 0, get_or-drop at starts (k - next) 0)
      (omega (arith, free.above (at + (k - next)) (omega arith) (omega (arith, whole))))

  pub free_behind : IsFree now end mid last next
  free_behind =
      record {
        not_first = omega (arith, free.not_first);
        within = omega (arith, whole);
        below = below_at;
        above = above_at;
        order = b;
        to_end = omega (arith, free.to_end);
      }

added_size :
    {types : LineEndTypes} {text : List ℕ} {base from to at next : ℕ} {was now : Partitions} → WereAdded types text base from to at next was now → at ≤ length was.starts
    → length now.starts ≡ length was.starts + length (starts_near types text base from to)
added_size {types} {text} {base} {from} {to} {at} {next} {was} p w =
    let found : List ℕ = starts_near types text base from to in
    omega (arith, ap length p.starts, length-append (take at was.starts ++ found) (drop at was.starts), length-append (take at was.starts) found, length-take-le at was.starts w, length-drop at was.starts)

pub can_go_on :
    {types : LineEndTypes} {text : List ℕ} {base from mid to at next : ℕ} {was now : Partitions} → CanAdd types text base from to at was → WereAdded types text base from mid at next was now
    → (last : ℕ) → from ≤ mid → mid ≤ last → last ≤ to → CanAdd types text base mid last next now
can_go_on {types} {text} {base} {from} {mid} {to} {at} {next} {was} {now} can added last a b d =
    record {
      free = rw added.end (free_behind types text base was.starts now.starts was.length from mid last to at next can.free a b d added.line added.starts);
      fits = omega (arith, can.fits, added.capacity, added_size added can.free.within, near_apart types text base from mid to a (omega arith), near_apart types text base mid last to b d);
    }

-- one part and the next
pub added_both :
    {types : LineEndTypes} {text : List ℕ} {base from mid last at next behind : ℕ} {was now later : Partitions} → WereAdded types text base from mid at next was now
    → WereAdded types text base mid last next behind now later → at ≤ length was.starts → from ≤ mid → mid ≤ last → WereAdded types text base from last at behind was later
added_both {types} {text} {base} {from} {mid} {last} {at} {next} {behind} {was} p q w a b =
    let first : List ℕ = starts_near types text base from mid in
    let second : List ℕ = starts_near types text base mid last in
    let front : length (take at was.starts ++ first) ≡ next = omega (arith, p.line, length-take-le at was.starts w, length-append (take at was.starts) first) in
    let apart : starts_near types text base from last ≡ first ++ second = passing_apart (near_test types text base) from mid last a b in
    let size = near_apart types text base from mid last a b in
    record {
      starts =
          q.starts
          ∙ rw (p.starts, take_at (take at was.starts ++ first) (drop at was.starts) next front, drop_at (take at was.starts ++ first) (drop at was.starts) next front, apart)
          (simp append_assoc);
      end = q.end ∙ p.end;
      capacity = q.capacity ∙ p.capacity;
      line = omega (arith, size, p.line, q.line);
    }

-- where no line starts, there is nothing to insert
pub added_none :
    (types : LineEndTypes) (text : List ℕ) (base from to at : ℕ) (was : Partitions) → ((k : ℕ) → from ≤ k → k < to → is_line_start types text (k - base) ≡ false)
    → WereAdded types text base from to at at was was
added_none types text base from to at was none =
    let e : starts_near types text base from to ≡ [] = none_passing (near_test types text base) from to none in
    let size = ap length e in
    record {
      starts = rw (e, append-nil (take at was.starts)) (sym (take-append-drop at was.starts));
      end = refl;
      capacity = refl;
      line = omega (arith, size);
    }

pub added_nothing : (types : LineEndTypes) (text : List ℕ) (base place at : ℕ) (was : Partitions) → WereAdded types text base place place at at was was
added_nothing types text base place at was = added_none types text base place place at was (λ k a b. absurd (omega arith))

-- .. and no more behind what was inserted
pub added_past :
    {types : LineEndTypes} {text : List ℕ} {base from mid at next : ℕ} {was now : Partitions} → WereAdded types text base from mid at next was now → (last : ℕ)
    → ((k : ℕ) → mid ≤ k → k < last → is_line_start types text (k - base) ≡ false) → at ≤ length was.starts → from ≤ mid → mid ≤ last → WereAdded types text base from last at next was now
added_past {types} {text} {base} {from} {mid} {at} {next} {was} {now} p last none w a b = added_both p (added_none types text base mid last next now none) w a b

-- at one place
pub added_here :
    (types : LineEndTypes) (text : List ℕ) (base place at : ℕ) (was now : Partitions) (step : ℕ) → is_line_start types text (place - base) ≡ true
    → now ≡ record was { starts = insert was.starts at place; step_at = step } → WereAdded types text base place (place + 1) at (at + 1) was now
added_here types text base place at was now step on e =
    let one : starts_near types text base place (place + 1) ≡ place ∷ [] = one_passing (near_test types text base) place on in
    rw e record {
      starts = rw one (simp append_assoc);
      end = refl;
      capacity = refl;
      line = omega (arith, ap length one);
    }

-- of 64 places, those up to one are done, and the marks that are left are of later ones
pub record AreSeen (types : LineEndTypes) (text : List ℕ) (base : ℕ) (place first line left : ℕ) (was now : Partitions) : Type 0 where
  pub seen : ℕ
  pub low : place ≤ seen
  pub high : seen ≤ place + 64
  pub added : WereAdded types text base place seen first line was now
  pub behind : (k : ℕ) → k < 64 → bit_at left k ≡ 1 → seen ≤ place + k
  pub marked : (k : ℕ) → k < 64 → seen ≤ place + k → bit_at left k ≡ 0 → is_line_start types text (place + k - base) ≡ false

pub none_seen :
    (types : LineEndTypes) (text : List ℕ) (base place first marks : ℕ) (was : Partitions) → base ≤ place → MarkStarts types text (place - base) marks → AreSeen types text base place first first marks was was
none_seen types text base place first marks was low marked =
    record {
      seen = place;
      low = omega arith;
      high = omega arith;
      added = added_nothing types text base place first was;
      behind = λ k l set. omega arith;
      marked = λ k l a clear. let e : place + k - base ≡ place - base + k = omega arith in rw e (marked k l clear);
    }

-- none starts up to the next mark, or to the end of the 64
pub added_up_to :
    {types : LineEndTypes} {text : List ℕ} {base place first line left : ℕ} {was now : Partitions} (s : AreSeen types text base place first line left was now) (bit : ℕ) → first ≤ length was.starts
    → bit ≤ 64 → s.seen ≤ place + bit → ((k : ℕ) → k < bit → bit_at left k ≡ 0) → WereAdded types text base place (place + bit) first line was now
added_up_to {types} {text} {base} {place} s bit w l b below =
    added_past s.added (place + bit)
    (λ k a c.
    let e : k ≡ place + (k - place) = omega (arith, s.low) in
    rw e (s.marked (k - place) (omega (arith, s.low)) (omega (arith, s.low)) (below (k - place) (omega (arith, s.low))))) w s.low b

-- one more mark
pub one_seen :
    {types : LineEndTypes} {text : List ℕ} {base place first line left : ℕ} {was now : Partitions} → AreSeen types text base place first line left was now → (next rest bit : ℕ) (later : Partitions)
    → first ≤ length was.starts → bit < 64 → bit_at left bit ≡ 1 → ((k : ℕ) → k < bit → bit_at left k ≡ 0)
    → bit_at rest bit ≡ 0 → ((k : ℕ) → k < 64 → (k ≡ bit → ⊥) → bit_at rest k ≡ bit_at left k)
    → WereAdded types text base (place + bit) (place + bit + 1) line next now later → AreSeen types text base place first next rest was later
one_seen {place = place} s next rest bit later w l set below gone kept added =
    record {
      seen = place + bit + 1;
      low = omega arith;
      high = omega arith;
      added = added_both (added_up_to s bit w (omega arith) (s.behind bit l set) below) added w (omega arith) (omega arith);
      behind = λ k m here. elim (cases_order k bit) [
        | inl same ↦ absurd (let e : bit_at rest k ≡ 0 = rw same gone in omega arith)
        | inr (inl less) ↦ absurd (let ne : (k ≡ bit → ⊥) = λ e. omega arith in omega (arith, kept k m ne, below k less))
        | inr (inr more) ↦ omega arith
      ];
      marked = λ k m a clear. let ne : (k ≡ bit → ⊥) = λ e. omega arith in s.marked k m (omega (arith, s.behind bit l set)) (omega (arith, kept k m ne));
    }

-- no mark is left
pub all_seen :
    {types : LineEndTypes} {text : List ℕ} {base place first line left : ℕ} {was now : Partitions} → AreSeen types text base place first line left was now
    → first ≤ length was.starts → left ≡ 0 → WereAdded types text base place (place + 64) first line was now
all_seen s w none = added_up_to s 64 w (omega arith) s.high (λ k l. rw none (bit_at-zero k))

-- the line behind what was inserted, by how many starts that were
pub counted :
    {types : LineEndTypes} {text : List ℕ} {base from to at next : ℕ} {was now : Partitions} → WereAdded types text base from to at next was now
    → WereAdded types text base from to at (at + length (starts_near types text base from to)) was now
counted p = rw p.line at p
