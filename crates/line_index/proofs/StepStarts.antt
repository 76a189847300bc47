-- The line starts of an index around a step, call by call.
use Rattle.line_index.proofs.Names.{◌≡◌, ℕ, ◌+◌, ◌-◌, ◌<◌, ◌≤◌, min, max, List, ◌++◌, length, get_or, take, drop, map, slice_range, refl, ap, ◌∙◌, arith, length-append, length-drop, length-map, length-take-le, get_or-take, get_or-drop, get_or-map, get_or-append-add, get_or-append, front_kept, behind_kept, map-id, LineEndTypes, Step, Insert, Delete, edited, moved_start, line_starts, line_of, line_count, Partitions, CanLose, map_from, CanAdd, IsBefore, index_by, near_lines, last_touched, starts_near, starts_within, WereAdded}
use Rattle.line_index.specs.declared.steps.TextStep.{TextStep}
use Rattle.line_index.specs.declared.steps.TextStep.TheVariants.{Insertion, Deletion}
use Rattle.line_index.specs.declared.steps.Cleared.{Cleared}
use Rattle.line_index.specs.declared.change.LinesAbout.{LinesAbout}
use Rattle.line_index.specs.TextSteps.{IsStep, step_place, old_end, new_end, moved_behind, IsCleared}
use Rattle.line_index.proofs.NearBytes.{found_near, near_reaches}
use Rattle.line_index.proofs.StepLists.{Replaces, replaces, at_most, behind, touched_near, touched_moves, found_touched}
use Rattle.line_index.proofs.MovedLines.{lines_stay}

-- an index of the text `old`, before a step that leaves the text `new`, of which the bytes `near` are read
pub record Around (types : LineEndTypes) (p e e' : ℕ) (f moved : ℕ → ℕ) (near old new : List ℕ) (was : Partitions) : Type 0 where
  pub step : Replaces types p e e' f moved old new
  pub starts : was.starts ≡ line_starts types old
  pub long : was.length ≡ length old
  pub reads : near ≡ slice_range new (p - 3) (e' + 3)
  pub fits : line_count types new ≤ was.capacity

pub around :
    (types : LineEndTypes) (step : TextStep) (made : Step) (near old : List ℕ) (was : Partitions) → IsStep step made → IsBefore made near old (index_by types was)
    → Around types (step_place step) (old_end step) (new_end step) (moved_behind step) (moved_start made) near old (edited made old) was
around types (Insertion place count) (Insert p bytes) near old was made is =
    rw (← made.0, ← made.1) record {
      step = replaces types (Insert p bytes) old (λ s. s + length bytes) is.within (λ k h. omega arith);
      starts = is.index.starts;
      long = is.index.length;
      reads = is.reads;
      fits = is.fits;
    }
around types (Insertion place count) (Delete p bytes) near old was made is = absurd made
around types (Deletion place count) (Insert p bytes) near old was made is = absurd made
around types (Deletion place count) (Delete p bytes) near old was made is =
    let none : p + 0 ≡ p = omega arith in
    rw (← made.0, ← made.1) record {
      step = rw none at (replaces types (Delete p bytes) old (λ s. s - length bytes) is.within (λ k h. omega arith));
      starts = is.index.starts;
      long = is.index.length;
      reads = rw none at is.reads;
      fits = is.fits;
    }

-- the same, by the numbers that were computed
pub around_at :
    {types : LineEndTypes} {near : List ℕ} (was : Partitions) (step : TextStep) (p e e' : ℕ) → p ≡ step_place step → e ≡ old_end step → e' ≡ new_end step
    → (made : Step) (old : List ℕ) → IsStep step made → IsBefore made near old (index_by types was) → Around types p e e' (moved_behind step) (moved_start made) near old (edited made old) was
around_at {types} {near} was step p e e' a b d made old is before = rw (a, b, d) (around types step made near old was is before)

-- the starts that may depend on the step are removed
module _ {types : LineEndTypes} {p e e' : ℕ} {f moved : ℕ → ℕ} {near old new : List ℕ} {was mid : Partitions} {cleared : Cleared}
    (r : Around types p e e' f moved near old new was) (c : IsCleared types p e was mid cleared) where
  abbrev i : ℕ
  i = cleared.first

  abbrev j : ℕ
  j = cleared.first + cleared.removed

  abbrev starts : List ℕ
  starts = was.starts

  abbrev kept : (ℕ → ℕ) → List ℕ
  kept g = take i starts ++ map g (drop j starts)

  front_size : length (take i starts) ≡ i
  front_size = length-take-le i starts (omega (arith, c.within))

  pub mid_size : length mid.starts ≡ i + (length starts - j)
  mid_size = omega (arith, ap length c.starts, front_size, length-append (take i starts) (drop j starts), length-drop j starts)

  kept_size : (g : ℕ → ℕ) → length (kept g) ≡ i + (length starts - j)
  kept_size g = omega (arith, front_size, length-append (take i starts) (map g (drop j starts)), length-map (drop j starts) g, length-drop j starts)

  kept_front : (g : ℕ → ℕ) (k : ℕ) → k < i → get_or (kept g) k 0 < max p 1
  kept_front g k l =
      let m : k < length (take i starts) = omega (arith, front_size) in
      let same = get_or-append (take i starts) (map g (drop j starts)) 0 k m ∙ get_or-take i starts k 0 l in
      omega (arith, same, rw (← r.starts) at (at_most types old (p - 1) k) (omega (arith, c.within)) (omega (arith, c.first)))

  -- the others are moved
  kept_back : (g : ℕ → ℕ) (n k : ℕ) → k ≡ i + n → j + n < length starts → (get_or (kept g) k 0 ≡ g (get_or starts (j + n) 0)) × (last_touched types e < get_or starts (j + n) 0)
  kept_back g n k a h =
      let at : k ≡ length (take i starts) + n = omega (arith, front_size) in
      let m : n < length (drop j starts) = omega (arith, length-drop j starts) in (
        rw (at, get_or-append-add (take i starts) (map g (drop j starts)) n 0, get_or-map g (drop j starts) n 0 0 m, get_or-drop j starts n 0) refl,
        rw (← r.starts) at (behind types old (last_touched types e) (j + n)) h (omega (arith, c.behind)),
      )

  -- something stays of the partition of the step, however much is deleted up to its end
  pub can_lose : (count : ℕ) → p + count ≡ e → CanLose mid.starts mid.length (i - 1) count
  can_lose count a =
      let same : kept (λ s. s) ≡ mid.starts = rw (c.starts, map-id (drop j starts)) refl in
      let here = kept_front (λ s. s) (i - 1) (omega (arith, c.within)) in
      rw (← same, c.length) record {
        before_next = λ l. let next = kept_back (λ s. s) 0 (i - 1 + 1) (omega (arith, c.within)) (omega (arith, kept_size (λ s. s), c.within)) in omega (arith, next.0, next.1, here, touched_near types e);
        before_end = omega (arith, here, r.long, r.step.within);
      }

  module _ (now : Partitions) {stepped at : ℕ} (m : now ≡ record mid { starts = map_from f (i - 1 + 1) mid.starts; length = f mid.length; stepped = stepped; step_at = at }) where
    pub long_is : now.length ≡ length new
    long_is = omega (arith, ap (λ (p : Partitions). p.length) m, ap f (c.length ∙ r.long), r.step.moves (length old) r.step.within, r.step.size)

    pub moved_are : now.starts ≡ kept f
    moved_are =
        let at : i - 1 + 1 ≡ i = omega (arith, c.within) in
        ap (λ (p : Partitions). p.starts) m ∙ rw (at, c.starts, front_kept i starts (drop j starts) (omega (arith, c.within)), behind_kept i starts (drop j starts) (omega (arith, c.within))) refl

    module _ (base from to : ℕ) (b : base ≡ p - 3) (d : from ≡ max p 1) (t : to ≡ min (last_touched types e' + 1) (now.length + 1)) where
      reach : to ≤ e' + 3
      reach = omega (arith, t, touched_near types e')

      pub near_within : (base < from) × (from ≤ to) × (to ≤ base + length near + 1)
      near_within = (
        omega arith,
        omega (arith, long_is, touched_near types e', r.step.order_new, r.step.size, r.step.within),
        rw b (near_reaches types p e' near new r.reads to reach (omega (arith, t, long_is)) (omega (arith, r.step.order_new, r.step.size, r.step.within))),
      )

      found : starts_near types near base from to ≡ starts_within types new from to
      found = found_near types p e' near new r.reads base from to b d reach

      all : take i starts ++ starts_within types new from to ++ map f (drop j starts) ≡ line_starts types new
      all = rw r.starts (found_touched r.step i j from to (rw r.starts at c.first) (rw r.starts at c.behind) d (omega (arith, t, long_is)))

      -- .. and as many as were found, those of the new text
      counted : line_count types new + cleared.removed ≡ length starts + length (starts_near types near base from to)
      counted = omega (arith, ap length all, length-append (take i starts ++ starts_within types new from to) (map f (drop j starts)), length-append (take i starts) (starts_within types new from to), front_size, length-map (drop j starts) f, length-drop j starts, ap length found, c.within)

      -- so the places between are free for those that are found
      pub can_add : CanAdd types near base from to i now
      can_add = record {
        free = rw moved_are record {
          not_first = c.within.0;
          within = omega (arith, kept_size f);
          below = λ k l. omega (arith, kept_front f k l);
          above = λ k l m. let back = kept_back f (k - i) k (omega arith) (omega (arith, kept_size f, c.within)) in
              omega (arith, back.0, back.1, r.step.moves (get_or starts (j + (k - i)) 0) (omega (arith, back.1, touched_near types e)), touched_moves types e e');
          order = near_within.1;
          to_end = omega arith;
        };
        fits = omega (arith, counted, ap length moved_are, kept_size f, c.within, ap (λ (p : Partitions). p.capacity) m, c.capacity, r.fits);
      }

      module _ {later : Partitions} {next : ℕ} (added : WereAdded types near base from to i next now later) where
        pub all_found : later.starts ≡ line_starts types new
        all_found =
            let inside : i ≤ length starts = omega (arith, c.within) in
            added.starts ∙ rw (moved_are, found, front_kept i starts (map f (drop j starts)) inside, behind_kept i starts (map f (drop j starts)) inside) all

        pub stay : cleared.removed ≡ 0 → length later.starts ≡ cleared.lines → cleared.about.old_lines ≡ near_lines later.starts e'
        stay none same =
            let old_lines : cleared.about.old_lines ≡ near_lines starts e = ap (λ (a : LinesAbout). a.old_lines) c.about in
            let lines : line_of starts (p - 1) ≡ line_of starts (last_touched types e) = omega (arith, none, c.first, c.behind) in
            old_lines ∙ rw (all_found, r.starts) (lines_stay types p e e' f moved old new r.step (rw r.starts at lines) (omega (arith, ap length all_found, ap length r.starts, same, c.lines)))
