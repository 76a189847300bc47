-- What a contract sees of the fields of `Chains`, and of the calls that move one link.
use Rattle.split_vector.specs.Split.{Split, inserted, deleted, with_inserted, with_deleted}
use Rattle.marker_store.proofs.Names.{nil_from_length, eq-eqb, ne_eqb, Bool, true, zero, ◌≡◌, ◌==◌, ℕ, ◌+◌, ◌-◌, ◌^◌, ◌<◌, ◌≤◌, suc, List, [], ◌∷◌, ◌++◌, length, get_or, set, take, drop, subst, replicate, refl, sym, ap, ◌∙◌, arith, length-map, length-set, length-append, length-reverse, reverse, reverse-append, sum_by-cons, Marker, Link, link, link_at, relinked, row_from, rows_in, AreLinked, Chained, chained, held, IsLaid, IsBack, IsFreed, all_heads, chains_in, AreSound, Inside}
use Rattle.marker_store.proofs.Chaining.{IsMoved, move, bare_is, total_seen, added, added_linked, added_rows, wider, wider_rows, narrower, fewer_rows}

-- what a contract sees of the rows of all chains: those of the spare links, of those laid aside, and of the lines
abbrev told : List (List Marker) → (capacity line_capacity : ℕ) → Chained
told rows capacity line_capacity = chained (drop 2 rows) (reverse (get_or rows 1 [])) capacity line_capacity

pub zero_told : (n : ℕ) (b : Bool) → b ≡ (n == 0) → b ≡ true → n ≡ 0
zero_told zero b e t = refl
zero_told (suc n) b e t = absurd (cc (ne_eqb (suc n) 0 (omega arith), e, t))

module _ {A : Type 0} (c : Inside A) (s : AreSound c) (now : Chained) (view : chains_in c ≡ now) where
  pub lines_seen : length c.heads.items ≡ length now.rows
  lines_seen = sym (length-map c.heads.items (λ at. row_from (length c.links.items) c.links.items at)) ∙ ap (λ (n : Chained). length n.rows) view

  pub held_is : held now + c.unused ≡ length c.links.items
  held_is =
      omega (
        arith,
        ap held view,
        s.counted,
        total_seen c.links.items (all_heads c) s.chains s.linked,
        length-reverse (row_from (length c.links.items) c.links.items c.aside),
        sum_by-cons length (row_from (length c.links.items) c.links.items c.spare) (rows_in c.links.items (c.aside ∷ c.heads.items)),
        sum_by-cons length (row_from (length c.links.items) c.links.items c.aside) (rows_in c.links.items c.heads.items),
      )

  pub bare_line : (line : ℕ) → line < length now.rows → (get_or c.heads.items line 0 == 0) ≡ (length (get_or now.rows line []) == 0)
  bare_line line h =
      bare_is c.links.items (all_heads c) s.chains s.linked (suc (suc line)) (omega (arith, lines_seen)) ∙ ap (λ (n : Chained). length (get_or n.rows line []) == 0) view

  pub bare_row : (line : ℕ) → line < length now.rows → get_or c.heads.items line 0 ≡ 0 → get_or now.rows line [] ≡ []
  bare_row line h none = nil_from_length (get_or now.rows line []) (zero_told (length (get_or now.rows line [])) (get_or c.heads.items line 0 == 0) (bare_line line h) (eq-eqb (get_or c.heads.items line 0) 0 none))

  pub larger : (links : Split Link) → links ≡ record c.links { capacity = links.capacity } → chains_in (record c { links = links }) ≡ record now { capacity = links.capacity }
  larger links is =
      ap (λ (s : Split Link). record (chains_in (record c { links = s })) { capacity = links.capacity }) is ∙ ap (λ (n : Chained). record n { capacity = links.capacity }) view

  pub bare_aside : (c.aside == 0) ≡ (length now.aside == 0)
  bare_aside =
      bare_is c.links.items (all_heads c) s.chains s.linked 1 (omega arith) ∙ ap (λ n. n == 0) (sym (length-reverse (row_from (length c.links.items) c.links.items c.aside)))
      ∙ ap (λ (n : Chained). length n.aside == 0) view

  -- The last link of a line is laid aside.

  module _ (line at : ℕ) (h : line < length now.rows) (first : at ≡ get_or c.heads.items line 0) (some : 0 < length (get_or now.rows line [])) where
    pub lays : IsMoved c.links.items (all_heads c) (suc (suc line)) 1 at (link_at c.links.items at).marker
    lays =
        move c.links.items (all_heads c) s.chains s.linked (suc (suc line)) 1 at (link_at c.links.items at).marker (omega (arith, lines_seen)) (omega arith) (omega arith) first
        (omega (arith, some, ap (λ (n : Chained). length (get_or n.rows line [])) view))

    abbrev pub laid : Inside A
    laid = record c {
      links = record c.links { items = relinked c.links.items at (link_at c.links.items at).marker c.aside };
      heads = record c.heads { items = set c.heads.items line (link_at c.links.items at).next };
      aside = at;
    }

    pub laid_sound : AreSound laid
    laid_sound = record {
      chains = lays.chains;
      linked = lays.linked;
      counted = s.counted ∙ ap (λ (rs : List (List Marker)). length (get_or rs 0 [])) (sym lays.is);
      small = omega (arith, s.small, length-set c.links.items (at - 1) (link (link_at c.links.items at).marker c.aside));
    }

    pub is_laid : IsLaid line now (chains_in laid)
    is_laid = record {
      front = lays.front;
      last = (link_at c.links.items at).marker;
      row = ap (λ (n : Chained). get_or n.rows line []) (sym view) ∙ lays.was;
      is =
          ap (λ rs. told rs c.links.capacity c.heads.capacity) lays.is
          ∙ ap (λ ms. record (chains_in c) { rows = set (rows_in c.links.items c.heads.items) line lays.front; aside = ms })
          (reverse-append (row_from (length c.links.items) c.links.items c.aside) ((link_at c.links.items at).marker ∷ []))
          ∙ ap (λ (n : Chained). record n { rows = set n.rows line lays.front; aside = (link_at c.links.items at).marker ∷ n.aside }) view;
    }

  -- The link that was laid aside last goes back to a line, or becomes spare.

  module _ (some : 0 < length now.aside) where
    abbrev m : Marker
    m = (link_at c.links.items c.aside).marker

    some' : 0 < length (row_from (length c.links.items) c.links.items c.aside)
    some' = omega (arith, some, length-reverse (row_from (length c.links.items) c.links.items c.aside), ap (λ (n : Chained). length n.aside) view)

    frees : IsMoved c.links.items (all_heads c) 1 0 c.aside m
    frees = move c.links.items (all_heads c) s.chains s.linked 1 0 c.aside m (omega arith) (omega arith) (omega arith) refl some'

    pub aside_at : (0 < c.aside) × (c.aside ≤ length c.links.items)
    aside_at = frees.within

    first_then : (front : List Marker) → row_from (length c.links.items) c.links.items c.aside ≡ front ++ m ∷ [] → now.aside ≡ m ∷ reverse front
    first_then front was = ap (λ (n : Chained). n.aside) (sym view) ∙ ap reverse was ∙ reverse-append front (m ∷ [])

    pub first_marker : get_or now.aside 0 m ≡ m
    first_marker = ap (λ ms. get_or ms 0 m) (first_then frees.front frees.was)

    abbrev pub freed : Inside A
    freed = record c {
      links = record c.links { items = relinked c.links.items c.aside m c.spare };
      spare = c.aside;
      aside = (link_at c.links.items c.aside).next;
      unused = c.unused + 1;
    }

    pub freed_sound : AreSound freed
    freed_sound = record {
      chains = frees.chains;
      linked = frees.linked;
      counted =
          omega
          (arith, s.counted, ap (λ (rs : List (List Marker)). length (get_or rs 0 [])) frees.is, length-append (row_from (length c.links.items) c.links.items c.spare) (m ∷ []));
      small = omega (arith, s.small, length-set c.links.items (c.aside - 1) (link m c.spare));
    }

    pub is_freed : IsFreed now (chains_in freed)
    is_freed = record {
      first = m;
      rest = reverse frees.front;
      was = first_then frees.front frees.was;
      is = ap (λ rs. told rs c.links.capacity c.heads.capacity) frees.is ∙ ap (λ (n : Chained). record n { aside = reverse frees.front }) view;
    }

    module _ (line : ℕ) (h : line < length now.rows) where
      puts : IsMoved c.links.items (all_heads c) 1 (suc (suc line)) c.aside m
      puts = move c.links.items (all_heads c) s.chains s.linked 1 (suc (suc line)) c.aside m (omega arith) (omega (arith, lines_seen)) (omega arith) refl some'

      abbrev pub back : Inside A
      back = record c {
        links = record c.links { items = relinked c.links.items c.aside m (get_or c.heads.items line 0) };
        heads = record c.heads { items = set c.heads.items line c.aside };
        aside = (link_at c.links.items c.aside).next;
      }

      pub back_sound : AreSound back
      back_sound = record {
        chains = puts.chains;
        linked = puts.linked;
        counted = s.counted ∙ ap (λ (rs : List (List Marker)). length (get_or rs 0 [])) (sym puts.is);
        small = omega (arith, s.small, length-set c.links.items (c.aside - 1) (link m (get_or c.heads.items line 0)));
      }

      pub is_back : IsBack line now (chains_in back)
      is_back = record {
        first = m;
        rest = reverse puts.front;
        was = first_then puts.front puts.was;
        is =
            ap (λ rs. told rs c.links.capacity c.heads.capacity) puts.is
            ∙ ap (λ (n : Chained). record n { rows = set n.rows line (get_or n.rows line [] ++ m ∷ []); aside = reverse puts.front }) view;
      }

  -- A spare link, or a new one, goes to a line.

  module _ (line : ℕ) (m : Marker) (h : line < length now.rows) where
    module _ (some : 0 < c.unused) where
      takes : IsMoved c.links.items (all_heads c) 0 (suc (suc line)) c.spare m
      takes = move c.links.items (all_heads c) s.chains s.linked 0 (suc (suc line)) c.spare m (omega arith) (omega (arith, lines_seen)) (omega arith) refl (omega (arith, s.counted))

      pub spare_at : (0 < c.spare) × (c.spare ≤ length c.links.items)
      spare_at = takes.within

      abbrev pub taken : Inside A
      taken = record c {
        links = record c.links { items = relinked c.links.items c.spare m (get_or c.heads.items line 0) };
        heads = record c.heads { items = set c.heads.items line c.spare };
        spare = (link_at c.links.items c.spare).next;
        unused = c.unused - 1;
      }

      pub taken_sound : AreSound taken
      taken_sound = record {
        chains = takes.chains;
        linked = takes.linked;
        counted =
            omega (
              arith,
              s.counted,
              ap (λ (rs : List (List Marker)). length (get_or rs 0 [])) takes.is,
              ap length takes.was,
              length-append takes.front ((link_at c.links.items c.spare).marker ∷ []),
            );
        small = omega (arith, s.small, length-set c.links.items (c.spare - 1) (link m (get_or c.heads.items line 0)));
      }

      pub is_taken : chains_in taken ≡ record now { rows = set now.rows line (get_or now.rows line [] ++ m ∷ []) }
      is_taken =
          ap (λ rs. told rs c.links.capacity c.heads.capacity) takes.is ∙ ap (λ (n : Chained). record n { rows = set n.rows line (get_or n.rows line [] ++ m ∷ []) }) view

    module _ (links : List Link) (is : links ≡ c.links.items ++ link m (get_or c.heads.items line 0) ∷ []) (gap moved : ℕ) where
      in' : suc (suc line) < length (all_heads c)
      in' = omega (arith, lines_seen)

      abbrev pub longer : Inside A
      longer = record c {
        links = record { items = links; capacity = c.links.capacity; gap = gap; moved = moved };
        heads = record c.heads { items = set c.heads.items line (length c.links.items + 1) };
      }

      pub longer_sound : length c.links.items + 1 < 2 ^ 32 → AreSound longer
      longer_sound few = rw is (record {
        chains = added c.links.items (all_heads c) s.chains s.linked (suc (suc line)) m in';
        linked = added_linked c.links.items (all_heads c) s.chains s.linked (suc (suc line)) m in';
        counted = s.counted ∙ ap (λ (rs : List (List Marker)). length (get_or rs 0 [])) (sym (added_rows c.links.items (all_heads c) s.chains s.linked (suc (suc line)) m in'));
        small = omega (arith, few, length-append c.links.items (link m (get_or c.heads.items line 0) ∷ []));
      })

      pub is_longer : chains_in longer ≡ record now { rows = set now.rows line (get_or now.rows line [] ++ m ∷ []) }
      is_longer =
          rw is (
          ap (λ rs. told rs c.links.capacity c.heads.capacity) (added_rows c.links.items (all_heads c) s.chains s.linked (suc (suc line)) m in')
          ∙ ap (λ (n : Chained). record n { rows = set n.rows line (get_or n.rows line [] ++ m ∷ []) }) view
          )

  -- Lines without markers come, and go.

  module _ (line count : ℕ) where
    pub wider_sound : AreSound (record c { heads = with_inserted line count (replicate count 0) c.heads })
    wider_sound = record {
      chains = inserted s.chains (suc (suc line)) (replicate count []);
      linked = wider c.links.items (all_heads c) s.chains s.linked (suc (suc line)) count;
      counted = s.counted;
      small = s.small;
    }

    pub is_wider : chains_in (record c { heads = with_inserted line count (replicate count 0) c.heads }) ≡ record now { rows = inserted now.rows line (replicate count []) }
    is_wider =
        ap (λ rows. record (chains_in c) { rows = rows }) (wider_rows c.links.items c.heads.items line count)
        ∙ ap (λ (n : Chained). record n { rows = inserted n.rows line (replicate count []) }) view

  module _ (line : ℕ) where
    pub fewer_sound : line < length now.rows → get_or now.rows line [] ≡ [] → AreSound (record c { heads = with_deleted line 1 c.heads })
    fewer_sound h bare = record {
      chains = deleted s.chains (suc (suc line)) 1;
      linked =
          let e : suc (suc line) + 1 ≡ suc (suc (line + 1)) = omega arith in
          subst (λ n. AreLinked c.links.items (take (suc (suc line)) (all_heads c) ++ drop n (all_heads c)) (deleted s.chains (suc (suc line)) 1)) e
          (narrower c.links.items (all_heads c) s.chains s.linked (suc (suc line)) (omega (arith, lines_seen)) (ap (λ (n : Chained). length (get_or n.rows line [])) view ∙ ap length bare));
      counted = s.counted;
      small = s.small;
    }

    pub is_fewer : chains_in (record c { heads = with_deleted line 1 c.heads }) ≡ record now { rows = deleted now.rows line 1 }
    is_fewer =
        ap (λ rows. record (chains_in c) { rows = rows }) (fewer_rows c.links.items c.heads.items line) ∙ ap (λ (n : Chained). record n { rows = deleted n.rows line 1 }) view
