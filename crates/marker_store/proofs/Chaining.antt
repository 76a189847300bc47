-- Chains of links, what is read along them, and how they change.
use Rattle.split_vector.specs.Split.{inserted, deleted}
use Rattle.marker_store.proofs.Names.{All, All-set, All-head, All-tail, All-append, All-take, All-drop, All-replicate, append-nil, take_all, drop_all, get_or-le-sum_by, sum_by-le, sum_by-take-drop, sum_by-drop_more, subst, ap₂, ◌≡◌, ◌==◌, ℕ, ◌+◌, ◌-◌, ◌<◌, ◌≤◌, ◌≢◌, inl, inr, zero, suc, List, [], ◌∷◌, ◌++◌, length, get_or, set, take, drop, replicate, refl, sym, ap, ◌∙◌, arith, map, map-append, take-map, drop-map, length-map, length-set, length-append, cases_eq, get_or-set_same, get_or-set_other, get_or_append_left, get_or_at, map-set, sum_by-set, sum_by-cons, sum_by-append, sum_by, eq-eqb, ne_eqb, nil_from_length, Marker, Link, link, no_link, link_at, relinked, row_from, rows_in, head, IsChain, times, uses, AreLinked}

-- the markers of a chain, from its end on
abbrev pub row : List Link → List ℕ → List Marker
row links [] = []
row links (k ∷ ks) = row links ks ++ (link_at links k).marker ∷ []

pub length-row : (links : List Link) (c : List ℕ) → length (row links c) ≡ length c
length-row links [] = refl
length-row links (k ∷ ks) = length-append (row links ks) ((link_at links k).marker ∷ []) ∙ omega (arith, length-row links ks)

pub no_links : AreLinked [] (0 ∷ (0 ∷ [])) ([] ∷ ([] ∷ []))
no_links = record { firsts = refl; linked = All-replicate (IsChain []) 2 [] tt; once = λ k. omega arith; full = refl }

-- Lists of chains.

module _ {X Y : Type 0} where
  same_map : (f g : X → Y) (xs : List X) → All (λ x. f x ≡ g x) xs → map f xs ≡ map g xs
  same_map f g [] all = refl
  same_map f g (x ∷ xs) all = ap₂ (λ y ys. y ∷ ys) (All-head (λ x. f x ≡ g x) x xs all) (same_map f g xs (All-tail (λ x. f x ≡ g x) x xs all))

  map_at : (f : X → Y) (xs : List X) (i : ℕ) (d : X) → get_or (map f xs) i (f d) ≡ f (get_or xs i d)
  map_at f [] i d = refl
  map_at f (x ∷ xs) zero d = refl
  map_at f (x ∷ xs) (suc i) d = map_at f xs i d

  map_map : {Z : Type 0} (g : Y → Z) (f : X → Y) (xs : List X) → map g (map f xs) ≡ map (λ x. g (f x)) xs
  map_map g f [] = refl
  map_map g f (x ∷ xs) = ap (λ zs. g (f x) ∷ zs) (map_map g f xs)

  map-replicate : (f : X → Y) (n : ℕ) (x : X) → map f (replicate n x) ≡ replicate n (f x)
  map-replicate f zero x = refl
  map-replicate f (suc n) x = ap (λ ys. f x ∷ ys) (map-replicate f n x)

  map-inserted : (f : X → Y) (xs : List X) (i n : ℕ) (x : X) (y : Y) → f x ≡ y → map f (inserted xs i (replicate n x)) ≡ inserted (map f xs) i (replicate n y)
  map-inserted f xs i n x y e = simp (map-append, take-map, drop-map) (ap (λ ys. map f (take i xs) ++ ys ++ map f (drop i xs)) (map-replicate f n x ∙ ap (replicate n) e))

  map-deleted : (f : X → Y) (xs : List X) (i : ℕ) → map f (deleted xs i 1) ≡ deleted (map f xs) i 1
  map-deleted f xs i = simp (map-append, take-map, drop-map)

-- A walk of at most n links sees a chain.

row_is : (n : ℕ) (links : List Link) (ks : List ℕ) → IsChain links ks → length ks ≤ n → row_from n links (head ks) ≡ row links ks
row_is zero links [] c h = refl
row_is zero links (k ∷ ks) c h = absurd (omega arith)
row_is (suc n) links [] c h = refl
row_is (suc n) links (k ∷ ks) c h = rw (ne_eqb k 0 (omega (arith, c.0)), c.2) (ap (λ ms. ms ++ (link_at links k).marker ∷ []) (row_is n links ks c.3 (omega arith)))

module _ (links : List Link) (hs : List ℕ) (cs : List (List ℕ)) (w : AreLinked links hs cs) where
  pub seen : rows_in links hs ≡ map (row links) cs
  seen =
      ap (rows_in links) w.firsts ∙ map_map (row_from (length links) links) head cs
      ∙ same_map (λ c. row_from (length links) links (head c)) (row links) cs (λ i d h. row_is (length links) links (get_or cs i d) (w.linked i d h) (omega (arith, w.full, get_or-le-sum_by length cs i d h)))

  pub row_seen : (i : ℕ) → get_or (rows_in links hs) i [] ≡ row links (get_or cs i [])
  row_seen i = ap (λ rs. get_or rs i []) seen ∙ map_at (row links) cs i []

  pub first_of : (i : ℕ) → get_or hs i 0 ≡ head (get_or cs i [])
  first_of i = ap (λ l. get_or l i 0) w.firsts ∙ map_at head cs i []

  pub as_many : length hs ≡ length cs
  as_many = ap length w.firsts ∙ length-map cs head

  -- a chain begins nowhere if it has no link
  pub bare_is : (i : ℕ) → i < length hs → (get_or hs i 0 == 0) ≡ (length (get_or (rows_in links hs) i []) == 0)
  bare_is i h = rw (first_of i, row_seen i, length-row links (get_or cs i [])) (go (get_or cs i []) (w.linked i [] (omega (arith, as_many))))
    where
      go : (c : List ℕ) → IsChain links c → (head c == 0) ≡ (length c == 0)
      go [] c = refl
      go (k ∷ ks) c = ne_eqb k 0 (omega (arith, c.0)) ∙ sym (ne_eqb (length (k ∷ ks)) 0 (omega arith))

  -- each link has a marker of one row
  pub total_seen : sum_by length (rows_in links hs) ≡ length links
  total_seen = ap (sum_by length) seen ∙ go cs ∙ w.full
    where
      go : (cs : List (List ℕ)) → sum_by length (map (row links) cs) ≡ sum_by length cs
      go [] = refl
      go (c ∷ cs) = omega (arith, length-row links c, go cs, sum_by-cons length (row links c) (map (row links) cs), sum_by-cons length c cs)

-- A chain of links that stay.

times-here : (k : ℕ) (ks : List ℕ) → times k (k ∷ ks) ≡ 1 + times k ks
times-here k ks = rw (eq-eqb k k refl) refl

times-other : (j k : ℕ) (ks : List ℕ) → j ≢ k → times k (j ∷ ks) ≡ times k ks
times-other j k ks ne = rw (ne_eqb j k ne) (omega arith)

kept :
    (links links' : List Link) → length links ≤ length links' → (js : List ℕ) → ((j : ℕ) → 0 < times j js → 0 < j → j ≤ length links → link_at links' j ≡ link_at links j)
    → IsChain links js → IsChain links' js × (row links' js ≡ row links js)
kept links links' long [] same c = (tt, refl)
kept links links' long (j ∷ js) same c =
    let here : link_at links' j ≡ link_at links j = same j (omega (arith, times-here j js)) c.0 c.1 in
    let rest = kept links links' long js (λ i some. same i (omega arith)) c.3 in
    ((c.0, omega (arith, c.1), ap (λ (l : Link). l.next) here ∙ c.2, rest.0), ap₂ (λ (l : Link) (r : List Marker). r ++ l.marker ∷ []) here rest.1)

-- A link that is in no chain goes to the front of one, with a marker.

module _
    (links links' : List Link) (cs : List (List ℕ)) (b k : ℕ) (m : Marker) (long : length links ≤ length links') (some : 0 < k) (within : k ≤ length links')
    (here : link_at links' k ≡ link m (head (get_or cs b []))) (same : (j : ℕ) → j ≢ k → 0 < j → j ≤ length links → link_at links' j ≡ link_at links j)
    (w : All (IsChain links) cs) (free : uses k cs ≡ 0) (hb : b < length cs) where
  abbrev pub put : List (List ℕ)
  put = set cs b (k ∷ get_or cs b [])

  keeps : (i : ℕ) (d : List ℕ) → i < length cs → IsChain links' (get_or cs i d) × (row links' (get_or cs i d) ≡ row links (get_or cs i d))
  keeps i d h =
      kept links links' long (get_or cs i d)
      (λ j used. same j (λ e. absurd (omega (arith, get_or-le-sum_by (times k) cs i d h, free, used, ap (λ x. times x (get_or cs i d)) e)))) (w i d h)

  pub put_linked : All (IsChain links') put
  put_linked =
      All-set (IsChain links') cs b (k ∷ get_or cs b []) (some, within, ap (λ (l : Link). l.next) here, (keeps b [] hb).0) (λ i d h. (keeps i d h).0)

  pub put_rows : map (row links') put ≡ set (map (row links) cs) b (row links (get_or cs b []) ++ m ∷ [])
  put_rows =
      map-set (row links') cs b (k ∷ get_or cs b [])
      ∙ ap₂ (λ (rs : List (List Marker)) (r : List Marker). set rs b r) (same_map (row links') (row links) cs (λ i d h. (keeps i d h).1))
      (ap₂ (λ (l : Link) (r : List Marker). r ++ l.marker ∷ []) here (keeps b [] hb).1)

  pub put_uses : (j : ℕ) → uses j put + times j (get_or cs b []) ≡ uses j cs + times j (k ∷ get_or cs b [])
  put_uses j = sum_by-set (times j) cs b (k ∷ get_or cs b []) [] hb

  pub put_length : sum_by length put ≡ sum_by length cs + 1
  put_length = omega (arith, sum_by-set length cs b (k ∷ get_or cs b []) [] hb)

-- the first link of a chain, with this number, is now the first of another one, with a marker
pub record IsMoved (links : List Link) (hs : List ℕ) (a b at : ℕ) (m : Marker) : Type 0 where
  pub within : (0 < at) × (at ≤ length links)
  pub chains : List (List ℕ)
  pub linked : AreLinked (relinked links at m (get_or hs b 0)) (set (set hs a (link_at links at).next) b at) chains
  pub front : List Marker
  pub was : get_or (rows_in links hs) a [] ≡ front ++ (link_at links at).marker ∷ []
  pub is :
      rows_in (relinked links at m (get_or hs b 0)) (set (set hs a (link_at links at).next) b at) ≡ set (set (rows_in links hs) a front) b (get_or (rows_in links hs) b [] ++ m ∷ [])

module _ (links : List Link) (hs : List ℕ) (cs : List (List ℕ)) (w : AreLinked links hs cs) where
  pub move : (a b at : ℕ) (m : Marker) → a < length hs → b < length hs → a ≢ b → at ≡ get_or hs a 0 → 0 < length (get_or (rows_in links hs) a []) → IsMoved links hs a b at m
  move a b at m ha hb ne first some = go (get_or cs a []) refl (w.linked a [] (omega (arith, as_many links hs cs w)))
    where
      moved : (ks : List ℕ) → get_or cs a [] ≡ at ∷ ks → IsChain links (at ∷ ks) → IsMoved links hs a b at m
      moved ks e chain =
          let ha' : a < length cs = omega (arith, as_many links hs cs w) in
          let cut = set cs a ks in
          let next = link m (get_or hs b 0) in
          let links' = relinked links at m (get_or hs b 0) in
          let long : length links' ≡ length links = length-set links (at - 1) next in
          let hb' : b < length cut = omega (arith, as_many links hs cs w, length-set cs a ks) in
          let all : All (IsChain links) cut = All-set (IsChain links) cs a ks chain.3 w.linked in
          let still : get_or cut b [] ≡ get_or cs b [] = get_or-set_other cs a b ks [] (λ x. ne (sym x)) in
          let cut_uses : ((j : ℕ) → uses j cut + times j (at ∷ ks) ≡ uses j cs + times j ks) = λ j. ap (λ c. uses j cut + times j c) (sym e) ∙ sum_by-set (times j) cs a ks [] ha' in
          let free : uses at cut ≡ 0 = omega (arith, cut_uses at, times-here at ks, w.once at) in
          let here : link_at links' at ≡ link m (head (get_or cut b []))
          = get_or-set_same links (at - 1) next no_link (omega (arith, chain.0, chain.1)) ∙ ap (link m) (first_of links hs cs w b ∙ ap head (sym still)) in
          let same : ((j : ℕ) → j ≢ at → 0 < j → j ≤ length links → link_at links' j ≡ link_at links j) = λ j apart p q. get_or-set_other links (at - 1) (j - 1) next no_link (λ x. apart (omega (arith, chain.0))) in
          let room : length links ≤ length links' = omega arith in
          let in' : at ≤ length links' = omega (arith, chain.1) in
          let linked : AreLinked links' (set (set hs a (link_at links at).next) b at) (set cut b (at ∷ get_or cut b []))
          = record {
            firsts =
                ap₂ (λ (l : List ℕ) (n : ℕ). set (set l a n) b at) w.firsts chain.2
                ∙ sym (map-set head cut b (at ∷ get_or cut b []) ∙ ap (λ l. set l b at) (map-set head cs a ks));
            linked = put_linked links links' cut b at m room chain.0 in' here same all free hb';
            once = λ j. omega (arith, put_uses links links' cut b at m room chain.0 in' here same all free hb' j, cut_uses j, w.once j);
            full = omega (arith, w.full, long, put_length links links' cut b at m room chain.0 in' here same all free hb', sum_by-set length cs a ks [] ha', ap length e);
          } in
          record {
            within = (chain.0, chain.1);
            chains = set cut b (at ∷ get_or cut b []);
            linked = linked;
            front = row links ks;
            was = row_seen links hs cs w a ∙ ap (row links) e;
            is =
                seen links' (set (set hs a (link_at links at).next) b at) (set cut b (at ∷ get_or cut b [])) linked
                ∙ put_rows links links' cut b at m room chain.0 in' here same all free hb'
                ∙ ap₂ (λ (rs : List (List Marker)) (r : List Marker). set rs b (r ++ m ∷ [])) (map-set (row links) cs a ks ∙ ap (λ rs. set rs a (row links ks)) (sym (seen links hs cs w)))
                (ap (row links) still ∙ sym (row_seen links hs cs w b));
          }

      go : (c : List ℕ) → get_or cs a [] ≡ c → IsChain links (get_or cs a []) → IsMoved links hs a b at m
      go [] e chain = absurd (omega (arith, some, ap length (row_seen links hs cs w a ∙ ap (row links) e)))
      go (k ∷ ks) e chain =
          let same : get_or cs a [] ≡ at ∷ ks = e ∙ ap (λ n. n ∷ ks) (sym (first ∙ first_of links hs cs w a ∙ ap head e)) in
          moved ks same (subst (IsChain links) same chain)

  -- A new link goes to the front of a chain, with a marker.

  module _ (b : ℕ) (m : Marker) (hb : b < length hs) where
    abbrev new : ℕ
    new = length links + 1

    abbrev longer : List Link
    longer = links ++ link m (get_or hs b 0) ∷ []

    hb' : b < length cs
    hb' = omega (arith, as_many links hs cs w)

    long : length longer ≡ new
    long = length-append links (link m (get_or hs b 0) ∷ [])

    here : link_at longer new ≡ link m (head (get_or cs b []))
    here = get_or_at links (link m (get_or hs b 0)) [] no_link (new - 1) (omega arith) ∙ ap (link m) (first_of links hs cs w b)

    same : (j : ℕ) → j ≢ new → 0 < j → j ≤ length links → link_at longer j ≡ link_at links j
    same j ne p q = get_or_append_left links (link m (get_or hs b 0) ∷ []) no_link (j - 1) (omega arith)

    past : (c : List ℕ) → IsChain links c → times new c ≡ 0
    past [] c = refl
    past (j ∷ js) c = times-other j new js (omega (arith, c.1)) ∙ past js c.3

    free : uses new cs ≡ 0
    free = omega (arith, sum_by-le (times new) 0 cs (λ i d h. omega (arith, past (get_or cs i d) (w.linked i d h))))

    abbrev pub added : List (List ℕ)
    added = set cs b (new ∷ get_or cs b [])

    pub added_linked : AreLinked longer (set hs b new) added
    added_linked = record {
      firsts = ap (λ l. set l b new) w.firsts ∙ sym (map-set head cs b (new ∷ get_or cs b []));
      linked = put_linked links longer cs b new m (omega (arith, long)) (omega arith) (omega (arith, long)) here same w.linked free hb';
      once =
          λ j. elim (cases_eq new j) [
            | inl e ↦
                let one : times j (new ∷ get_or cs b []) ≡ 1 + times j (get_or cs b []) = rw e (times-here j (get_or cs b [])) in
                omega (arith, one, put_uses links longer cs b new m (omega (arith, long)) (omega arith) (omega (arith, long)) here same w.linked free hb' j, free, ap (λ n. uses n cs) e)
            | inr ne ↦
                omega
                (arith, put_uses links longer cs b new m (omega (arith, long)) (omega arith) (omega (arith, long)) here same w.linked free hb' j, times-other new j (get_or cs b []) ne, w.once j)
          ];
      full = omega (arith, w.full, long, put_length links longer cs b new m (omega (arith, long)) (omega arith) (omega (arith, long)) here same w.linked free hb');
    }

    pub added_rows : rows_in longer (set hs b new) ≡ set (rows_in links hs) b (get_or (rows_in links hs) b [] ++ m ∷ [])
    added_rows =
        seen longer (set hs b new) added added_linked
        ∙ put_rows links longer cs b new m (omega (arith, long)) (omega arith) (omega (arith, long)) here same w.linked free hb'
        ∙ ap₂ (λ (rs : List (List Marker)) (r : List Marker). set rs b (r ++ m ∷ [])) (sym (seen links hs cs w)) (sym (row_seen links hs cs w b))

-- Chains without a link come and go.

nowhere : (n : ℕ) (links : List Link) → row_from n links 0 ≡ []
nowhere zero links = refl
nowhere (suc n) links = refl

pub wider_rows : (links : List Link) (hs : List ℕ) (i n : ℕ) → rows_in links (inserted hs i (replicate n 0)) ≡ inserted (rows_in links hs) i (replicate n [])
wider_rows links hs i n = map-inserted (λ at. row_from (length links) links at) hs i n 0 [] (nowhere (length links) links)

pub fewer_rows : (links : List Link) (hs : List ℕ) (i : ℕ) → rows_in links (deleted hs i 1) ≡ deleted (rows_in links hs) i 1
fewer_rows links hs i = map-deleted (λ at. row_from (length links) links at) hs i

sum_bare : (f : List ℕ → ℕ) (n : ℕ) → f [] ≡ 0 → sum_by f (replicate n []) ≡ 0
sum_bare f zero e = refl
sum_bare f (suc n) e = omega (arith, sum_by-cons f [] (replicate n []), sum_bare f n e, e)

module _ (links : List Link) (hs : List ℕ) (cs : List (List ℕ)) (w : AreLinked links hs cs) (i : ℕ) where
  pub wider : (n : ℕ) → AreLinked links (inserted hs i (replicate n 0)) (inserted cs i (replicate n []))
  wider n =
      let sums : ((f : List ℕ → ℕ) → f [] ≡ 0 → sum_by f (inserted cs i (replicate n [])) ≡ sum_by f cs)
      = λ f e. omega (arith, sum_by-append f (take i cs ++ replicate n []) (drop i cs), sum_by-append f (take i cs) (replicate n []), sum_bare f n e, sum_by-take-drop f cs i) in
      record {
        firsts = ap (λ l. inserted l i (replicate n 0)) w.firsts ∙ sym (map-inserted head cs i n [] 0 refl);
        linked =
            All-append (IsChain links) (take i cs ++ replicate n []) (drop i cs)
            (All-append (IsChain links) (take i cs) (replicate n []) (All-take (IsChain links) i cs w.linked) (All-replicate (IsChain links) n [] tt))
            (All-drop (IsChain links) i cs w.linked);
        once = λ k. omega (arith, w.once k, sums (times k) refl);
        full = sums length refl ∙ w.full;
      }

  pub narrower : i < length hs → length (get_or (rows_in links hs) i []) ≡ 0 → AreLinked links (deleted hs i 1) (deleted cs i 1)
  narrower h bare =
      let none : length (get_or cs i []) ≡ 0 = sym (length-row links (get_or cs i [])) ∙ ap length (sym (row_seen links hs cs w i)) ∙ bare in
      let sums : ((f : List ℕ → ℕ) → f [] ≡ 0 → sum_by f (deleted cs i 1) ≡ sum_by f cs)
      = λ f e. omega
      (arith, sum_by-append f (take i cs) (drop (i + 1) cs), sum_by-take-drop f cs i, sum_by-drop_more f cs i [] (omega (arith, as_many links hs cs w)), ap f (nil_from_length (get_or cs i []) none), e) in
      record {
        firsts = ap (λ l. deleted l i 1) w.firsts ∙ sym (map-deleted head cs i);
        linked = All-append (IsChain links) (take i cs) (drop (i + 1) cs) (All-take (IsChain links) i cs w.linked) (All-drop (IsChain links) (i + 1) cs w.linked);
        once = λ k. omega (arith, w.once k, sums (times k) refl);
        full = sums length refl ∙ w.full;
      }

pub at_end : {X : Type 0} (xs : List X) (x : X) → inserted xs (length xs) (x ∷ []) ≡ xs ++ x ∷ []
at_end xs x = rw (take_all (length xs) xs (omega arith), drop_all (length xs) xs (omega arith)) (append-nil (xs ++ x ∷ []))
