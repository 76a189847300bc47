-- A walk along a chain.
use Rattle.marker_store.proofs.Names.{◌≢◌, ◌≡◌, ◌⊎◌, inl, inr, ℕ, ◌+◌, ◌^◌, ◌<◌, ◌≤◌, ◌||◌, Bool, true, false, suc, List, [], ◌∷◌, ◌++◌, length, get_or, refl, sym, ap, ◌∙◌, arith, bit_or, fold, map, mask_of, list_any, get_or-le-sum_by, Marker, Link, link_at, head, IsChain, Chained, all_heads, chains_in, AreSound, Inside}
use Rattle.std.proofs.lemmas.Nat.{or_comm}
use Rattle.std.proofs.lemmas.Nat.Bits.{bit_at_or, same_from_bits}
use Rattle.std.proofs.lemmas.List.Folds.{list_any-append}
use Rattle.marker_store.proofs.Chaining.{row, row_seen, first_of, as_many}
use Rattle.marker_store.proofs.Deeds.{lines_seen}

-- the links of a chain that are left, and what reading their markers gives
pub record IsOnWay (links : List Link) (at passed : ℕ) {B : Type 0} (read : List Marker → B) (all : B) : Type 0 where
  pub rest : List ℕ
  pub first : at ≡ head rest
  pub chain : IsChain links rest
  pub few : length rest + passed ≤ length links
  pub left : read (row links rest) ≡ all

module _ {A : Type 0} (c : Inside A) (s : AreSound c) (now : Chained) (view : chains_in c ≡ now) where
  pub begins : (line at : ℕ) → line < length now.rows → at ≡ get_or c.heads.items line 0 → {B : Type 0} (read : List Marker → B) (all : B) → read (get_or now.rows line []) ≡ all → IsOnWay c.links.items at 0 read all
  begins line at h first read all e = record {
    rest = get_or s.chains (suc (suc line)) [];
    first = first ∙ first_of c.links.items (all_heads c) s.chains s.linked (suc (suc line));
    chain = s.linked.linked (suc (suc line)) [] (omega (arith, lines_seen c s now view, as_many c.links.items (all_heads c) s.chains s.linked));
    few =
        omega
        (arith, lines_seen c s now view, as_many c.links.items (all_heads c) s.chains s.linked, s.linked.full, get_or-le-sum_by length s.chains (suc (suc line)) [] (omega (arith, lines_seen c s now view, as_many c.links.items (all_heads c) s.chains s.linked)));
    left = ap read (sym (row_seen c.links.items (all_heads c) s.chains s.linked (suc (suc line))) ∙ ap (λ (n : Chained). get_or n.rows line []) view) ∙ e;
  }

module _ (links : List Link) (at passed : ℕ) {B : Type 0} (read : List Marker → B) (all : B) (w : IsOnWay links at passed read all) where
  -- no link is left where the chain has ended, or where as many were passed as there are
  pub ends : (at ≡ 0) ⊎ (length links ≤ passed) → read [] ≡ all
  ends e = go w.rest w.first w.chain w.few w.left e
    where
      go : (rest : List ℕ) → at ≡ head rest → IsChain links rest → length rest + passed ≤ length links → read (row links rest) ≡ all → (at ≡ 0) ⊎ (length links ≤ passed) → read [] ≡ all
      go [] f c n l e = l
      go (k ∷ ks) f c n l (inl e) = absurd (omega (arith, f, c.0, e))
      go (k ∷ ks) f c n l (inr e) = absurd (omega arith)

  pub goes_on : (read' : List Marker → B) → at ≢ 0 → ((ms : List Marker) → read (ms ++ (link_at links at).marker ∷ []) ≡ read' ms) → IsOnWay links (link_at links at).next (passed + 1) read' all
  goes_on read' some same = go w.rest w.first w.chain w.few w.left
    where
      go : (rest : List ℕ) → at ≡ head rest → IsChain links rest → length rest + passed ≤ length links → read (row links rest) ≡ all → IsOnWay links (link_at links at).next (passed + 1) read' all
      go [] f c n l = absurd (some f)
      go (k ∷ ks) f c n l = record {
        rest = ks;
        first = ap (λ j. (link_at links j).next) f ∙ c.2;
        chain = c.3;
        few = omega arith;
        left = sym (same (row links ks)) ∙ ap (λ j. read (row links ks ++ (link_at links j).marker ∷ [])) f ∙ l;
      }

  -- the next link exists, and its marker is the last one that is left
  pub is_on : at ≢ 0 → (0 < at) × (at ≤ length links) × ((ms : List Marker) × (read (ms ++ (link_at links at).marker ∷ []) ≡ all))
  is_on some = go w.rest w.first w.chain w.left
    where
      go : (rest : List ℕ) → at ≡ head rest → IsChain links rest → read (row links rest) ≡ all → (0 < at) × (at ≤ length links) × ((ms : List Marker) × (read (ms ++ (link_at links at).marker ∷ []) ≡ all))
      go [] f c l = absurd (some f)
      go (k ∷ ks) f c l = (omega (arith, f, c.0), omega (arith, f, c.1), (row links ks, ap (λ j. read (row links ks ++ (link_at links j).marker ∷ [])) f ∙ l))

-- What is read: the bits of the markers, and whether a marker passes a test.

or_assoc : (a b c : ℕ) → bit_or (bit_or a b) c ≡ bit_or a (bit_or b c)
or_assoc a b c =
    same_from_bits (bit_or (bit_or a b) c) (bit_or a (bit_or b c)) (λ i. omega (arith, bit_at_or (bit_or a b) c i, bit_at_or a b i, bit_at_or a (bit_or b c) i, bit_at_or b c i))

mask_from : (a : ℕ) (ms : List Marker) (m : Marker) → fold bit_or a (map (λ (m : Marker). 2 ^ m.number) (ms ++ m ∷ [])) ≡ bit_or (fold bit_or a (map (λ (m : Marker). 2 ^ m.number) ms)) (2 ^ m.number)
mask_from a [] m = refl
mask_from a (x ∷ ms) m = mask_from (bit_or a (2 ^ x.number)) ms m

pub mask_read : (mask : ℕ) (ms : List Marker) (m : Marker) → bit_or mask (mask_of (ms ++ m ∷ [])) ≡ bit_or (bit_or mask (2 ^ m.number)) (mask_of ms)
mask_read mask ms m = ap (bit_or mask) (mask_from 0 ms m ∙ or_comm (mask_of ms) (2 ^ m.number)) ∙ sym (or_assoc mask (2 ^ m.number) (mask_of ms))

pub test_read : (test : Marker → Bool) (ms : List Marker) (m : Marker) (b : Bool) → test m ≡ b → list_any test (ms ++ m ∷ []) ≡ (b || list_any test ms)
test_read test ms m b e = list_any-append test ms (m ∷ []) ∙ either (list_any test ms) (test m) b e
  where
    either : (x y b : Bool) → y ≡ b → (x || (y || false)) ≡ (b || x)
    either true true b e = rw (← e) refl
    either true false b e = rw (← e) refl
    either false true b e = rw (← e) refl
    either false false b e = rw (← e) refl
