-- The storage of markers: links, each with a marker and the number of the next one. Links that follow one another are a
-- chain. Links have numbers from 1 on, and 0 ends a chain.
use Rattle.std.specs.Prelude.{◌≡◌, ℕ, zero, suc, ◌+◌, ◌-◌, ◌<◌, ◌≤◌, ◌==◌, if◌then◌else◌, List, [], ◌∷◌, ◌++◌, length, map, sum_by, slice_index_or, slice_set, refl}
use Rattle.std.specs.List.{All}
use Rattle.std.specs.Coded.{Coded, code_by, coded×, coded_list, coded_ℕ}
use Rattle.ed_model.specs.Rows.{Marker}
use Rattle.marker_store.specs.Lines.{marker, marker_code}

-- a marker, and the number of the next link of its chain
pub record Link : Type 0 where
  pub marker : Marker
  pub next : ℕ

abbrev pub link : Marker → ℕ → Link
link marker next = record { marker = marker; next = next }

abbrev pub link_code : Coded Link
link_code = code_by (Marker × ℕ) (coded× marker_code coded_ℕ) (λ l. (l.marker, l.next)) (λ p. link p.0 p.1) (λ _. refl)

abbrev pub no_link : Link
no_link = link (marker 0 0) 0

-- the link with the number
abbrev pub link_at : List Link → ℕ → Link
link_at links at = slice_index_or links (at - 1) no_link

-- the links, of which that with the number has this marker and this next number
abbrev pub relinked : List Link → ℕ → Marker → ℕ → List Link
relinked links at marker next = slice_set links (at - 1) (link marker next)

-- What a contract sees of the chains: the markers of each line that has a chain, in their order; those laid aside, the
-- last one first; for how many markers there is memory, and for the chains of how many lines.
pub record Chained : Type 0 where
  pub rows : List (List Marker)
  pub aside : List Marker
  pub capacity : ℕ
  pub line_capacity : ℕ

abbrev pub chained : List (List Marker) → List Marker → ℕ → ℕ → Chained
chained rows aside capacity line_capacity = record { rows = rows; aside = aside; capacity = capacity; line_capacity = line_capacity }

abbrev pub chained_code : Coded Chained
chained_code =
    code_by (List (List Marker) × (List Marker × (ℕ × ℕ))) (coded× (coded_list (coded_list marker_code)) (coded× (coded_list marker_code) (coded× coded_ℕ coded_ℕ)))
    (λ c. (c.rows, (c.aside, (c.capacity, c.line_capacity)))) (λ p. chained p.0 p.1.0 p.1.1.0 p.1.1.1) (λ _. refl)

-- how many links hold a marker
abbrev pub held : Chained → ℕ
held c = sum_by length c.rows + length c.aside

-- `count` more markers fit in, and the chains of `count` more lines
abbrev pub MarkersFit : ℕ → Chained → Type 0
MarkersFit count c = held c + count ≤ c.capacity

abbrev pub LinesFit : ℕ → Chained → Type 0
LinesFit count c = length c.rows + count ≤ c.line_capacity

-- the markers of the chain from a number on, which has at most n links, from its end on
abbrev pub row_from : ℕ → List Link → ℕ → List Marker
row_from zero links at = []
row_from (suc n) links at = if at == 0 then [] else row_from n links (link_at links at).next ++ ((link_at links at).marker ∷ [])

-- those of each chain, from these numbers on
abbrev pub rows_in : List Link → List ℕ → List (List Marker)
rows_in links heads = map (λ at. row_from (length links) links at) heads

-- the first number of a chain, or 0
abbrev pub head : List ℕ → ℕ
head [] = 0
head (k ∷ ks) = k

-- the links with these numbers follow one another
abbrev pub IsChain : List Link → List ℕ → Type 0
IsChain links [] = Unit {0}
IsChain links (k ∷ ks) = (0 < k) × (k ≤ length links) × ((link_at links k).next ≡ head ks) × IsChain links ks

-- how often a number is in a list
abbrev pub times : ℕ → List ℕ → ℕ
times k [] = 0
times k (j ∷ js) = (if j == k then 1 else 0) + times k js

abbrev pub uses : ℕ → List (List ℕ) → ℕ
uses k chains = sum_by (times k) chains

-- From each first number on there is a chain, no link is in two of them, and each link is in one.
pub record AreLinked (links : List Link) (heads : List ℕ) (chains : List (List ℕ)) : Type 0 where
  pub firsts : heads ≡ map head chains
  pub linked : All (IsChain links) chains
  pub once : (k : ℕ) → uses k chains ≤ 1
  pub full : sum_by length chains ≡ length links

-- the last marker of the line is laid aside
pub record IsLaid (line : ℕ) (old new : Chained) : Type 0 where
  pub front : List Marker
  pub last : Marker
  pub row : slice_index_or old.rows line [] ≡ front ++ (last ∷ [])
  pub is : new ≡ record old { rows = slice_set old.rows line front; aside = last ∷ old.aside }

-- the first marker that was laid aside goes behind those of the line
pub record IsBack (line : ℕ) (old new : Chained) : Type 0 where
  pub first : Marker
  pub rest : List Marker
  pub was : old.aside ≡ first ∷ rest
  pub is : new ≡ record old { rows = slice_set old.rows line (slice_index_or old.rows line [] ++ (first ∷ [])); aside = rest }

-- all markers of the line are laid aside, so that the first one is in front
abbrev pub all_laid : (line : ℕ) → Chained → Chained
all_laid line c = record c { rows = slice_set c.rows line []; aside = slice_index_or c.rows line [] ++ c.aside }

-- what is left of the markers laid aside goes behind those of the line
abbrev pub all_put : (line : ℕ) → (List Marker → List Marker) → Chained → Chained
all_put line left c = record c { rows = slice_set c.rows line (slice_index_or c.rows line [] ++ left c.aside); aside = [] }

-- the first marker that was laid aside is deleted
pub record IsFreed (old new : Chained) : Type 0 where
  pub first : Marker
  pub rest : List Marker
  pub was : old.aside ≡ first ∷ rest
  pub is : new ≡ record old { aside = rest }
