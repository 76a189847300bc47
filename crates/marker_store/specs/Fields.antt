-- What a contract sees of the fields of `Chains`, and what they keep.
use Rattle.std.specs.Prelude.{◌≡◌, ℕ, ◌^◌, ◌<◌, List, ◌∷◌, length, reverse}
use Rattle.marker_store.specs.Chains.{Chained, chained, row_from, rows_in, AreLinked}
use Rattle.marker_store.specs.declared.chains.Chains.TheInside.{Inside}

module _ {A : Type 0} where
  -- the first number of each chain: that of the spare links, that of those laid aside, and that of each line
  abbrev pub all_heads : Inside A → List ℕ
  all_heads c = c.spare ∷ (c.aside ∷ c.heads.items)

  abbrev pub chains_in : Inside A → Chained
  chains_in c =
      chained (rows_in c.links.items c.heads.items) (reverse (row_from (length c.links.items) c.links.items c.aside)) c.links.capacity c.heads.capacity

  -- each link is in one chain, those of the spare chain are counted, and the numbers are small
  pub record AreSound (c : Inside A) : Type 0 where
    pub chains : List (List ℕ)
    pub linked : AreLinked c.links.items (all_heads c) chains
    pub counted : c.unused ≡ length (row_from (length c.links.items) c.links.items c.spare)
    pub small : length c.links.items < 2 ^ 32
