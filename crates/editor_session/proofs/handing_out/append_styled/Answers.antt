use Rattle.editor_session.proofs.Names.{◌≡◌, ℕ, zero, suc, ◌+◌, ◌-◌, ◌≤◌, List, [], ◌∷◌, ◌++◌, map, take, drop, refl, ap, sym, ◌∙◌, arith, Some, slice_get, slice_range, Cell, styles_of, bytes_of, styled_text, append_assoc, drop-map}
use Rattle.ed_model.specs.proved.Lists.{slice_get_drop}
use Rattle.editor_session.proofs.handing_out.append_styled.Goals as goal

-- one cell more
more : (cells : List Cell) (n byte style : ℕ) → slice_get (bytes_of cells) n ≡ Some byte → slice_get (styles_of cells) n ≡ Some style → styled_text (take (suc n) cells) ≡ styled_text (take n cells) ++ byte ∷ style ∷ []
more [] n byte style b s = absurd (cc)
more (c ∷ cells) zero byte style b s =
    let same_byte : c.byte ≡ byte = cc in
    let same_style : c.style ≡ style = cc in
    rw (same_byte, same_style) refl
more (c ∷ cells) (suc n) byte style b s = ap (λ xs. c.byte ∷ c.style ∷ xs) (more cells n byte style b s)

get_behind : (cells : List Cell) (f : Cell → ℕ) (start n place : ℕ) → place ≡ start + n → slice_get (map f (drop start cells)) n ≡ slice_get (map f cells) place
get_behind cells f start n place e = ap (λ xs. slice_get xs n) (sym (drop-map f start cells)) ∙ slice_get_drop start (map f cells) n place e

styled_more : (cells : List Cell) (start place byte style : ℕ) → start ≤ place → slice_get (bytes_of cells) place ≡ Some byte → slice_get (styles_of cells) place ≡ Some style
    → styled_text (slice_range cells start (place + 1)) ≡ styled_text (slice_range cells start place) ++ byte ∷ style ∷ []
styled_more cells start place byte style within b s =
    let at : place ≡ start + (place - start) = omega arith in
    let next : place + 1 - start ≡ suc (place - start) = omega arith in
    ap (λ n. styled_text (take n (drop start cells))) next
    ∙ more (drop start cells) (place - start) byte style
    (get_behind cells (λ (c : Cell). c.byte) start (place - start) place at ∙ b)
    (get_behind cells (λ (c : Cell). c.style) start (place - start) place at ∙ s)

append_two : (xs ys : List ℕ) (a b : ℕ) → ((xs ++ ys) ++ a ∷ []) ++ b ∷ [] ≡ xs ++ (ys ++ a ∷ b ∷ [])
append_two xs ys a b = simp append_assoc

pub loop-place-preserved : goal.loop-place-preserved
loop-place-preserved c =
    let a = c.args in let l = c.loop-place in let first = c.push_reserved.ensures in
    let second = c.push_reserved-in-loop-place.ensures in let cells = a.document.now.document.cells in
    record {
      from = omega (arith, l.invariant.from);
      done = second.items ∙ ap (λ xs. xs ++ c.style.result ∷ []) (first.items ∙ ap (λ xs. xs ++ c.byte.result ∷ []) l.invariant.done)
          ∙ append_two a.target.now.items (styled_text (slice_range cells a.start l.place)) c.byte.result c.style.result
          ∙ ap (λ xs. a.target.now.items ++ xs) (sym (styled_more cells a.start l.place c.byte.result c.style.result l.invariant.from c.byte.ensures c.style.ensures));
      room = omega (arith, l.invariant.room, first.len, first.capacity, second.len, second.capacity, c.loop-place-test.true);
    }
