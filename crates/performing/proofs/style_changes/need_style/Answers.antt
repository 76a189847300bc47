use Rattle.performing.proofs.Names.{min, refl, ap, ◌∙◌, arith, common_steps, Kept}
use Rattle.performing.proofs.style_changes.need_style.Goals as goal

pub returns : goal.returns
returns c =
    let d = c.args.document.now.document in
    record {
      document = ap (λ (k : Kept). k.document) c.set_end_styled.ensures ∙ ap (λ n. record d { end_styled = n }) (c.min.ensures ∙ ap (λ n. min n c.args.start) c.end_styled-styled.ensures);
      told = λ v views. refl;
      fits = omega (arith, c.document_is_small.ensures.text);
      memory = grind (arith, common_steps);
    }
