use Rattle.macro_script.proofs.Names.{arith, ◌+◌, ◌≡◌, ◌≤◌, SomeIff, ℕ, length, ap, subst, SFits, w64, to_z-of_z, rules, Message, spelled_int, listed_command, sent_to}
use Rattle.macro_script.proofs.ListedLengths.{length-send}
use Rattle.macro_script.proofs.lengths.send_len.Goals as goal

pub returns-in-Some-clause-len : goal.returns-in-Some-clause-len
returns-in-Some-clause-len c =
    let m : Message = record { number = c.args.number; w = c.args.w; l = c.args.l; text = c.args.text.now } in
    let P : ℕ → Type 0 = λ n. SomeIff c.within_limit.result (n ≤ 65536) n in
    let send = length-send c.args.view m in
    let len = c.in-Some.ensures.len in
    let w-fits : SFits w64 c.args.w = search rules in
    let l-fits : SFits w64 c.args.l = search rules in
    let w = ap (λ z. length (spelled_int z)) (to_z-of_z w-fits) in
    let l = ap (λ z. length (spelled_int z)) (to_z-of_z l-fits) in
    let whole : 4 + (c.id_len.result + c.id_len-2.result) + (c.number_len.result + c.number_len-2.result) + 3 + c.in-Some.len ≡ length (listed_command (sent_to c.args.view m)) = omega arith in
    subst P whole c.within_limit.ensures
