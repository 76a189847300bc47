use Rattle.macro_script.proofs.Names.{rules, ◌≡◌, ◌+◌, ◌≤◌, ◌∷◌, ◌++◌, [], ◌∙◌, ap, sym, true, ℤ, nat_lt, length, SFits, w64, to_z, of_z, to_z-of_z, Command, listing, listed_command, keeps_limits, sent_to}
use Rattle.macro_script.proofs.Adding.{line_added, line_too_long, room_is}
use Rattle.macro_script.proofs.script.Script.fits_send.Goals as goal

pub returns-in-Some : goal.returns-in-Some
returns-in-Some c =
    let send : ℤ → ℤ → Command = λ w l. sent_to c.args.view (record { number = c.args.number; w = w; l = l; text = c.args.text.now }) in
    let w-fits : SFits w64 c.args.w = search rules in
    let l-fits : SFits w64 c.args.l = search rules in
    let sent = send (to_z w64 (of_z w64 c.args.w)) (to_z w64 (of_z w64 c.args.l)) in
    let short : length (listed_command sent) ≤ 65536 = c.in-Some.ensures.len.0 in
    let is : c.in-Some.len ≡ length (listed_command sent) = c.in-Some.ensures.len.1 in
    let keeps : keeps_limits c.self.inside.commands.items ≡ true = c.self.invariant.proper.within in
    room_is c.self.inside.listed c.in-Some.len
    ∙ ap (λ n. nat_lt (n + c.in-Some.len) 16777216) c.self.invariant.proper.length_is
    ∙ ap (λ n. nat_lt (length (listing 2 c.self.inside.commands.items) + n) 16777216) is
    ∙ sym (line_added c.self.inside.commands.items sent keeps short)
    ∙ ap (λ cs. keeps_limits (cs ++ sent ∷ [])) c.self.view_is
    ∙ ap (λ w. keeps_limits (c.args.self.now ++ send w (to_z w64 (of_z w64 c.args.l)) ∷ [])) (to_z-of_z w-fits)
    ∙ ap (λ l. keeps_limits (c.args.self.now ++ send c.args.w l ∷ [])) (to_z-of_z l-fits)

pub returns-in-None : goal.returns-in-None
returns-in-None c =
    let send : ℤ → ℤ → Command = λ w l. sent_to c.args.view (record { number = c.args.number; w = w; l = l; text = c.args.text.now }) in
    let w-fits : SFits w64 c.args.w = search rules in
    let l-fits : SFits w64 c.args.l = search rules in
    let sent = send (to_z w64 (of_z w64 c.args.w)) (to_z w64 (of_z w64 c.args.l)) in
    sym (line_too_long c.args.self.now sent c.in-None.ensures.len)
    ∙ ap (λ w. keeps_limits (c.args.self.now ++ send w (to_z w64 (of_z w64 c.args.l)) ∷ [])) (to_z-of_z w-fits)
    ∙ ap (λ l. keeps_limits (c.args.self.now ++ send c.args.w l ∷ [])) (to_z-of_z l-fits)
