use Rattle.macro_script.proofs.Names.{List, [], ◌∷◌, ◌++◌, ap, ◌∙◌, arith, Command, number_of}
use Rattle.macro_script.proofs.Splitting.{read_one, fault_found, found}
use Rattle.macro_script.proofs.lines.read_lines.Goals as goal

pub returns-in-Err-clause-lines : goal.returns-in-Err-clause-lines
returns-in-Err-clause-lines c = fault_found (number_of c.args.version) c.args.text.now c.loop-line.number c.loop-line.rest.now c.in-Some.line.now c.in-Some.after.now c.loop-line.commands.items c.in-Err.fault c.loop-line.invariant.read c.in-Some.ensures c.in-Err.ensures

pub loop-line-preserved : goal.loop-line-preserved
loop-line-preserved c =
    let here = found (number_of c.args.version) c.loop-line.number c.in-Some.line.now c.in-Ok.command c.in-Ok.ensures in
    let added = c.push_reserved.ensures.items ∙ ap (λ (commands : List Command). commands ++ c.in-Ok.command ∷ []) c.reserve.ensures.items in
    record {
      read = read_one (number_of c.args.version) c.args.text.now c.loop-line.number c.loop-line.rest.now c.in-Some.line.now c.in-Some.after.now c.loop-line.commands.items _ c.in-Ok.command c.loop-line.invariant.read c.in-Some.ensures here added;
      few = omega (arith, c.loop-line.invariant.few, c.reserve.ensures.at_most, c.reserve.ensures.len, c.push_reserved.ensures.len, c.push_reserved.ensures.capacity);
    }
