use Rattle.macro_script.proofs.Names.{sym, inl, ap, ◌∙◌, Ok, number_of}
use Rattle.macro_script.proofs.WholeTexts.{bad_version, good_version, lines_found, proper_read}
use Rattle.macro_script.proofs.assembling.assemble.Goals as goal

pub returns-in-Err : goal.returns-in-Err
returns-in-Err c = inl (sym (bad_version c.args.bytes.now c.in-Some.first.now c.in-Some.rest.now c.in-Err.fault c.if-bytes-gt-SCRIPT_LIMIT.false c.in-Some.ensures.0 (sym c.in-Err.ensures)))

pub of_listing-requires-clause-proper : goal.of_listing-requires-clause-proper
of_listing-requires-clause-proper c =
    let whole = good_version c.args.bytes.now c.in-Some.first.now c.in-Some.rest.now (number_of c.in-Ok.version) c.if-bytes-gt-SCRIPT_LIMIT.false c.in-Some.ensures.0 (sym c.in-Ok.ensures) in
    proper_read c.laws_of_scripts.ensures.only_listings_are_read c.args.bytes.now c.in-Ok-read_lines.commands.items (lines_found c.args.bytes.now c.in-Some.rest.now (number_of c.in-Ok.version) c.in-Ok-read_lines.commands.items whole c.in-Ok-read_lines.ensures.lines)

pub returns-in-Ok-read_lines : goal.returns-in-Ok-read_lines
returns-in-Ok-read_lines c =
    let whole = good_version c.args.bytes.now c.in-Some.first.now c.in-Some.rest.now (number_of c.in-Ok.version) c.if-bytes-gt-SCRIPT_LIMIT.false c.in-Some.ensures.0 (sym c.in-Ok.ensures) in
    let found = lines_found c.args.bytes.now c.in-Some.rest.now (number_of c.in-Ok.version) c.in-Ok-read_lines.commands.items whole c.in-Ok-read_lines.ensures.lines in
    inl (ap Ok c.of_listing.ensures ∙ sym found)
