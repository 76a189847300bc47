use Rattle.document.proofs.Names.{◌+◌, arith, ap, ◌∙◌, subst, List, ℕ, length, take_all, Insert, change_since, WereEdited}
use Rattle.document.proofs.LineSteps.{edited_by}
use Rattle.document.proofs.PieceLemmas.{no_piece, one_more_piece, piece_can, piece_fits}
use Rattle.document.proofs.pieces.put_pieces.Goals as goal

pub putting-init : goal.putting-init
putting-init g c = record { within = omega arith; put = no_piece c.args.cells.now c.args.lines.now c.args.place c.requires.can.indexed }

pub put_piece-requires-clause-can : goal.put_piece-requires-clause-can
put_piece-requires-clause-can g c =
    piece_can c.args.cells.now c.putting.cells c.args.lines.now c.putting.lines c.args.place c.putting.done c.min-end.result c.args.bytes.now c.room_for_steps.ensures.insertion c.room_for_steps.ensures.first c.requires.can
    (omega arith) (omega arith) c.putting.invariant.put

pub put_piece-requires-clause-fits : goal.put_piece-requires-clause-fits
put_piece-requires-clause-fits g c =
    omega (arith, piece_fits c.args.cells.now c.putting.cells c.args.place c.putting.done c.min-end.result c.args.bytes.now c.requires.can.within c.putting.invariant.put.cells (omega arith) (omega arith), c.requires.fits)

pub putting-preserved : goal.putting-preserved
putting-preserved g c =
    record {
      within = omega arith;
      put = one_more_piece c.args.cells.now c.putting.cells c.put_piece.new.cells c.args.lines.now c.putting.lines c.put_piece.new.lines c.args.place c.putting.done c.min-end.result c.args.bytes.now
          c.requires.can.within (omega arith) (omega arith) c.putting.invariant.put c.put_piece.ensures.edit;
    }

pub returns : goal.returns
returns g c =
    let edit = subst (λ (bytes : List ℕ). WereEdited (Insert c.args.place bytes) c.args.cells.now c.putting.cells c.args.lines.now c.putting.lines) (take_all c.putting.done c.args.bytes.now (omega arith)) c.putting.invariant.put in
    let told = c.change_since.ensures
    ∙ ap (λ about. change_since about (c.args.place + length c.args.bytes.now) c.putting.lines.starts c.putting.lines.length) c.lines_about-about.ensures in
    edited_by (Insert c.args.place c.args.bytes.now) c.change_since.result c.args.cells.now c.putting.cells c.args.lines.now c.putting.lines c.requires.can.indexed edit told
