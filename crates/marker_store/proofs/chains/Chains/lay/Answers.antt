use Rattle.marker_store.proofs.Names.{arith, get_or_read}
use Rattle.marker_store.proofs.Deeds.{lines_seen, lays, laid_sound, is_laid}
use Rattle.marker_store.proofs.chains.Chains.lay.Goals as goal

pub relink-next-requires : goal.relink-next-requires
relink-next-requires g c =
    let d = c.self.inside in
    let at = get_or_read d.heads.items c.args.line c.get-at.result (omega (arith, lines_seen d c.self.invariant _ c.self.view_is)) c.get-at.ensures 0 in
    (lays d c.self.invariant _ c.self.view_is c.args.line c.get-at.result c.requires.line at c.requires.some).within

pub invariant_of-self : goal.invariant_of-self
invariant_of-self g c =
    let d = c.self.inside in
    let at = get_or_read d.heads.items c.args.line c.get-at.result (omega (arith, lines_seen d c.self.invariant _ c.self.view_is)) c.get-at.ensures 0 in
    rw (c.relink-next.ensures.links, c.set.ensures, c.relink-next.ensures.next) (laid_sound d c.self.invariant _ c.self.view_is c.args.line c.get-at.result c.requires.line at c.requires.some)

pub returns : goal.returns
returns g c =
    let d = c.self.inside in
    let at = get_or_read d.heads.items c.args.line c.get-at.result (omega (arith, lines_seen d c.self.invariant _ c.self.view_is)) c.get-at.ensures 0 in
    rw (c.relink-next.ensures.links, c.set.ensures, c.relink-next.ensures.next) (is_laid d c.self.invariant _ c.self.view_is c.args.line c.get-at.result c.requires.line at c.requires.some)
