use Rattle.marker_store.proofs.Names.{arith, get_or_read}
use Rattle.marker_store.proofs.Deeds.{lines_seen, aside_at, back_sound, is_back}
use Rattle.marker_store.proofs.chains.Chains.put_back.Goals as goal

pub relink-next-requires : goal.relink-next-requires
relink-next-requires g c = aside_at _ c.self.invariant _ c.self.view_is c.requires.some

pub invariant_of-self : goal.invariant_of-self
invariant_of-self g c =
    let d = c.self.inside in
    let head = get_or_read d.heads.items c.args.line c.get.result (omega (arith, lines_seen d c.self.invariant _ c.self.view_is)) c.get.ensures 0 in
    rw (c.relink-next.ensures.links, c.set.ensures, c.relink-next.ensures.next, head) (back_sound d c.self.invariant _ c.self.view_is c.requires.some c.args.line c.requires.line)

pub returns : goal.returns
returns g c =
    let d = c.self.inside in
    let head = get_or_read d.heads.items c.args.line c.get.result (omega (arith, lines_seen d c.self.invariant _ c.self.view_is)) c.get.ensures 0 in
    rw (c.relink-next.ensures.links, c.set.ensures, c.relink-next.ensures.next, head) (is_back d c.self.invariant _ c.self.view_is c.requires.some c.args.line c.requires.line)
