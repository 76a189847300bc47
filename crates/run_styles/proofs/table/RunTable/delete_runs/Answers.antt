use Rattle.run_styles.proofs.Names.{◌≡◌, ◌∙◌, ◌+◌, ◌-◌, refl, sym, ap, arith, get_or, get_or_default, deleted}
use Rattle.run_styles.specs.Table.{list_of, start_or_end}
use Rattle.run_styles.proofs.ByIndex.{run_some}
use Rattle.run_styles.proofs.Becoming.{then_recut}
use Rattle.run_styles.proofs.Deleting.{deleted-none, deleted-deleted, index_within}
use Rattle.run_styles.proofs.table.RunTable.delete_runs.Goals as goal

pub loop-left-init : goal.loop-left-init
loop-left-init g c =
    let none : c.args.count - c.args.count ≡ 0 = omega arith in
    record {
      left = omega arith;
      within = c.requires.range.1;
      becomes = record { list = rw none (sym (deleted-none (list_of c.args.self.now) (start_or_end c.args.self.now c.args.index))); few = omega arith; capacity = refl };
      at = refl;
      index = c.requires.range.0;
      front = refl;
      behind = c.requires.behind;
    }

pub take_from-requires : goal.take_from-requires
take_from-requires g c =
    let within = index_within c.loop-left.self.starts c.loop-left.self.end c.args.index c.loop-left.left c.loop-left.invariant.within c.loop-left-test.true in
    let some = run_some c.args.index c.end_of.ensures.sound.table (omega (arith, c.loop-left.invariant.within)) within in
    (within, omega (arith, some, c.start_of.ensures, c.end_of.ensures.end, c.min-taken.ensures), omega (arith, some, c.start_of.ensures, c.end_of.ensures.end, c.min-taken.ensures))

pub loop-left-smaller : goal.loop-left-smaller
loop-left-smaller g c =
    let within = index_within c.loop-left.self.starts c.loop-left.self.end c.args.index c.loop-left.left c.loop-left.invariant.within c.loop-left-test.true in
    let some = run_some c.args.index c.end_of.ensures.sound.table (omega (arith, c.loop-left.invariant.within)) within in
    omega (arith, some, c.start_of.ensures, c.end_of.ensures.end, c.min-taken.ensures)

pub loop-left-preserved : goal.loop-left-preserved
loop-left-preserved g c =
    let old = c.args.self.now in
    let now = c.loop-left.self in
    let kept = c.loop-left.invariant in
    let within = index_within now.starts now.end c.args.index c.loop-left.left kept.within c.loop-left-test.true in
    let same : get_or now.starts c.args.index now.end ≡ get_or now.starts c.args.index 0 = get_or_default now.starts c.args.index now.end 0 within in
    let taken : (c.args.count - c.loop-left.left) + c.min-taken.result ≡ c.args.count - (c.loop-left.left - c.min-taken.result) = omega (arith, c.min-taken.ensures, kept.left) in
    record {
      left = omega (arith, kept.left);
      within = omega (arith, kept.within, c.take_from.ensures.end, c.take_from.ensures.at, same, c.min-taken.ensures);
      becomes = record {
        list = c.take_from.ensures.becomes.list ∙ rw (kept.at, kept.becomes.list)
            (deleted-deleted (list_of old) (start_or_end old c.args.index) (c.args.count - c.loop-left.left) c.min-taken.result
            ∙ ap (λ n. deleted (list_of old) (start_or_end old c.args.index) n) taken);
        few = omega (arith, c.take_from.ensures.becomes.few, kept.becomes.few);
        capacity = c.take_from.ensures.becomes.capacity ∙ kept.becomes.capacity;
      };
      at = c.take_from.ensures.at.1 ∙ sym same ∙ kept.at;
      index = c.take_from.ensures.at.0;
      front = c.take_from.ensures.front ∙ kept.front;
      behind = c.take_from.ensures.behind kept.behind;
    }

pub returns-clause-becomes : goal.returns-clause-becomes
returns-clause-becomes g c =
    let all : c.args.count - c.loop-left.left ≡ c.args.count = omega (arith, c.loop-left-test.false) in
    then_recut (rw all at c.loop-left.invariant.becomes) c.join_at.ensures.becomes
